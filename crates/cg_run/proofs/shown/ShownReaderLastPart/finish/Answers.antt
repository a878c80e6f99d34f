use Rattle.std.proofs.Common.{[], ◌∷◌, ◌++◌, ap, ◌∙◌}
use Rattle.std.specs.Prelude.{option_to_list}
use Rattle.cg_run.specs.Stream.{shown_part}
use Rattle.cg_outcome.specs.declared.outcome.Outcome.TheVariants as out
use Rattle.cg_run.proofs.Parts.{ended_cut, ended_none, ended_some, snap_text, whole_some}
use Rattle.cg_run.proofs.Showing.{last_shown}
use Rattle.cg_run.proofs.shown.ShownReaderLastPart.finish.Goals as goal

pub returns-in-Ok-None : goal.returns-in-Ok-None
returns-in-Ok-None c form p parts h =
    ended_none shown_part c.args.self.decoder (form.0) (form.1) p h.es parts h.parts_are h.taken c.in-Ok-None.field-0 c.in-Ok-None.field-0-is
    (c.in-Ok-None.ensures.finished p h.es h.taken.stop h.taken.stands) c.args.out.now.items

pub returns-in-Ok : goal.returns-in-Ok
returns-in-Ok c form p parts h =
    let s = c.args.self in
    let out = c.args.out.now.items in
    let last = c.in-Ok-Some.field-0 in
    let entry = c.in-Ok-Some.field-0-0 in
    let finished = c.in-Ok-Some.ensures.finished p h.es h.taken.stop h.taken.stands in
    let whole = snap_text shown_part s.decoder (form.0) (form.1) p h.es parts h.parts_are h.taken (h.es ++ option_to_list last) (h.es ++ entry ∷ [])
    (ap (λ o. h.es ++ option_to_list o) c.in-Ok-Some.field-0-is) finished in
    ended_some shown_part s.decoder (form.0) (form.1) p h.es parts h.parts_are h.taken last entry c.in-Ok-Some.field-0-is finished out c.append_text.new.out.items
    (c.in-Ok.ensures.moved.0 ∙ ap (λ t. out ++ t) (last_shown (form.0) s.present.items p h.es entry h.behind whole))

pub returns-in-Ok-Some : goal.returns-in-Ok-Some
returns-in-Ok-Some c form p parts h =
    let entry = c.in-Ok-Some.field-0-0 in (
      (
        shown_part entry ∷ [],
        out.Done,
        (λ e. cc),
        whole_some shown_part c.args.self.decoder (form.0) (form.1) p h.es parts h.parts_are h.taken c.in-Ok-Some.field-0 entry c.in-Ok-Some.field-0-is
            (c.in-Ok-Some.ensures.finished p h.es h.taken.stop h.taken.stands),
      ),
      c.in-Err-append_text.ensures.kept,
    )

pub returns : goal.returns
returns c form p parts h =
    ended_cut shown_part c.args.self.decoder (form.0) (form.1) p h.es parts h.parts_are h.taken c.in-Err.stop (c.in-Err.ensures.finished p h.es h.taken.stop h.taken.stands) c.args.out.now.items

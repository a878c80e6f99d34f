use Rattle.std.proofs.Common.{◌∷◌, []}
use Rattle.cg_run.specs.Stream.{json_part}
use Rattle.cg_outcome.specs.declared.outcome.Outcome.TheVariants as out
use Rattle.cg_run.proofs.Parts.{ended_cut, ended_none, ended_some, whole_some}
use Rattle.cg_run.proofs.entries.EntryReaderLastPart.finish.Goals as goal

pub returns-in-Ok-None : goal.returns-in-Ok-None
returns-in-Ok-None c form p parts h =
    ended_none json_part c.args.self.decoder (form.0) (form.1) p (h.0) parts h.2 h.1 c.in-Ok-None.field-0 c.in-Ok-None.field-0-is (c.in-Ok-None.ensures.finished p (h.0) h.1.stop h.1.stands)
    c.args.out.now.items

pub returns-in-Ok : goal.returns-in-Ok
returns-in-Ok c form p parts h =
    ended_some json_part c.args.self.decoder (form.0) (form.1) p (h.0) parts h.2 h.1 c.in-Ok-Some.field-0 c.in-Ok-Some.entry c.in-Ok-Some.field-0-is
    (c.in-Ok-Some.ensures.finished p (h.0) h.1.stop h.1.stands) c.args.out.now.items c.append_json.new.out.items c.in-Ok.ensures.added

pub returns-in-Ok-Some : goal.returns-in-Ok-Some
returns-in-Ok-Some c form p parts h = (
  (
    json_part c.in-Ok-Some.entry ∷ [],
    out.Done,
    (λ e. cc),
    whole_some json_part c.args.self.decoder (form.0) (form.1) p (h.0) parts h.2 h.1 c.in-Ok-Some.field-0 c.in-Ok-Some.entry c.in-Ok-Some.field-0-is
        (c.in-Ok-Some.ensures.finished p (h.0) h.1.stop h.1.stands),
  ),
  c.in-Err-append_json.ensures.kept,
)

pub returns : goal.returns
returns c form p parts h =
    ended_cut json_part c.args.self.decoder (form.0) (form.1) p (h.0) parts h.2 h.1 c.in-Err.stop (c.in-Err.ensures.finished p (h.0) h.1.stop h.1.stands) c.args.out.now.items

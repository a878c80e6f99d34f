use Rattle.std.specs.Prelude.{option_to_list}
use Rattle.std.proofs.Common.{◌++◌, ◌∷◌, [], ap, ◌∙◌, append-nil}
use Rattle.cg_value.specs.Entry.{EntryData}
use Rattle.cg_tree.specs.Ruled.{ruled}
use Rattle.cg_run.proofs.Keeping.{kept_cut, kept_more, kept_starved, kept_text, kept_whole}
use Rattle.cg_run.proofs.kept.KeptReaderKeptEntries.finish_kept.Goals as goal

pub returns-in-Ok-None : goal.returns-in-Ok-None
returns-in-Ok-None c form p parts h =
    let d = c.args.self.decoder in
    let all = ap (λ o. h.given ++ option_to_list o) c.in-Ok-None.field-0-is ∙ append-nil h.given in
    let text = kept_text d (form.0) (form.1) p h.given h.taken parts h.none (h.given ++ option_to_list c.in-Ok-None.field-0) h.given all (c.in-Ok-None.ensures.finished p h.given h.taken.stop h.taken.stands) in
    kept_whole d (form.0) (form.1) p h.given h.taken parts h.none h.given c.whole.result (ap (λ v. v.items) c.whole.ensures.entries ∙ h.kept) c.whole.ensures.none text

pub returns-in-Ok : goal.returns-in-Ok
returns-in-Ok c form p parts h =
    let d = c.args.self.decoder in
    let entry = c.in-Ok-Some.entry in
    let fs = h.given ++ entry ∷ [] in
    let all = ap (λ o. h.given ++ option_to_list o) c.in-Ok-Some.field-0-is in
    let text = kept_text d (form.0) (form.1) p h.given h.taken parts h.none (h.given ++ option_to_list c.in-Ok-Some.field-0) fs all (c.in-Ok-Some.ensures.finished p h.given h.taken.stop h.taken.stands) in
    let more = kept_more c.args.self.entries.items c.keep.new.entries.items h.given entry h.kept (c.in-Ok.ensures.kept ∙ ap (λ (e : EntryData). c.args.self.entries.items ++ ruled (e ∷ [])) c.in-Ok-Some.entry-is) in
    kept_whole d (form.0) (form.1) p h.given h.taken parts h.none fs c.whole-in-Ok.result (ap (λ v. v.items) c.whole-in-Ok.ensures.entries ∙ more) c.whole-in-Ok.ensures.none text

pub returns-in-Err-keep : goal.returns-in-Err-keep
returns-in-Err-keep c form p parts h =
    let d = c.args.self.decoder in
    let fs = h.given ++ c.in-Ok-Some.entry ∷ [] in
    let all = ap (λ o. h.given ++ option_to_list o) c.in-Ok-Some.field-0-is in
    let text = kept_text d (form.0) (form.1) p h.given h.taken parts h.none (h.given ++ option_to_list c.in-Ok-Some.field-0) fs all (c.in-Ok-Some.ensures.finished p h.given h.taken.stop h.taken.stands) in
    kept_starved d (form.0) (form.1) p h.given h.taken parts h.none fs text

pub returns-in-Err : goal.returns-in-Err
returns-in-Err c form p parts h =
    kept_cut c.args.self.decoder (form.0) (form.1) p h.given h.taken parts h.none c.in-Err.stop (c.in-Err.ensures.finished p h.given h.taken.stop h.taken.stands)

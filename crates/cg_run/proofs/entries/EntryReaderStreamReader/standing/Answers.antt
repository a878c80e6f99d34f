use Rattle.std.proofs.Common.{map}
use Rattle.cg_snap.specs.Snap.{Snap, SnapText}
use Rattle.cg_outcome.specs.declared.outcome.Outcome.TheVariants as out
use Rattle.cg_run.specs.Stood.{snap_stood, whole_spelled}
use Rattle.cg_run.specs.Stream.{WholeOf, json_part}
use Rattle.cg_run.proofs.Standing.{cut_is, wanted_is}
use Rattle.cg_run.proofs.entries.EntryReaderStreamReader.standing.Goals as goal

pub returns-clause-place : goal.returns-clause-place
returns-clause-place c = λ form p h. c.record_place.ensures p h.parts h.stands

pub returns-clause-wanted : goal.returns-clause-wanted
returns-clause-wanted c = λ form p h. wanted_is Snap h.form_is p c.allowed.result (c.allowed.ensures p h.parts h.stands)

pub returns-clause-cut : goal.returns-clause-cut
returns-clause-cut c = λ form p parts t.
    let h = snap_stood c.args.self.now.decoder (form.0) (form.1) p (t.0) t.1 in
    cut_is Snap h.form_is p (WholeOf (map json_part) (λ es. out.Done) (λ bytes es. SnapText (form.0) es bytes)) c.can_finish.result (c.can_finish.ensures p h.parts h.stands)
    (whole_spelled (map json_part) (λ es. out.Done) (λ bytes es. SnapText (form.0) es bytes) p)

pub returns-clause-consumed : goal.returns-clause-consumed
returns-clause-consumed c = λ form p h. c.offset.ensures p h.parts h.stands

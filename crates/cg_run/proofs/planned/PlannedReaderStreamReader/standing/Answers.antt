use Rattle.std.proofs.Common.{map}
use Rattle.cg_snap.specs.Plan.{Plan, PlanText}
use Rattle.cg_outcome.specs.declared.outcome.Outcome.TheVariants as out
use Rattle.cg_run.specs.Stood.{plan_stood, whole_spelled}
use Rattle.cg_run.specs.Stream.{WholeOf, item_part}
use Rattle.cg_run.proofs.Standing.{cut_is, wanted_is}
use Rattle.cg_run.proofs.planned.PlannedReaderStreamReader.standing.Goals as goal

pub returns-clause-place : goal.returns-clause-place
returns-clause-place c = λ form p h. c.record_place.ensures p h.parts h.stands

pub returns-clause-wanted : goal.returns-clause-wanted
returns-clause-wanted c = λ form p h. wanted_is Plan h.form_is p c.allowed.result (c.allowed.ensures p h.parts h.stands)

pub returns-clause-cut : goal.returns-clause-cut
returns-clause-cut c = λ form p parts t.
    let h = plan_stood c.args.self.now.decoder (form.0) (form.1) p (t.0) t.1 in
    cut_is Plan h.form_is p (WholeOf (map item_part) (λ items. out.Done) (λ bytes items. PlanText (form.0) items bytes)) c.can_finish.result (c.can_finish.ensures p h.parts h.stands)
    (whole_spelled (map item_part) (λ items. out.Done) (λ bytes items. PlanText (form.0) items bytes) p)

pub returns-clause-consumed : goal.returns-clause-consumed
returns-clause-consumed c = λ form p h. c.offset.ensures p h.parts h.stands

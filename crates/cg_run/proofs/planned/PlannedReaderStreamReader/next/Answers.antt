use Rattle.cg_snap.specs.Decode.{HasTakenPlan}
use Rattle.cg_snap.specs.Plan.{ClosedPlan}
use Rattle.cg_snap.specs.PlanStop.{IsPlanUnstopped, PlanStopOf}
use Rattle.cg_run.specs.Stream.{item_part}
use Rattle.cg_run.specs.Taken.{taken_closed, taken_unstopped}
use Rattle.cg_run.proofs.Finds.{appended_is}
use Rattle.cg_snap.specs.Streams.{plan_stream}
use Rattle.cg_run.proofs.Pulled.{pulled_is}
use Rattle.cg_run.proofs.Standing.{came_stood}
use Rattle.std.proofs.Common.{◌∙◌}
use Rattle.cg_run.proofs.planned.PlannedReaderStreamReader.next.Goals as goal

pub returns-clause-found : goal.returns-clause-found
returns-clause-found c form p parts h =
    let now = c.next-pulled.new.self in
    let piece = c.args.piece.now in
    let used = c.next-pulled.result.used in
    let what = c.next-pulled.result.what in
    appended_is item_part (λ q items. HasTakenPlan now (form.0) (form.1) q items) (λ q items. ClosedPlan (form.0) q items) (IsPlanUnstopped (form.0) (form.1)) (PlanStopOf (form.0) (form.1))
    (taken_closed now (form.0) (form.1)) (taken_unstopped now (form.0) (form.1)) p (h.0) parts h.2 piece used c.args.out.now.items c.append_found.new.out.items
    what c.append_found.result
    (pulled_is c.args.self.now.decoder now (form.0) (form.1) p (h.0) piece used h.1 c.next-pulled.ensures.form c.next-pulled.ensures.limits
    what (c.next-pulled.ensures.pulled p (h.0) h.1.stop h.1.stands)) c.append_found.ensures

pub returns-clause-stood : goal.returns-clause-stood
returns-clause-stood c form p parts h =
    let now = c.next-pulled.new.self in
    came_stood plan_stream (λ r. r.profile) now (form.0) (form.1) (c.next-pulled.ensures.form ∙ h.1.form_is) (c.next-pulled.ensures.limits ∙ h.1.limits_is) p (h.0) c.args.piece.now c.next-pulled.result.used
    c.next-pulled.result.what c.append_found.result item_part c.args.out.now.items c.append_found.new.out.items (c.next-pulled.ensures.pulled p (h.0) h.1.stop h.1.stands) c.append_found.ensures

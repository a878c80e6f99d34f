use Rattle.cg_snap.specs.PlanLaws.{closed_plan_once}
use Rattle.cg_snap.proofs.laws.closed_plan_once.Goals as goal

pub returns : goal.returns
returns c = closed_plan_once

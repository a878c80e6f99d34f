use Rattle.cg_snap.specs.EncodeLaws.{entries_given_back, items_given_back, plan_encoded_twice, snap_given_back}
use Rattle.cg_snap.specs.PlanLaws.{one_plan}
use Rattle.cg_snap.specs.SnapLaws.{one_list}
use Rattle.cg_snap.proofs.Headline.{entries_of_the_bytes, items_of_the_bytes}
use Rattle.cg_snap.proofs.OneStops.{one_plan_stop, one_stop}
use Rattle.cg_snap.proofs.laws.headline.Goals as goal

pub returns-clause-entries : goal.returns-clause-entries
returns-clause-entries c = entries_of_the_bytes

pub returns-clause-items : goal.returns-clause-items
returns-clause-items c = items_of_the_bytes

pub returns-clause-one_list : goal.returns-clause-one_list
returns-clause-one_list c = one_list

pub returns-clause-one_plan : goal.returns-clause-one_plan
returns-clause-one_plan c = one_plan

pub returns-clause-entries_back : goal.returns-clause-entries_back
returns-clause-entries_back c = entries_given_back

pub returns-clause-snapshot_back : goal.returns-clause-snapshot_back
returns-clause-snapshot_back c = snap_given_back

pub returns-clause-items_back : goal.returns-clause-items_back
returns-clause-items_back c = items_given_back

pub returns-clause-plan_twice : goal.returns-clause-plan_twice
returns-clause-plan_twice c = plan_encoded_twice

pub returns-clause-one_stop : goal.returns-clause-one_stop
returns-clause-one_stop c = one_stop

pub returns-clause-one_plan_stop : goal.returns-clause-one_plan_stop
returns-clause-one_plan_stop c = one_plan_stop

use Rattle.cg_snap.specs.EncodeLaws.{entries_printed, plan_of_items, snap_of_entries}
use Rattle.cg_snap.specs.PlanLaws.{items_printed, one_plan}
use Rattle.cg_snap.specs.SnapLaws.{one_list, snap_is_print}
use Rattle.cg_snap.proofs.laws.one_list.Goals as goal

pub returns-clause-one : goal.returns-clause-one
returns-clause-one c = one_list

pub returns-clause-printed : goal.returns-clause-printed
returns-clause-printed c = snap_is_print

pub returns-clause-one_plan : goal.returns-clause-one_plan
returns-clause-one_plan c = one_plan

pub returns-clause-items_printed : goal.returns-clause-items_printed
returns-clause-items_printed c = items_printed

pub returns-clause-entries_printed : goal.returns-clause-entries_printed
returns-clause-entries_printed c = entries_printed

pub returns-clause-of_entries : goal.returns-clause-of_entries
returns-clause-of_entries c = snap_of_entries

pub returns-clause-of_items : goal.returns-clause-of_items
returns-clause-of_items c = plan_of_items

use Rattle.cg_snap.specs.EncodeLaws.{entries_given_back, items_given_back, plan_encoded_twice, snap_given_back}
use Rattle.cg_snap.proofs.laws.round_trip.Goals as goal

pub returns-clause-entries : goal.returns-clause-entries
returns-clause-entries c = entries_given_back

pub returns-clause-snapshot : goal.returns-clause-snapshot
returns-clause-snapshot c = snap_given_back

pub returns-clause-items : goal.returns-clause-items
returns-clause-items c = items_given_back

pub returns-clause-plan_twice : goal.returns-clause-plan_twice
returns-clause-plan_twice c = plan_encoded_twice

use Rattle.std.proofs.Common.{[], refl, sym}
use Rattle.cg_snap.proofs.PlanStates.{taken_items}
use Rattle.cg_snap.proofs.plan_records.PlanRecords.new.Goals as goal

pub returns-clause-taken : goal.returns-clause-taken
returns-clause-taken c = taken_items _ c.args.profile [] [] refl (record { given = []; split = sym c.new.ensures.items; whole = refl; begun_path = rw c.new.ensures.items tt })

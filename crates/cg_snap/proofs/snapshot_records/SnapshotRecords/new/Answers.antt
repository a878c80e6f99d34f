use Rattle.std.proofs.Common.{[], refl, sym}
use Rattle.cg_snap.proofs.Taken.{taken_records}
use Rattle.cg_snap.proofs.snapshot_records.SnapshotRecords.new.Goals as goal

pub returns-clause-taken : goal.returns-clause-taken
returns-clause-taken c = taken_records _ c.args.profile [] [] refl (record { none = refl; bytes = sym c.new.ensures.items; begun_path = rw c.new.ensures.items tt })

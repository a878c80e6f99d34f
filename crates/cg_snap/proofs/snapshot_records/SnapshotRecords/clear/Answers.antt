use Rattle.std.proofs.Common.{[], refl, sym}
use Rattle.cg_snap.proofs.Taken.{taken_records}
use Rattle.cg_snap.proofs.snapshot_records.SnapshotRecords.clear.Goals as goal

pub returns-clause-taken : goal.returns-clause-taken
returns-clause-taken c = taken_records _ c.args.self.now.profile [] [] refl (rw c.take.ensures.after (record { none = refl; bytes = sym c.clear.ensures.items; begun_path = rw c.clear.ensures.items tt }))

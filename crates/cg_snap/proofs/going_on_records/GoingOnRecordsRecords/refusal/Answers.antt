use Rattle.std.proofs.Common.{arith}
use Rattle.cg_snap.proofs.GoingOnTakes.{next_byte}
use Rattle.cg_snap.proofs.going_on_records.GoingOnRecordsRecords.refusal.Goals as goal

pub returns : goal.returns
returns c form p es h = next_byte p c.args._byte h.bytes (omega (arith, c.ranges._byte.fits))

use Rattle.std.proofs.Common.{[]}
use Rattle.cg_snap.proofs.fault.Fault.allowed.Goals as goal

pub returns : goal.returns
returns c profile block h byte = c.allowed.ensures profile block [] h byte

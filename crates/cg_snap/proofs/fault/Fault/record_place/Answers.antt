use Rattle.std.proofs.Common.{[]}
use Rattle.cg_snap.proofs.fault.Fault.record_place.Goals as goal

pub returns : goal.returns
returns c profile block h = c.record_place.ensures profile block [] h

use Rattle.std.proofs.Common.{◌≡◌}
use Rattle.cg_outcome.specs.ByteNames.{bytes_below}
use Rattle.cg_outcome.proofs.byte_list.bytes_of.Given as goal

abbrev pub invariant-loop-number : goal.invariant-loop-number
invariant-loop-number l = l.list ≡ bytes_below l.set l.within l.number

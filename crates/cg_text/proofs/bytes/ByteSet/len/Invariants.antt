use Rattle.std.proofs.Common.{◌≡◌, take}
use Rattle.cg_text.specs.Bytes.{count_of}
use Rattle.cg_text.proofs.bytes.ByteSet.len.Given as goal

abbrev pub invariant-loop-mark : goal.invariant-loop-mark
invariant-loop-mark l = l.count ≡ count_of (take l.mark-index l.mark-items)

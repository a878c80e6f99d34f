use Rattle.std.proofs.Common.{take}
use Rattle.cg_text.specs.Word.{AreWordBytes}
use Rattle.cg_text.proofs.key.is_word.Given as goal

abbrev pub invariant-loop-byte : goal.invariant-loop-byte
invariant-loop-byte l = AreWordBytes (take l.byte-index l.bytes)

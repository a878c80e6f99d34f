use Rattle.std.proofs.Common.{◌≡◌, take}
use Rattle.cg_text.specs.Hash.{hash_of}
use Rattle.cg_text.specs.Word.{AreWordBytes}
use Rattle.cg_text.proofs.key.word_front.Given as goal

abbrev pub invariant-loop-i : goal.invariant-loop-i
invariant-loop-i l = AreWordBytes (take l.i l.bytes) × (l.hash ≡ hash_of (take l.i l.bytes))

use Rattle.std.proofs.Common.{◌≡◌, take}
use Rattle.cg_text.specs.Hash.{hash_of}
use Rattle.cg_text.proofs.hash.hash_of.Given as goal

abbrev pub invariant-loop-byte : goal.invariant-loop-byte
invariant-loop-byte l = l.hash ≡ hash_of (take l.byte-index l.bytes)

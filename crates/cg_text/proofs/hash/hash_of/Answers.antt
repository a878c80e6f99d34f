use Rattle.std.proofs.Common.{sym}
use Rattle.cg_text.specs.HashLaws.{hash_more, hash_none}
use Rattle.cg_text.proofs.hash.hash_of.Goals as goal

pub loop-byte-init : goal.loop-byte-init
loop-byte-init c = sym hash_none

pub loop-byte-preserved : goal.loop-byte-preserved
loop-byte-preserved c = rw (c.hash_after-hash.ensures, c.loop-byte.invariant) (sym (hash_more c.args.bytes.now c.loop-byte.byte-index c.loop-byte-test.true))

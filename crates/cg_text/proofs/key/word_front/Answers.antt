use Rattle.std.proofs.Common.{sym}
use Rattle.cg_text.specs.HashLaws.{hash_more, hash_none}
use Rattle.cg_text.specs.WordLaws.{word_bytes_more}
use Rattle.cg_text.proofs.key.word_front.Goals as goal

pub loop-i-init : goal.loop-i-init
loop-i-init c = (tt, sym hash_none)

pub loop-i-preserved : goal.loop-i-preserved
loop-i-preserved c = (
  word_bytes_more c.args.bytes.now c.loop-i.i c.loop-i-test.true (c.loop-i.invariant.0) (c.is_word_byte.ensures.0 c.if-not-is_word_byte.false),
  rw (c.hash_after-hash.ensures, c.loop-i.invariant.1) (sym (hash_more c.args.bytes.now c.loop-i.i c.loop-i-test.true)),
)

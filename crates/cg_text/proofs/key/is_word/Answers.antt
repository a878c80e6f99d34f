use Rattle.std.proofs.Common.{◌≡◌, ◌<◌, true, length, arith}
use Rattle.cg_text.specs.WordLaws.{word_byte_at, word_bytes_more}
use Rattle.cg_text.proofs.key.is_word.Goals as goal

pub returns-then-not-is_word_byte : goal.returns-then-not-is_word_byte
returns-then-not-is_word_byte c = (
  λ e. absurd (cc),
  λ word. (let lt : c.loop-byte.byte-index < length c.args.bytes.now = omega arith in
      let is : c.is_word_byte.result ≡ true = c.is_word_byte.ensures.1 (word_byte_at c.args.bytes.now c.loop-byte.byte-index lt word.1) in
      let differs = c.if-not-is_word_byte.true in cc),
)

pub loop-byte-preserved : goal.loop-byte-preserved
loop-byte-preserved c =
    let lt : c.loop-byte.byte-index < length c.args.bytes.now = omega arith in
    word_bytes_more c.args.bytes.now c.loop-byte.byte-index lt c.loop-byte.invariant (c.is_word_byte.ensures.0 c.if-not-is_word_byte.false)

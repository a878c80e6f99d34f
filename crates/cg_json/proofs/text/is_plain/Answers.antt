use Rattle.std.proofs.Common.{◌<◌, length, arith}
use Rattle.std.proofs.Math.Bool.{and-eq-true_iff}
use Rattle.cg_json.specs.CompactLaws.{plain_more}
use Rattle.cg_json.proofs.text.is_plain.Goals as goal

pub loop-byte-preserved : goal.loop-byte-preserved
loop-byte-preserved c = λ both.
    let lt : c.loop-byte.byte-index < length c.args.bytes.now = omega arith in
    let each = (and-eq-true_iff c.loop-byte.plain c.is_plain_byte-plain.result).0 both in
    plain_more c.args.bytes.now c.loop-byte.byte-index lt (c.loop-byte.invariant each.0) (c.is_plain_byte-plain.ensures.0 each.1)

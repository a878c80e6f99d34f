use Rattle.std.proofs.Common.{◌≤◌, get_or, take, arith}
use Rattle.std.proofs.lemmas.List.{take_more}
use Rattle.cg_text.specs.DecimalLaws.{AreDigits_push, read_on_push}
use Rattle.cg_text.proofs.decimal.take_digits.Goals as goal

pub loop-i-preserved : goal.loop-i-preserved
loop-i-preserved c =
    let bytes = c.args.bytes.now in
    let i = c.loop-i.i in
    let byte = get_or bytes i 0 in
    let low : 48 ≤ byte = omega (arith, c.if-not-is_ascii_digit.ensures.cases) in
    let high : byte ≤ 57 = omega (arith, c.if-not-is_ascii_digit.ensures.cases) in
    record {
      digits = rw (take_more bytes i 0 c.loop-i-test.true) (AreDigits_push (take i bytes) byte c.loop-i.invariant.digits low high);
      number = rw (take_more bytes i 0 c.loop-i-test.true, read_on_push c.args.n (take i bytes) byte) (omega (arith, c.loop-i.invariant.number));
      low = omega arith;
      high = omega arith;
    }

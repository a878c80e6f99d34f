use Rattle.std.proofs.Common.{arith}
use Rattle.cg_text.specs.DecimalLaws.{number_begun, number_open}
use Rattle.cg_text.proofs.decimal.begun_digits.Goals as goal

pub returns-clause-follows : goal.returns-clause-follows
returns-clause-follows c =
    let parts = c.in-Some.parts in
    number_begun c.args.lo c.args.hi c.take_digits-number.result.0 parts.0.now c.take_digits-number.result.1 c.args.bytes.now parts.1.now
    c.in-Some.ensures.cases.0 (omega arith) (omega arith) c.take_digits-number.ensures.digits c.take_digits-number.ensures.number

pub returns-clause-live : goal.returns-clause-live
returns-clause-live c =
    number_open c.args.lo c.args.hi c.take_digits-number.result.0 (omega arith) (omega arith) c.take_digits-number.ensures.high

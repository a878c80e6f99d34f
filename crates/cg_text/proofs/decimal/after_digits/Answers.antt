use Rattle.std.proofs.Common.{◌<◌, take, arith, ltb-true}
use Rattle.std.proofs.lemmas.Bool.{and_parts}
use Rattle.cg_text.specs.DecimalLaws.{number_open, number_run}
use Rattle.cg_text.proofs.decimal.after_digits.Goals as goal

pub returns-else-number-lo-clause-follows : goal.returns-else-number-lo-clause-follows
returns-else-number-lo-clause-follows c = rw c.in-Number.is (λ rest v. number_run c.args.lo c.args.hi c.in-Number.n c.take_digits-number.result.0
    (take c.take_digits-number.result.1 c.args.bytes.now) rest v c.take_digits-number.ensures.digits c.take_digits-number.ensures.number)

pub returns-else-number-lo-clause-live : goal.returns-else-number-lo-clause-live
returns-else-number-lo-clause-live c =
    let live = rw c.in-Number.is at c.requires.live in
    let some : 0 < c.in-Number.n = ltb-true _ _ (and_parts _ _ live).0 in
    number_open c.args.lo c.args.hi c.take_digits-number.result.0 (omega arith) (omega arith) c.take_digits-number.ensures.high

use Rattle.std.proofs.Common.{List, ℕ, [], append-nil, refl, subst, take}
use Rattle.cg_text.specs.Decimal.{IsDecimal}
use Rattle.cg_text.proofs.decimal.number_in_front.Goals as goal

pub returns-in-Number : goal.returns-in-Number
returns-in-Number c =
    let number = c.in-Number.number in
    let run = take c.begun_digits-progress.result.1 c.args.bytes.now in
    let follows = rw c.in-Number.is at c.begun_digits-progress.ensures.follows in
    let whole = (follows [] number).0 (c.if-lo-number.true, c.if-number-hi.true, tt, refl) in
    (c.begun_digits-progress.ensures.within, subst (λ (t : List ℕ). IsDecimal c.args.lo c.args.hi number t) (append-nil run) whole)

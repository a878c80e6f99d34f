use Rattle.cg_text.specs.SignedLaws.{within_follows, within_none}
use Rattle.cg_text.proofs.signed.after.Goals as goal

pub returns-in-Some-clause-bounded : goal.returns-in-Some-clause-bounded
returns-in-Some-clause-bounded c =
    let all = rw c.in-Plain.is at c.requires in
    rw c.in-Some.is at all.1

pub returns-in-Some-after_digit-clause-bounded : goal.returns-in-Some-after_digit-clause-bounded
returns-in-Some-after_digit-clause-bounded c =
    let all = rw c.in-Plain.is at c.requires in
    let digits = rw c.in-Some-digits.is at all.0 in
    (within_follows 0 9223372036854775807 c.in-Some-digits.number c.in-Some-after_digit.number c.args.byte c.in-Some-after_digit.ensures digits, within_none 1 9223372036854775808)

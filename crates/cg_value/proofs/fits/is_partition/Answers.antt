use Rattle.std.proofs.Common.{refl}
use Rattle.cg_value.specs.SpelledLaws.{valid_text, invalid_text, reason_text}
use Rattle.cg_value.proofs.fits.is_partition.Goals as goal

pub returns-in-true-None : goal.returns-in-true-None
returns-in-true-None c = rw (c.in-true-None.is-0, c.in-true-None.is-1) (λ _. valid_text c.args.role, λ _. refl)

pub returns-in-false-None : goal.returns-in-false-None
returns-in-false-None c =
    let text = invalid_text c.args.role in
    rw (c.in-false-None.is-0, c.in-false-None.is-1) (λ e. text.0 (c.can_be_invalid.ensures.0 e), λ h. c.can_be_invalid.ensures.1 (text.1 h))

pub returns-then-can_be_invalid : goal.returns-then-can_be_invalid
returns-then-can_be_invalid c =
    let raw = rw c.as_slice.ensures at c.is_raw.ensures in
    let text = reason_text c.args.role c.in-false-Some.reason in
    rw (c.in-false-Some.is-0, c.in-false-Some.is-1) (λ e. text.0 (c.can_be_invalid-in-false-Some.ensures.0 c.if-can_be_invalid.true, raw.0 e), λ h. raw.1 (text.1 h).1)

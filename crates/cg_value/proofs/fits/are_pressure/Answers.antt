use Rattle.cg_value.specs.SpelledLaws.{some_text, full_text, both_text}
use Rattle.cg_value.proofs.fits.are_pressure.Goals as goal

pub returns-in-Some-None : goal.returns-in-Some-None
returns-in-Some-None c =
    let parts = some_text c.in-Some-None.some in
    rw (c.in-Some-None.is-0, c.in-Some-None.is-1) (λ e. parts.0 (c.is_spelled-in-Some-None.ensures.0 e), λ h. c.is_spelled-in-Some-None.ensures.1 (parts.1 h))

pub returns-in-None-Some : goal.returns-in-None-Some
returns-in-None-Some c =
    let parts = full_text c.in-None-Some.full in
    rw (c.in-None-Some.is-0, c.in-None-Some.is-1) (λ e. parts.0 (c.is_spelled.ensures.0 e), λ h. c.is_spelled.ensures.1 (parts.1 h))

pub returns-then-is_spelled : goal.returns-then-is_spelled
returns-then-is_spelled c =
    let parts = both_text c.in-Some-Some.some c.in-Some-Some.full in
    rw (c.in-Some-Some.is-0, c.in-Some-Some.is-1) (λ e. parts.0 (c.is_spelled-in-Some-Some.ensures.0 c.if-is_spelled.true, c.is_spelled-then-is_spelled.ensures.0 e), λ h. c.is_spelled-then-is_spelled.ensures.1 (parts.1 h).1)

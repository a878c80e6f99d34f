use Rattle.std.proofs.Common.{ℕ, not, sym, ap, ◌∙◌, inl, inr, arith}
use Rattle.cg_index.specs.Position.{digit_of}
use Rattle.cg_index.specs.PositionLaws.{one_goes_on, side_at, same_before}
use Rattle.cg_index.proofs.position.first_difference.Goals as goal

pub overflow_add-place : goal.overflow_add-place
overflow_add-place c =
    elim (one_goes_on c.args.a.now c.args.b.now c.loop-place.place c.requires.a c.requires.b c.requires.apart c.loop-place.invariant) [
      | inl less ↦ omega arith
      | inr less ↦ omega arith
    ]

pub loop-place-smaller : goal.loop-place-smaller
loop-place-smaller c =
    elim (one_goes_on c.args.a.now c.args.b.now c.loop-place.place c.requires.a c.requires.b c.requires.apart c.loop-place.invariant) [
      | inl less ↦ omega arith
      | inr less ↦ omega arith
    ]

pub returns-clause-differs : goal.returns-clause-differs
returns-clause-differs c =
    let byte = c.loop-place.place in
    let digit = c.first_digit.result in
    let differs = c.first_digit.ensures.differs in
    side_at c.args.b.now byte digit c.first_digit.ensures.digit
    ∙ ap (λ (x : ℕ). digit_of x digit) (sym c.byte_at-3.ensures)
    ∙ differs
    ∙ ap (λ (x : ℕ). not (digit_of x digit)) c.byte_at-2.ensures
    ∙ ap not (sym (side_at c.args.a.now byte digit c.first_digit.ensures.digit))

pub returns-clause-below : goal.returns-clause-below
returns-clause-below c =
    same_before c.args.a.now c.args.b.now c.loop-place.place c.first_digit.result c.first_digit.ensures.digit c.loop-place.invariant
    (λ k h. ap (λ (x : ℕ). digit_of x k) (sym c.byte_at-2.ensures) ∙ c.first_digit.ensures.below k h ∙ ap (λ (x : ℕ). digit_of x k) c.byte_at-3.ensures)

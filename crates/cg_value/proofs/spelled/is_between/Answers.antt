use Rattle.std.proofs.Common.{◌≤ℤ◌, arith}
use Rattle.std.proofs.lemmas.Int.{ints}
use Rattle.cg_value.specs.SpelledLaws.{signed_text}
use Rattle.cg_value.proofs.spelled.is_between.Goals as goal

pub returns-then-lo-number : goal.returns-then-lo-number
returns-then-lo-number c =
    let text = signed_text c.args.lo c.args.hi c.args.number in
    let low : c.args.lo ≤ℤ c.args.number = grind (arith, ints) in
    (λ e. text.0 (low, grind (arith, ints)), λ h. (let both = text.1 h in grind (arith, ints)))

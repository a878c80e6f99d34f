-- The amount of what a choice spells.
use Rattle.std.specs.Prelude.{ℕ}
use Rattle.cg_text.specs.declared.values.Amount.{Amount}
use Rattle.cg_text.specs.declared.values.Amount.TheVariants.{Whole, Decimal, Max, Below}
use Rattle.cg_text.specs.declared.values.Hundredths.{Hundredths}
use Rattle.cg_join.specs.declared.choice.Either.{Either}
use Rattle.cg_join.specs.declared.choice.Either.TheVariants.{Left, Right}

abbrev pub amount_of : Either (Either ℕ (Either Hundredths (Unit {0}))) (Unit {0} × ℕ) → Amount
amount_of (Left (Left n)) = Whole n
amount_of (Left (Right (Left h))) = Decimal h
amount_of (Left (Right (Right _))) = Max
amount_of (Right v) = Below v.1

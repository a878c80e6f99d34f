-- The limit of what a choice spells.
use Rattle.std.specs.Prelude.{ℕ}
use Rattle.cg_text.specs.declared.values.Limit.{Limit}
use Rattle.cg_text.specs.declared.values.Limit.TheVariants.{Max, At}
use Rattle.cg_join.specs.declared.choice.Either.{Either}
use Rattle.cg_join.specs.declared.choice.Either.TheVariants.{Left, Right}

abbrev pub limit_of : Either ℕ (Unit {0}) → Limit
limit_of (Left n) = At n
limit_of (Right _) = Max

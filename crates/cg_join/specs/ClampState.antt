-- The clamp of what a choice spells.
use Rattle.cg_text.specs.declared.values.Clamp.{Clamp}
use Rattle.cg_text.specs.declared.values.Clamp.TheVariants.{Max, At}
use Rattle.cg_text.specs.declared.values.Hundredths.{Hundredths}
use Rattle.cg_join.specs.declared.choice.Either.{Either}
use Rattle.cg_join.specs.declared.choice.Either.TheVariants.{Left, Right}

abbrev pub clamp_of : Either (Unit {0}) Hundredths → Clamp
clamp_of (Left _) = Max
clamp_of (Right h) = At h

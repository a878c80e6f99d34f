-- The parameter of what a choice spells.
use Rattle.std.specs.Prelude.{ℕ, List, length}
use Rattle.cg_text.specs.declared.values.Hundredths.{Hundredths}
use Rattle.cg_text.specs.declared.values.ParamValue.{ParamValue}
use Rattle.cg_text.specs.declared.values.ParamValue.TheVariants.{Whole, Decimal, Name}
use Rattle.cg_join.specs.declared.choice.Either.{Either}
use Rattle.cg_join.specs.declared.choice.Either.TheVariants.{Left, Right}

abbrev pub param_of : Either (List ℕ) (Either ℕ Hundredths) → ParamValue
param_of (Left name) = Name name
param_of (Right (Left n)) = Whole n
param_of (Right (Right h)) = Decimal h

-- A name value holds its length.
abbrev pub param_size : ParamValue → ℕ
param_size (Whole n) = 0
param_size (Decimal h) = 0
param_size (Name name) = length name

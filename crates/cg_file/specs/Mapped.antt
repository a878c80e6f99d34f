-- How the values of lines are turned into those of files.
use Rattle.std.specs.Prelude.{ℕ}
use Rattle.cg_text.specs.declared.values.Limit.{Limit}
use Rattle.cg_value.specs.declared.value.Value.{Value}
use Rattle.cg_value.specs.declared.value.Value.TheVariants.{Number, Limit as LimitOf}

abbrev pub number_value : ℕ × Unit {0} → Value
number_value v = Number v.0

abbrev pub limit_value : Limit × Unit {0} → Value
limit_value v = LimitOf v.0

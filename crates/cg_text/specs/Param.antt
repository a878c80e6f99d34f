-- Parameters of devices (cgroup-v2.rst, io.cost.qos and io.cost.model: the values of sub-keys).
use Rattle.std.specs.Prelude.{◌≡◌, List, ℕ}
use Rattle.cg_text.specs.Decimal.{IsDecimal}
use Rattle.cg_text.specs.Hundredths.{IsHundredths}
use Rattle.cg_text.specs.Name.{IsNameValue}
use Rattle.cg_text.specs.declared.values.ParamValue.{ParamValue}
use Rattle.cg_text.specs.declared.values.ParamValue.TheVariants.{Whole, Decimal, Name}
use Rattle.cg_text.specs.declared.hundredths.Spelling.TheVariants.{Read}

-- The text is that of a whole number, that of one with two decimals, whose whole part is at most 999999999, or a name value.
abbrev pub IsParam : ParamValue → List ℕ → Type 0
IsParam (Whole n) text = IsDecimal 0 18446744073709551615 n text
IsParam (Decimal h) text = IsHundredths Read 99999999999 h text
IsParam (Name name) text = (name ≡ text) × IsNameValue text

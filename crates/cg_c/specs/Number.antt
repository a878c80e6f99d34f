-- The number that a file has.
use Rattle.std.specs.Prelude.{◌≡◌, ℕ, List, [], Option, Some, None, option_map}
use Rattle.cg_text.specs.declared.values.Limit.{Limit}
use Rattle.cg_text.specs.declared.values.Limit.TheVariants.{At}
use Rattle.cg_value.specs.Files.{FileText}
use Rattle.cg_value.specs.Flat.{number_of}
use Rattle.cg_value.specs.declared.profile.Profile.{Profile}
use Rattle.cg_value.specs.declared.value.Value.{Value}
use Rattle.cg_value.specs.declared.value.Value.TheVariants as value

-- That of the key in a flat value; and where no key is given, that of a number or of a limit.
abbrev pub limit_in : Value → List ℕ → Option Limit
limit_in (value.Number number) [] = Some (At number)
limit_in (value.Limit limit) [] = Some limit
limit_in (value.Flat pairs) key = option_map At (number_of key pairs)
limit_in _ key = None

-- The text is a file of the name, and its value has this number, or none.
abbrev pub IsFileLimit : Profile → List ℕ → List ℕ → List ℕ → Option Limit → Type 0
IsFileLimit profile name text key limit = (v : Value) × FileText profile name v text × (limit_in v key ≡ limit)

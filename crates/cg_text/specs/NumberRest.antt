-- What is left of a decimal text, and of one that may be wanting.
use Rattle.std.specs.Prelude.{ℕ, Bool, false, Option, Some, None, List}
use Rattle.cg_text.specs.DecimalState.{IsDecimalRest, decimal_ends}
use Rattle.cg_text.specs.declared.decimal.DecimalText.{DecimalText}

-- The rest completes a number.
abbrev pub number_rest : DecimalText → List ℕ → ℕ → Type 0
number_rest d rest n = IsDecimalRest d.lo d.hi d.progress rest n

-- Whether nothing need follow.
abbrev pub number_ends : DecimalText → Bool
number_ends d = decimal_ends d.lo d.hi d.progress

-- The same of a text that may be wanting.
abbrev pub maybe_rest : Option DecimalText → List ℕ → ℕ → Type 0
maybe_rest None rest n = ⊥
maybe_rest (Some d) rest n = number_rest d rest n

abbrev pub maybe_ends : Option DecimalText → Bool
maybe_ends None = false
maybe_ends (Some d) = number_ends d

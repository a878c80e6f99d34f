-- Signed decimal numbers (cgroup-v2.rst, cpu.weight.nice).
use Rattle.std.specs.Prelude.{◌≡◌, ℕ, ℤ, pos, negsuc, suc, ◌≤ℤ◌, List, ◌∷◌}
use Rattle.cg_text.specs.Decimal.{IsNumeral}

-- The text is that of the number: digits, after a minus sign where it is below 0.
abbrev pub IsSignedNumeral : ℤ → List ℕ → Type 0
IsSignedNumeral (pos n) text = IsNumeral n text
IsSignedNumeral (negsuc n) text = (digits : List ℕ) × (text ≡ 45 ∷ digits) × IsNumeral (suc n) digits

-- The text is that of a number from lo to hi.
abbrev pub IsSigned : ℤ → ℤ → ℤ → List ℕ → Type 0
IsSigned lo hi z text = (lo ≤ℤ z) × (z ≤ℤ hi) × IsSignedNumeral z text

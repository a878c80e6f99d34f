-- What is left of a signed number.
use Rattle.std.specs.Prelude.{◌≡◌, ℕ, suc, zero, ◌≤◌, ℤ, pos, negsuc, ◌≤ℤ◌, Bool, true, ◌||◌, is_some, List, ◌∷◌}
use Rattle.cg_text.specs.Decimal.{IsNumeral}
use Rattle.cg_text.specs.NumberRest.{number_rest, number_ends, maybe_rest, maybe_ends}
use Rattle.cg_text.specs.declared.signed.Taken.{Taken}
use Rattle.cg_text.specs.declared.signed.Taken.TheVariants.{Plain, Negative}

-- The digits are those of a number below 0 from lo to hi, without its minus sign.
abbrev pub IsMagnitude : ℤ → ℤ → ℕ → List ℕ → Type 0
IsMagnitude lo hi zero digits = ⊥
IsMagnitude lo hi (suc n) digits = (lo ≤ℤ negsuc n) × (negsuc n ≤ℤ hi) × IsNumeral (suc n) digits

-- From lo to hi there is no number above or at 0; none below 0.
abbrev pub LacksPlain : ℤ → ℤ → Type 0
LacksPlain lo hi = (n : ℕ) → lo ≤ℤ pos n → pos n ≤ℤ hi → ⊥

abbrev pub LacksNegative : ℤ → ℤ → Type 0
LacksNegative lo hi = (n : ℕ) → lo ≤ℤ negsuc n → negsuc n ≤ℤ hi → ⊥

-- The rest completes a number.
abbrev pub SignedRest : Taken → List ℕ → ℤ → Type 0
SignedRest (Plain digits magnitude) rest (pos n) = maybe_rest digits rest n
SignedRest (Plain digits magnitude) rest (negsuc n) = (more : List ℕ) × (rest ≡ 45 ∷ more) × maybe_rest magnitude more (suc n)
SignedRest (Negative magnitude) rest (pos n) = ⊥
SignedRest (Negative magnitude) rest (negsuc n) = number_rest magnitude rest (suc n)

-- The numbers lie within these bounds.
abbrev pub AreWithin : ℕ → ℕ → (List ℕ → ℕ → Type 0) → Type 0
AreWithin low high P = (rest : List ℕ) (n : ℕ) → P rest n → (low ≤ n) × (n ≤ high)

-- The numbers fit 64 bits with a sign.
abbrev pub IsBounded : Taken → Type 0
IsBounded (Plain digits magnitude) = AreWithin 0 9223372036854775807 (maybe_rest digits) × AreWithin 1 9223372036854775808 (maybe_rest magnitude)
IsBounded (Negative magnitude) = AreWithin 1 9223372036854775808 (number_rest magnitude)

-- Some rest completes a number.
abbrev pub is_live : Taken → Bool
is_live (Plain digits magnitude) = is_some digits || is_some magnitude
is_live (Negative magnitude) = true

-- Whether nothing need follow.
abbrev pub signed_ends : Taken → Bool
signed_ends (Plain digits magnitude) = maybe_ends digits
signed_ends (Negative magnitude) = number_ends magnitude

-- What is left of a size.
use Rattle.std.specs.Prelude.{◌≡◌, ℕ, ◌*◌, ◌≤◌, ◌⊎◌, Bool, true, List, [], ◌∷◌, ◌++◌}
use Rattle.cg_text.specs.Size.{HasFactor}
use Rattle.cg_text.specs.NumberRest.{number_rest, number_ends}
use Rattle.cg_text.specs.declared.size.Taken.{Taken}
use Rattle.cg_text.specs.declared.size.Taken.TheVariants.{Count, Whole}

-- The rest completes the count m and at most one suffix, of this factor.
abbrev pub HasSizeRest : (List ℕ → ℕ → Type 0) → ℕ → ℕ → List ℕ → Type 0
HasSizeRest P m factor rest = (P rest m × (factor ≡ 1))
    ⊎ ((digits : List ℕ) × (suffix : ℕ) × (rest ≡ digits ++ suffix ∷ []) × P digits m × HasFactor suffix factor)

-- The rest completes the text of n bytes.
pub record IsSizeRest (P : List ℕ → ℕ → Type 0) (rest : List ℕ) (n : ℕ) : Type 0 where
  pub count : ℕ
  pub factor : ℕ
  pub product : n ≡ count * factor
  pub fits : n ≤ 18446744073709551615
  pub spelled : HasSizeRest P count factor rest

abbrev pub SizeRest : Taken → List ℕ → ℕ → Type 0
SizeRest (Count number) rest n = IsSizeRest (number_rest number) rest n
SizeRest (Whole size) rest n = (rest ≡ []) × (n ≡ size)

-- The suffix ends the size of n bytes.
pub record EndsSize (P : List ℕ → ℕ → Type 0) (suffix n : ℕ) : Type 0 where
  pub count : ℕ
  pub factor : ℕ
  pub counted : P [] count
  pub suffix_is : HasFactor suffix factor
  pub product : n ≡ count * factor
  pub fits : n ≤ 18446744073709551615

-- The counts fit 64 bits.
abbrev pub IsSmall : Taken → Type 0
IsSmall (Count number) = (rest : List ℕ) (n : ℕ) → number_rest number rest n → n ≤ 18446744073709551615
IsSmall (Whole size) = Unit {0}

-- Whether nothing need follow.
abbrev pub size_ends : Taken → Bool
size_ends (Count number) = number_ends number
size_ends (Whole size) = true

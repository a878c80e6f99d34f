-- Numbers with two decimals, counted in hundredths (cgroup-v2.rst, "Conventions": a percentage has a fraction of at
-- least two digits; psi.rst: the averages).
use Rattle.std.specs.Prelude.{◌≡◌, ℕ, ◌+◌, ◌-◌, ◌*◌, ◌≤◌, ◌⊎◌, List, [], ◌∷◌, ◌++◌}
use Rattle.cg_text.specs.Decimal.{IsNumeral}
use Rattle.cg_text.specs.declared.values.Hundredths.{Hundredths}
use Rattle.cg_text.specs.declared.hundredths.Spelling.{Spelling}
use Rattle.cg_text.specs.declared.hundredths.Spelling.TheVariants.{Read, Written}

abbrev pub IsDigit : ℕ → Type 0
IsDigit c = (48 ≤ c) × (c ≤ 57)

-- A whole part, a dot and two digits.
pub record HasTwoDigits (count : ℕ) (text : List ℕ) : Type 0 where
  pub whole : ℕ
  pub digits : List ℕ
  pub tenth : ℕ
  pub hundredth : ℕ
  pub text_is : text ≡ digits ++ 46 ∷ tenth ∷ hundredth ∷ []
  pub whole_is : IsNumeral whole digits
  pub tenth_is : IsDigit tenth
  pub hundredth_is : IsDigit hundredth
  pub count_is : count ≡ 100 * whole + 10 * (tenth - 48) + (hundredth - 48)

-- A whole part, a dot and one digit; the missing digit is 0.
pub record HasOneDigit (count : ℕ) (text : List ℕ) : Type 0 where
  pub whole : ℕ
  pub digits : List ℕ
  pub tenth : ℕ
  pub text_is : text ≡ digits ++ 46 ∷ tenth ∷ []
  pub whole_is : IsNumeral whole digits
  pub tenth_is : IsDigit tenth
  pub count_is : count ≡ 100 * whole + 10 * (tenth - 48)

-- A whole part alone; the missing digits are 0.
pub record HasNoDigit (count : ℕ) (text : List ℕ) : Type 0 where
  pub whole : ℕ
  pub whole_is : IsNumeral whole text
  pub count_is : count ≡ 100 * whole

-- The text is that of the number: with two digits where it is read; with two, one or none where it is written.
abbrev pub HasDigits : Spelling → ℕ → List ℕ → Type 0
HasDigits Read count text = HasTwoDigits count text
HasDigits Written count text = HasTwoDigits count text ⊎ (HasOneDigit count text ⊎ HasNoDigit count text)

-- The text is that of a number of at most this many hundredths.
abbrev pub IsHundredths : Spelling → ℕ → Hundredths → List ℕ → Type 0
IsHundredths form most h text = (h.count ≤ most) × HasDigits form h.count text

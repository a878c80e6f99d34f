-- What is left of hundredths.
use Rattle.std.specs.Prelude.{◌≡◌, ℕ, ◌+◌, ◌-◌, ◌*◌, ◌/◌, ◌≤◌, Bool, true, false, ◌&&◌, leb, IsTrue, List, [], ◌∷◌, ◌++◌}
use Rattle.cg_text.specs.DecimalState.{IsDecimalRest, is_open}
use Rattle.cg_text.specs.Hundredths.{IsDigit}
use Rattle.cg_text.specs.declared.decimal.Progress.{Progress}
use Rattle.cg_text.specs.declared.decimal.Progress.TheVariants.{Start, Zero, Number}
use Rattle.cg_text.specs.declared.values.Hundredths.{Hundredths}
use Rattle.cg_text.specs.declared.hundredths.Spelling.{Spelling}
use Rattle.cg_text.specs.declared.hundredths.Spelling.TheVariants.{Read, Written}
use Rattle.cg_text.specs.declared.hundredths.Part.{Part}
use Rattle.cg_text.specs.declared.hundredths.Part.TheVariants.{Whole, Dot, Tenth, Hundredth}

-- Digits after the dot may be left out.
abbrev pub may_leave_out : Spelling → Bool
may_leave_out Read = false
may_leave_out Written = true

-- What follows one digit after the dot, where there are so many hundredths up to it.
abbrev pub AfterTenth : Spelling → ℕ → List ℕ → ℕ → Type 0
AfterTenth form base [] count = (may_leave_out form ≡ true) × (count ≡ base)
AfterTenth form base (c ∷ cs) count = IsDigit c × (cs ≡ []) × (count ≡ base + (c - 48))

-- What follows the dot.
abbrev pub AfterDot : Spelling → ℕ → List ℕ → ℕ → Type 0
AfterDot form base [] count = ⊥
AfterDot form base (c ∷ cs) count = IsDigit c × AfterTenth form (base + 10 * (c - 48)) cs count

-- What follows the whole part.
abbrev pub AfterWhole : Spelling → ℕ → List ℕ → ℕ → Type 0
AfterWhole form whole [] count = (may_leave_out form ≡ true) × (count ≡ 100 * whole)
AfterWhole form whole (c ∷ cs) count = (c ≡ 46) × AfterDot form (100 * whole) cs count

-- What is left of the whole part by P, and what follows.
pub record WholeRest (form : Spelling) (P : List ℕ → ℕ → Type 0) (text : List ℕ) (count : ℕ) : Type 0 where
  pub whole : ℕ
  pub front : List ℕ
  pub back : List ℕ
  pub text_is : text ≡ front ++ back
  pub begins : P front whole
  pub ends : AfterWhole form whole back count

-- What is left of a whole part of at most so many hundredths.
abbrev pub WholePart : ℕ → Progress → List ℕ → ℕ → Type 0
WholePart most progress rest n = IsDecimalRest 0 (most / 100) progress rest n

-- Whether the whole part may end.
abbrev pub whole_ends : ℕ → Progress → Bool
whole_ends most Start = false
whole_ends most Zero = true
whole_ends most (Number n) = leb n (most / 100)

-- The rest completes a count.
abbrev pub PartRest : Spelling → ℕ → Part → List ℕ → ℕ → Type 0
PartRest form most (Whole progress) rest count = WholeRest form (WholePart most progress) rest count
PartRest form most (Dot base) rest count = AfterDot form base rest count
PartRest form most (Tenth base) rest count = AfterTenth form base rest count
PartRest form most (Hundredth base) rest count = (rest ≡ []) × (count ≡ base)

-- The rest completes a number of at most this many hundredths.
abbrev pub HundredthsRest : Spelling → ℕ → Part → List ℕ → Hundredths → Type 0
HundredthsRest form most part rest h = (h.count ≤ most) × PartRest form most part rest h.count

-- What was taken can be completed to at most so many hundredths.
abbrev pub IsWithin : ℕ → Part → Type 0
IsWithin most (Whole progress) = IsTrue (is_open 0 (most / 100) progress)
IsWithin most (Dot base) = base ≤ most
IsWithin most (Tenth base) = base ≤ most
IsWithin most (Hundredth base) = base ≤ most

-- Whether nothing need follow.
abbrev pub hundredths_ends : Spelling → ℕ → Part → Bool
hundredths_ends form most (Whole progress) = may_leave_out form && whole_ends most progress
hundredths_ends form most (Dot base) = false
hundredths_ends form most (Tenth base) = may_leave_out form
hundredths_ends form most (Hundredth base) = true

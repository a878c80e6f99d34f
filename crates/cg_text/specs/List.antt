-- Lists of numbers and ranges (cpuset(7) of man-pages 6.03, "List format":
-- https://man7.org/linux/man-pages/man7/cpuset.7.html).
use Rattle.std.specs.Prelude.{◌≡◌, ℕ, ◌≤◌, ◌<◌, ◌⊎◌, ◌↔◌, List, [], ◌∷◌, ◌++◌}
use Rattle.cg_text.specs.Decimal.{IsDecimal}
use Rattle.cg_text.specs.Numbers.{IsSet, Has}

-- The text of a range of numbers up to most: `a` where its ends are equal, else `a-b`.
abbrev pub IsRangeText : ℕ → ℕ × ℕ → List ℕ → Type 0
IsRangeText most r text = ((r.0 ≡ r.1) × IsDecimal 0 most (r.0) text)
    ⊎ ((r.0 < r.1) × (front : List ℕ) × (back : List ℕ) × (text ≡ front ++ 45 ∷ back) × IsDecimal 0 most (r.0) front × IsDecimal 0 most (r.1) back)

-- The texts of ranges, with commas between.
abbrev pub AreRangeTexts : ℕ → List (ℕ × ℕ) → List ℕ → Type 0
AreRangeTexts most [] text = text ≡ []
AreRangeTexts most (r ∷ []) text = IsRangeText most r text
AreRangeTexts most (r ∷ q ∷ rs) text = (front : List ℕ) × (back : List ℕ) × (text ≡ front ++ 44 ∷ back) × IsRangeText most r front × AreRangeTexts most (q ∷ rs) back

-- The text lists the maximal ranges of the set in order.
abbrev pub IsStrictList : ℕ → List (ℕ × ℕ) → List ℕ → Type 0
IsStrictList most set text = IsSet set × AreRangeTexts most set text

-- The same in any order: `a` or `a-b`, where b may equal a.
abbrev pub IsLooseRangeText : ℕ → ℕ × ℕ → List ℕ → Type 0
IsLooseRangeText most r text = ((r.0 ≡ r.1) × IsDecimal 0 most (r.0) text)
    ⊎ ((r.0 ≤ r.1) × (front : List ℕ) × (back : List ℕ) × (text ≡ front ++ 45 ∷ back) × IsDecimal 0 most (r.0) front × IsDecimal 0 most (r.1) back)

abbrev pub AreLooseTexts : ℕ → List (ℕ × ℕ) → List ℕ → Type 0
AreLooseTexts most [] text = text ≡ []
AreLooseTexts most (r ∷ []) text = IsLooseRangeText most r text
AreLooseTexts most (r ∷ q ∷ rs) text = (front : List ℕ) × (back : List ℕ) × (text ≡ front ++ 44 ∷ back) × IsLooseRangeText most r front × AreLooseTexts most (q ∷ rs) back

-- The text lists ranges in any order whose numbers are those of the set.
abbrev pub IsLooseList : ℕ → List (ℕ × ℕ) → List ℕ → Type 0
IsLooseList most set text = IsSet set × (rs : List (ℕ × ℕ)) × ((n : ℕ) → Has set n ↔ Has rs n) × AreLooseTexts most rs text

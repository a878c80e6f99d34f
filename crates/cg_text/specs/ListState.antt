-- What is left of a list of ranges, as they come.
use Rattle.std.specs.Prelude.{◌≡◌, ℕ, Bool, true, false, Option, List, ◌++◌}
use Rattle.cg_text.specs.List.{IsStrictList, AreLooseTexts}
use Rattle.cg_text.specs.RangesState.{front, ListRest}

-- The text lists the ranges: those of a set in order, or any.
abbrev pub AreTexts : Bool → ℕ → List (ℕ × ℕ) → List ℕ → Type 0
AreTexts true most ranges text = IsStrictList most ranges text
AreTexts false most ranges text = AreLooseTexts most ranges text

-- The last of the ranges so far is not yet known.
abbrev pub IsListRest : Bool → List (ℕ × ℕ) → ℕ → Option ℕ → (List ℕ → ℕ → Type 0) → List ℕ → List (ℕ × ℕ) → Type 0
IsListRest strict items most low P rest all = ListRest strict items most low P (λ rs. all ≡ front items ++ rs) rest

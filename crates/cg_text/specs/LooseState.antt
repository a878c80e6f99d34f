-- What is left of a list of ranges in any order.
use Rattle.std.specs.Prelude.{ℕ, ◌↔◌, List}
use Rattle.cg_text.specs.Numbers.{IsSet, Has}

-- The set has the numbers of the ranges.
abbrev pub Joins : List (ℕ × ℕ) → List (ℕ × ℕ) → Type 0
Joins rs set = IsSet set × ((n : ℕ) → Has set n ↔ Has rs n)

-- R tells the ranges of a rest.
abbrev pub IsLooseRest : (List ℕ → List (ℕ × ℕ) → Type 0) → List ℕ → List (ℕ × ℕ) → Type 0
IsLooseRest R rest set = (rs : List (ℕ × ℕ)) × R rest rs × Joins rs set

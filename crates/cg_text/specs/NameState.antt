-- What is left of a name value.
use Rattle.std.specs.Prelude.{◌≡◌, ℕ, Bool, List, [], ◌∷◌}
use Rattle.cg_text.specs.Name.{IsLower, IsNameValue}
use Rattle.cg_text.specs.WordState.{IsWordRest}

-- The bytes, if any, begin with one of a to z.
abbrev pub IsNameFront : List ℕ → Type 0
IsNameFront [] = Unit {0}
IsNameFront (c ∷ cs) = IsLower c

-- The byte is a to z where it is the first.
abbrev pub IsLowerFirst : List ℕ → ℕ → Type 0
IsLowerFirst taken c = taken ≡ [] → IsLower c

-- The rest makes the name value of what was taken.
abbrev pub IsNameRest : Bool → List ℕ → List ℕ → List ℕ → Type 0
IsNameRest controller taken rest name = IsWordRest controller taken rest name × IsNameValue name

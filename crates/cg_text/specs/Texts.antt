-- Sets of texts: what begins a text of a set, which byte may come next, and the first bad byte.
-- A text is a list of bytes. A set is given by the fact that a text is in it.
use Rattle.std.specs.Prelude.{◌≢◌, ℕ, ◌+◌, ◌<◌, List, [], ◌∷◌, ◌++◌, length, take}

-- The texts that a relation gives a value.
abbrev pub TextOf : {V : Type 0} → (List ℕ → V → Type 0) → List ℕ → Type 0
TextOf {V} R text = (v : V) × R text v

-- Some text of the set begins with these bytes.
pub record Viable (L : List ℕ → Type 0) (front : List ℕ) : Type 0 where
  pub rest : List ℕ
  pub whole : L (front ++ rest)

-- The byte may come next: some text of the set begins with these bytes and it.
abbrev pub Next : (List ℕ → Type 0) → List ℕ → ℕ → Type 0
Next L front byte = Viable L (front ++ byte ∷ [])

-- At k is the first byte after which no text of the set begins so.
pub record FirstBad (L : List ℕ → Type 0) (text : List ℕ) (k : ℕ) : Type 0 where
  pub within : k < length text
  pub before : Viable L (take k text)
  pub after : Viable L (take (k + 1) text) → ⊥

-- The byte isn't in the text.
abbrev pub Lacks : ℕ → List ℕ → Type 0
Lacks b [] = Unit {0}
Lacks b (c ∷ cs) = (c ≢ b) × Lacks b cs

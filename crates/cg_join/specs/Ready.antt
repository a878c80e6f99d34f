-- The empty text with a value, alone or beside other texts.
use Rattle.std.specs.Prelude.{◌≡◌, ℕ, Bool, List, [], ◌⊎◌, IsFalse}

-- The empty text, with this value.
abbrev pub IsReady : {V : Type 0} → V → List ℕ → V → Type 0
IsReady value text v = (text ≡ []) × (v ≡ value)

-- A text of the relation with its value, or the empty text with this value.
abbrev pub IsOrReady : {V : Type 0} → (List ℕ → V → Type 0) → V → List ℕ → V → Type 0
IsOrReady R value text v = R text v ⊎ IsReady value text v

-- What is left of one by P. Where it is begun there is one.
abbrev pub OrReadyRest : {V : Type 0} → Bool → (List ℕ → V → Type 0) → V → List ℕ → V → Type 0
OrReadyRest begun P value rest v = P rest v ⊎ (IsFalse begun × IsReady value rest v)

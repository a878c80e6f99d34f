-- A text, or none.
use Rattle.std.specs.Prelude.{◌≡◌, ℕ, Bool, List, [], Option, Some, None, IsFalse}

-- A text of the relation with its value, or the empty text with none.
abbrev pub IsMaybe : {V : Type 0} → (List ℕ → V → Type 0) → List ℕ → Option V → Type 0
IsMaybe R text None = text ≡ []
IsMaybe R text (Some v) = R text v

-- What is left of one by P. Where it is begun there is one.
abbrev pub MaybeRest : {V : Type 0} → Bool → (List ℕ → V → Type 0) → List ℕ → Option V → Type 0
MaybeRest begun P rest None = IsFalse begun × (rest ≡ [])
MaybeRest begun P rest (Some v) = P rest v

-- The size of the value, if any.
abbrev pub maybe_size : {V : Type 0} → (V → ℕ) → Option V → ℕ
maybe_size f None = 0
maybe_size f (Some v) = f v

-- The pairs that a state holds: while a value is read, the last of them has the word, and not yet the value.
use Rattle.std.specs.Prelude.{◌≡◌, ℕ, List, [], ◌∷◌, ◌++◌}
use Rattle.cg_join.specs.declared.pairs.Stage.{Stage}
use Rattle.cg_join.specs.declared.pairs.Stage.TheVariants.{Before, InWord, InValue}

-- All but the last.
abbrev pub before_last : {X : Type 0} → List X → List X
before_last [] = []
before_last (p ∷ []) = []
before_last (p ∷ q ∷ ps) = p ∷ before_last (q ∷ ps)

-- The size of the last.
abbrev pub last_size : {X : Type 0} → (X → ℕ) → List X → ℕ
last_size f [] = 0
last_size f (p ∷ []) = f p
last_size f (p ∷ q ∷ ps) = last_size f (q ∷ ps)

-- The last has the word.
abbrev pub IsLastWord : {V X : Type 0} → (X → V) → List X → V → Type 0
IsLastWord word [] v = ⊥
IsLastWord word (p ∷ []) v = word p ≡ v
IsLastWord word (p ∷ q ∷ ps) v = IsLastWord word (q ∷ ps) v

-- The pairs that have their values.
abbrev pub whole_pairs : {X : Type 0} → Stage → List X → List X
whole_pairs Before items = items
whole_pairs InWord items = items
whole_pairs InValue items = before_last items

-- The texts that end the word at hand, each with the word. K gives those of the token.
abbrev pub WordAtHand : {V X : Type 0} → (X → V) → Stage → List X → (List ℕ → V → Type 0) → List ℕ → V → Type 0
WordAtHand word Before items K = K
WordAtHand word InWord items K = K
WordAtHand word InValue items K = λ rest v. IsLastWord word items v

-- The last of the old pairs has got the value.
pub record IsCompleted {V W X : Type 0} (word : X → V) (value : X → W) (old : List X) (w : W) (new : List X) : Type 0 where
  pub pair : X
  pub items : new ≡ before_last old ++ pair ∷ []
  pub has_word : IsLastWord word old (word pair)
  pub has_value : value pair ≡ w

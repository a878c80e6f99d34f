-- Pairs of a word and a value, with a delimiter between the two texts, and a separator before each pair.
use Rattle.std.specs.Prelude.{◌≡◌, ℕ, ◌+◌, ◌≤◌, List, [], ◌∷◌, ◌++◌, length, take, map}
use Rattle.cg_join.specs.Repeat.{IsList, IsListAfter}
use Rattle.cg_join.specs.Distinct.{AreDistinct}
use Rattle.cg_join.specs.declared.pairs.Stage.{Stage}
use Rattle.cg_join.specs.declared.pairs.Stage.TheVariants.{Before, InWord, InValue}

module _ {V W X : Type 0} (word : X → V) (value : X → W) (K : List ℕ → V → Type 0) (D : List ℕ → W → Type 0) where
  -- A text of the pair's word, the delimiter, and a text of its value.
  pub record IsPairText (delimiter : ℕ) (text : List ℕ) (p : X) : Type 0 where
    pub front : List ℕ
    pub back : List ℕ
    pub whole : text ≡ front ++ delimiter ∷ back
    pub begins : K front (word p)
    pub ends : D back (value p)

  -- The pair's text is in front of the bytes, and is so long.
  abbrev pub IsPairFront : ℕ → List ℕ → X × ℕ → Type 0
  IsPairFront delimiter bytes found = (found.1 ≤ length bytes) × IsPairText delimiter (take found.1 bytes) found.0

  -- What is left of a pair, where its word isn't ended, or where it is.
  abbrev pub PairRest : Stage → ℕ → List ℕ → X → Type 0
  PairRest Before delimiter rest p = IsPairText delimiter rest p
  PairRest InWord delimiter rest p = IsPairText delimiter rest p
  PairRest InValue delimiter rest p = K [] (word p) × D rest (value p)

-- Any number of texts, also none, with a separator before each: the first by P and the others by R.
abbrev pub AreLedFrom : {X : Type 0} → (List ℕ → X → Type 0) → (List ℕ → X → Type 0) → ℕ → List ℕ → List X → Type 0
AreLedFrom P R separator text [] = text ≡ []
AreLedFrom P R separator text (p ∷ ps) = (back : List ℕ) × (text ≡ separator ∷ back) × IsList P R separator back (p ∷ ps)

-- Any number of texts of the relation, also none, with a separator before each.
abbrev pub AreLed : {X : Type 0} → (List ℕ → X → Type 0) → ℕ → List ℕ → List X → Type 0
AreLed R separator text ps = AreLedFrom R R separator text ps

-- Any number of pairs, also none, with a separator before each, no word twice. R gives a pair's text.
abbrev pub ArePairs : {V X : Type 0} → (X → V) → (List ℕ → X → Type 0) → ℕ → List ℕ → List X → Type 0
ArePairs word R separator text ps = AreLed R separator text ps × AreDistinct (map word ps)

-- The pairs before and those of the rest.
abbrev pub AreLedAfter : {X : Type 0} → Stage → List X → (List ℕ → X → Type 0) → (List ℕ → X → Type 0) → ℕ → List ℕ → List X → Type 0
AreLedAfter {X} Before items P R separator rest all = (ps : List X) × (all ≡ items ++ ps) × AreLedFrom P R separator rest ps
AreLedAfter InWord items P R separator rest all = IsListAfter items P R separator rest all
AreLedAfter InValue items P R separator rest all = IsListAfter items P R separator rest all

-- The same, no word twice.
abbrev pub ArePairsAfter : {V X : Type 0} → (X → V) → Stage → List X → (List ℕ → X → Type 0) → (List ℕ → X → Type 0) → ℕ → List ℕ → List X → Type 0
ArePairsAfter word stage items P R separator rest all = AreLedAfter stage items P R separator rest all × AreDistinct (map word all)

-- The vectors in a pair.
abbrev pub pair_size : {V W X : Type 0} → (X → V) → (X → W) → (V → ℕ) → (W → ℕ) → X → ℕ
pair_size word value f g p = f (word p) + g (value p)

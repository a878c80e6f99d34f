-- The rests of a state of keyed lines.
use Rattle.std.specs.Prelude.{◌≡◌, ℕ, Bool, true, false, Option, List, [], ◌∷◌, map}
use Rattle.cg_join.specs.Distinct.{AreDistinct}
use Rattle.cg_join.specs.Lines.{AreLinesAfter}
use Rattle.cg_join.specs.Keyed.{IsKeyed}
use Rattle.cg_join.specs.declared.pairs.Stage.{Stage}
use Rattle.cg_join.specs.declared.pairs.Stage.TheVariants.{Before, InWord, InValue}

-- Whether a line is begun.
abbrev pub is_begun : Stage → Bool
is_begun Before = false
is_begun InWord = true
is_begun InValue = true

-- Whether its key is ended by the delimiter.
abbrev pub is_delimited : Stage → Bool
is_delimited Before = false
is_delimited InWord = false
is_delimited InValue = true

-- How many ended keys are kept.
abbrev pub kept_keys : Bool → ℕ
kept_keys false = 0
kept_keys true = 1

-- What is left of the line at hand. Where its key is ended, it is the one that is kept.
abbrev pub KeyedRest : {V W X : Type 0} → (X → V) → (X → W) → (List ℕ → V → Type 0) → (List ℕ → W → Type 0) → Option W → ℕ → Bool → List V → List ℕ → X → Type 0
KeyedRest key value K D bare_value delimiter false kept rest p = IsKeyed key value K D bare_value delimiter rest p
KeyedRest key value K D bare_value delimiter true kept rest p = (kept ≡ key p ∷ []) × D rest (value p)

-- The pairs before and those of the rest, no key twice.
abbrev pub AreKeyedAfter : {V X : Type 0} → (X → V) → List X → Bool → (List ℕ → X → Type 0) → (List ℕ → X → Type 0) → ℕ → List ℕ → List X → Type 0
AreKeyedAfter key items begun P R end rest all = AreLinesAfter items begun P R end rest all × AreDistinct (map key all)

-- Lines of a key and what follows it.
use Rattle.std.specs.Prelude.{◌≡◌, ℕ, ◌⊎◌, Option, Some, List, ◌∷◌, ◌++◌, map}
use Rattle.cg_join.specs.Distinct.{AreDistinct}
use Rattle.cg_join.specs.Lines.{AreLines}
use Rattle.cg_join.specs.Pairs.{IsPairText}

-- A text of the pair's key, the delimiter and a text of its value; or the key's text alone, where the value is that of a key alone.
abbrev pub IsKeyed : {V W X : Type 0} → (X → V) → (X → W) → (List ℕ → V → Type 0) → (List ℕ → W → Type 0) → Option W → ℕ → List ℕ → X → Type 0
IsKeyed key value K D bare_value delimiter text p = IsPairText key value K D delimiter text p ⊎ (K text (key p) × (bare_value ≡ Some (value p)))

-- Any number of texts, also none, each with the byte after it, no key twice. R gives a pair's text.
abbrev pub AreKeyedLines : {V X : Type 0} → (X → V) → (List ℕ → X → Type 0) → ℕ → List ℕ → List X → Type 0
AreKeyedLines key R end text ps = AreLines R end text ps × AreDistinct (map key ps)

-- A text of the pair's key, and right behind it one of its value.
pub record IsKeyThen {V W X : Type 0} (key : X → V) (value : X → W) (K : List ℕ → V → Type 0) (D : List ℕ → W → Type 0) (text : List ℕ) (p : X) : Type 0 where
  pub front : List ℕ
  pub back : List ℕ
  pub whole : text ≡ front ++ back
  pub begins : K front (key p)
  pub ends : D back (value p)

-- The text is that of the first, a delimiter, and that of the second.
pub record IsPairOf {V W : Type 0} (K : List ℕ → V → Type 0) (D : List ℕ → W → Type 0) (delimiter : ℕ) (text : List ℕ) (pair : V × W) : Type 0 where
  pub front : List ℕ
  pub back : List ℕ
  pub whole : text ≡ front ++ delimiter ∷ back
  pub begins : K front pair.0
  pub ends : D back pair.1

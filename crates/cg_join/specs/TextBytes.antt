-- Which bytes the texts of a relation have.
use Rattle.std.specs.Prelude.{◌≡◌, ℕ, List, ◌∷◌, ◌++◌}
use Rattle.cg_join.specs.Line.{LacksByte}
use Rattle.cg_join.specs.Repeat.{LacksEmpty}

-- The one text, whose value says nothing.
abbrev pub IsFixed : List ℕ → List ℕ → Unit {0} → Type 0
IsFixed fixed text _ = text ≡ fixed

-- Each byte of each text is one of these.
pub record HasOnly {V : Type 0} (F : ℕ → Type 0) (R : List ℕ → V → Type 0) : Type 0 where
  pub is : (front more : List ℕ) (byte : ℕ) (v : V) → R (front ++ byte ∷ more) v → F byte

-- Each text that isn't empty begins with one of these bytes.
pub record BeginsBy {V : Type 0} (F : ℕ → Type 0) (R : List ℕ → V → Type 0) : Type 0 where
  pub is : (byte : ℕ) (back : List ℕ) (v : V) → R (byte ∷ back) v → F byte

-- Each text has the byte.
pub record HasByte {V : Type 0} (R : List ℕ → V → Type 0) (b : ℕ) : Type 0 where
  pub is : (text : List ℕ) (v : V) → R text v → (front : List ℕ) × (more : List ℕ) × (text ≡ front ++ b ∷ more)

-- No text has the byte.
pub record Lacking {V : Type 0} (R : List ℕ → V → Type 0) (b : ℕ) : Type 0 where
  pub is : LacksByte R b

-- No text is empty.
pub record Filled {V : Type 0} (R : List ℕ → V → Type 0) : Type 0 where
  pub is : LacksEmpty R

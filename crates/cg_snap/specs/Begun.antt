-- The record that is begun: what came of a stream after its last newline.
use Rattle.std.specs.Prelude.{◌≡◌, ℕ, ◌≤◌, ◌⊎◌, List, [], ◌∷◌, ◌++◌, length}
use Rattle.cg_text.specs.Texts.{Lacks}

-- The text is empty or ends with a newline.
abbrev pub IsRecordEnd : List ℕ → Type 0
IsRecordEnd text = (text ≡ []) ⊎ ((front : List ℕ) × (text ≡ front ++ 10 ∷ []))

-- The record that is begun: the bytes after the last newline, all where there is none.
pub record IsBegun (bytes begun : List ℕ) : Type 0 where
  pub front : List ℕ
  pub split : bytes ≡ front ++ begun
  pub ended : IsRecordEnd front
  pub plain : Lacks 10 begun

-- The text ends with a byte of the record that was begun before it.
pub record EndsRecord (text begun : List ℕ) (byte : ℕ) : Type 0 where
  pub front : List ℕ
  pub whole : text ≡ front ++ byte ∷ []
  pub begins : IsBegun front begun

-- With the last byte its record is longer than the limit.
abbrev pub IsLongRecord : ℕ → List ℕ → ℕ → Type 0
IsLongRecord max text place = (begun : List ℕ) × (byte : ℕ) × EndsRecord text begun byte × (max ≤ length begun)

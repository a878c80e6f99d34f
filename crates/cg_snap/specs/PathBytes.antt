-- The bytes of a path that is begun.
use Rattle.std.specs.Prelude.{◌≡◌, ℕ, ◌<◌, ◌≤◌, ◌⊎◌, List, [], ◌∷◌, length, take, get_or}
use Rattle.std.specs.Coded.{×_prop, Unit-prop}
use Rattle.std.specs.List.{AllByRecursion}
use Rattle.std.proofs.Props.{props}
use Rattle.cg_text.specs.Texts.{Lacks}
use Rattle.cg_value.specs.Entry.{IsPathByte}

-- The front of a path.
abbrev pub ArePathBytes : List ℕ → Type 0
ArePathBytes bytes = AllByRecursion IsPathByte bytes

byte_prop : (byte : ℕ) → IsProp (IsPathByte byte)
byte_prop byte = hlevel props

pub path_bytes_prop : (bytes : List ℕ) → IsProp (ArePathBytes bytes)
path_bytes_prop [] = Unit-prop
path_bytes_prop (b ∷ bytes) = ×_prop (byte_prop b) (path_bytes_prop bytes)

-- A byte that ends a path.
abbrev pub EndsPath : ℕ → Type 0
EndsPath byte = (byte ≡ 0) ⊎ (byte ≡ 10)

-- So many path bytes come, and no more.
pub record IsPathFront (bytes : List ℕ) (used : ℕ) : Type 0 where
  pub within : used ≤ length bytes
  pub plain : ArePathBytes (take used bytes)
  pub ends : used < length bytes → EndsPath (get_or bytes used 0)

-- So many bytes of a line come, and no more.
pub record IsLineFront (bytes : List ℕ) (used : ℕ) : Type 0 where
  pub within : used ≤ length bytes
  pub plain : Lacks 10 (take used bytes)
  pub ends : used < length bytes → get_or bytes used 0 ≡ 10

-- A path byte comes.
abbrev pub BeginsPath : List ℕ → Type 0
BeginsPath bytes = (0 < length bytes) × IsPathByte (get_or bytes 0 0)

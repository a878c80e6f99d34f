-- What stands in front of some bytes: a line, or a whole file of one line.
use Rattle.std.specs.Prelude.{◌≡◌, ℕ, ◌≤◌, List, [], ◌∷◌, ◌++◌, length, take}
use Rattle.cg_text.specs.Texts.{Lacks, Next}
use Rattle.cg_value.specs.Files.{KindText, KindFile}
use Rattle.cg_value.specs.Held.{held_of_value}
use Rattle.cg_value.specs.declared.kind.ReadForm.{ReadForm}
use Rattle.cg_value.specs.declared.value.Value.{Value}

-- The bytes begin with a line and its newline: so many bytes.
abbrev pub IsLineFront : List ℕ → ℕ → Type 0
IsLineFront bytes used = (line : List ℕ) × (take used bytes ≡ line ++ 10 ∷ []) × Lacks 10 line

-- The bytes begin with a file of the kind with the value, so many bytes: one line, with which no longer file of the kind
-- begins. The value holds nothing.
pub record IsFileFront (kind : ReadForm) (bytes : List ℕ) (v : Value) (used : ℕ) : Type 0 where
  pub within : used ≤ length bytes
  pub text : KindText kind v (take used bytes)
  pub line : IsLineFront bytes used
  pub last : (byte : ℕ) → Next (KindFile kind) (take used bytes) byte → ⊥
  pub light : held_of_value v ≡ 0

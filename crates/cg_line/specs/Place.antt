-- Where a reader is, by the bytes that it took.
use Rattle.std.specs.Prelude.{◌≡◌, ℕ, ◌⊎◌, Bool, true, false, List, [], ◌∷◌, ◌++◌}
use Rattle.cg_text.specs.Texts.{Lacks, Viable}
use Rattle.cg_value.specs.Files.{KindFile}
use Rattle.cg_value.specs.declared.kind.ReadForm.{ReadForm}

-- No line is begun.
abbrev pub AtLineStart : List ℕ → Type 0
AtLineStart taken = (taken ≡ []) ⊎ ((front : List ℕ) × (taken ≡ front ++ 10 ∷ []))

-- Whether a line is begun.
abbrev pub IsPlace : Bool → List ℕ → Type 0
IsPlace true taken = AtLineStart taken → ⊥
IsPlace false taken = AtLineStart taken

-- No line is begun, and a further line may come.
pub record TakesLine (kind : ReadForm) (taken : List ℕ) : Type 0 where
  pub not_begun : AtLineStart taken
  pub line : List ℕ
  pub plain : Lacks 10 line
  pub goes : Viable (KindFile kind) (taken ++ (line ++ 10 ∷ []))

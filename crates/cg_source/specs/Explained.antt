-- What is told of why bytes are no text.
use Rattle.std.specs.Prelude.{◌≡◌, ◌⊎◌, ℕ, List, length, take, slice_index_or, Some, None, Result, Ok, Err}
use Rattle.cg_text.specs.Texts.{FirstBad}
use Rattle.cg_text.specs.declared.memory.OutOfMemory.{OutOfMemory}
use Rattle.cg_line.specs.Decode.{IsCut, IsStarved}
use Rattle.cg_outcome.specs.Explain.{ExplainsNext, IsInText}
use Rattle.cg_source.specs.declared.explained.Explained.{Explained}
use Rattle.cg_source.specs.declared.explained.Explained.TheVariants.{Line, Whole, NoForm}

-- L is the set of the texts of a file of this name, or of the writes to it.
module _ (L : List ℕ → Type 0) (name bytes : List ℕ) where
  -- The line that explains why the bytes are none: it tells their first bad byte; or their end, where they end before a text does.
  abbrev pub IsExplanation : List ℕ → Type 0
  IsExplanation line =
      ((at : ℕ) × FirstBad L bytes at × ExplainsNext L (IsInText name) (take at bytes) (Some (slice_index_or bytes at 0)) line)
      ⊎ (IsCut L bytes (length bytes) × ExplainsNext L (IsInText name) bytes None line)

-- The line; or that the bytes are a text; or that the name has no form, which IsNone says; or that memory was refused: for a byte
-- with which a text goes on, or for the line.
abbrev pub IsExplained : (IsNone : Type 0) (L : List ℕ → Type 0) (name bytes : List ℕ) → Result Explained OutOfMemory → Type 0
IsExplained IsNone L name bytes (Ok (Line line)) = IsExplanation L name bytes line.items
IsExplained IsNone L name bytes (Ok Whole) = L bytes
IsExplained IsNone L name bytes (Ok NoForm) = IsNone
IsExplained IsNone L name bytes (Err e) = IsStarved L bytes ⊎ ((line : List ℕ) × IsExplanation L name bytes line)

-- A line is told, if there is memory for it.
abbrev pub IsLine : List ℕ → Result Explained OutOfMemory → Type 0
IsLine line (Ok (Line text)) = text.items ≡ line
IsLine line (Ok Whole) = ⊥
IsLine line (Ok NoForm) = ⊥
IsLine line (Err e) = Unit {0}

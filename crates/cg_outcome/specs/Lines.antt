-- Lines of the input, counted.
use Rattle.std.specs.Prelude.{◌≡◌, ℕ, List, length, Option, Some, None}
use Rattle.cg_text.specs.Token.{saturated}
use Rattle.cg_snap.specs.Begun.{IsBegun}
use Rattle.cg_outcome.specs.Explain.{newlines}
use Rattle.cg_outcome.specs.declared.lines.Lines.{Lines}

-- The lines of these bytes are counted: those that have ended, and the bytes of the one that is begun.
pub record AreCounted (lines : Lines) (p : List ℕ) : Type 0 where
  pub begun : List ℕ
  pub begins : IsBegun p begun
  pub ended_is : lines.ended ≡ saturated (newlines p)
  pub begun_is : lines.begun ≡ saturated (length begun)

-- The same, if lines are counted.
abbrev pub AreBehind : Option Lines → List ℕ → Type 0
AreBehind None p = Unit {0}
AreBehind (Some lines) p = AreCounted lines p

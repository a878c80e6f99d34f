-- What the end of a snapshot that is checked leaves, and the lines of its findings.
use Rattle.std.specs.Prelude.{◌≡◌, ℕ, Bool, List, ◌++◌, length, Option}
use Rattle.cg_run.specs.Check.{finding_lines}
use Rattle.cg_outcome.specs.Outcome.{checked, last_line}
use Rattle.cg_outcome.specs.Wrote.{Wrote, joined}
use Rattle.cg_run.specs.declared.kept.Kept.{Kept}
use Rattle.cg_outcome.specs.declared.outcome.Outcome.{Outcome}
use Rattle.cg_outcome.specs.declared.outcome.Outcome.TheVariants as out

-- The parts that were given, and then the lines of what the kept entries break, are those of the whole.
abbrev pub IsKept : (List ℕ → List (List ℕ) → Outcome → Type 0) → List ℕ → List (List ℕ) → Kept → Type 0
IsKept Whole p parts kept = let lines = finding_lines kept.entries.items in Whole p (parts ++ lines) (checked (length lines) kept.left_out)

-- The outcome that is right for these lines behind the parts, and what is written: all; or, where memory was refused, first
-- ones.
abbrev pub AreAllLines : (before lines : List (List ℕ)) (left_out : ℕ) → Outcome → List (List ℕ) → Type 0
AreAllLines before lines left_out o parts = (parts ≡ before ++ lines) × (o ≡ checked (length lines) left_out)

abbrev pub AreLinesRight : (before lines : List (List ℕ)) (left_out : ℕ) → Outcome → List (List ℕ) → Type 0
AreLinesRight before lines left_out out.Done parts = AreAllLines before lines left_out out.Done parts
AreLinesRight before lines left_out (out.Findings n) parts = AreAllLines before lines left_out (out.Findings n) parts
AreLinesRight before lines left_out (out.LeftOut n) parts = AreAllLines before lines left_out (out.LeftOut n) parts
AreLinesRight before lines left_out out.OutOfMemory parts = (more : List (List ℕ)) × (parts ++ more ≡ before ++ lines)
AreLinesRight before lines left_out o parts = ⊥

pub record HasWrittenLines (before lines : List (List ℕ)) (left_out : ℕ) (first now : Option (List ℕ)) (failed : Bool) (o : Outcome) : Type 0 where
  pub wanted : Outcome
  pub parts : List (List ℕ)
  pub right : AreLinesRight before lines left_out wanted parts
  pub wrote : Wrote first now failed (joined parts ++ last_line wanted) wanted o

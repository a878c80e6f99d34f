-- What an output holds of the texts of parts, and what reading leaves of it.
use Rattle.std.specs.Prelude.{◌≡◌, ℕ, Bool, false, List, [], ◌++◌, Option, Result, Ok, Err}
use Rattle.std.specs.Io.KnownBytes.{Consumes, IsAtEnd}
use Rattle.cg_outcome.specs.Input.{Reading}
use Rattle.cg_outcome.specs.Lines.{AreBehind}
use Rattle.cg_run.specs.Run.{DidRunWith}
use Rattle.cg_outcome.specs.Wrote.{HasWritten, joined}
use Rattle.cg_run.specs.Streaming.{Before}
use Rattle.cg_outcome.specs.declared.lines.Lines.{Lines}
use Rattle.cg_outcome.specs.declared.outcome.Outcome.{Outcome}
use Rattle.cg_run.specs.declared.output.Output.{Output}

-- The text of these parts is what the writer took since it had taken first, one text after another, and behind it what the
-- output holds.
pub record Holds (first now : Option (List ℕ)) (parts : List (List ℕ)) (output : Output) : Type 0 where
  pub before : List (List ℕ)
  pub wrote : HasWritten first now before output.written
  pub text : joined parts ≡ joined before ++ output.text.items

-- What was read and written before a call of next.
pub record BeforeNext (Took : List ℕ → List (List ℕ) → Type 0) (first now : Option (List ℕ)) (output : Output) (read : List ℕ) : Type 0 where
  pub parts : List (List ℕ)
  pub took : Took read parts
  pub holds : Holds first now parts output

-- What the loop of reads has done so far: nothing that it read is held.
pub record StreamedSoFar (Took : List ℕ → List (List ℕ) → Type 0) (coming left : Option (List ℕ)) (first now : Option (List ℕ)) (output : Output) (failed : Bool) (lines : Option Lines) : Type 0 where
  pub read : List ℕ
  pub consumed : Consumes coming left read
  pub before : Before Took first now output.written read
  pub none : output.text.items ≡ []
  pub works : failed ≡ false
  pub behind : AreBehind lines read

-- How the reading of a stream went: to the end of the input; or the run ended before, as is right.
abbrev pub StreamedIs : (Took : List ℕ → List (List ℕ) → Type 0) (Right : Reading → Outcome → List (List ℕ) → Type 0) (Tells : Reading → Outcome → List ℕ → Type 0) (coming left : Option (List ℕ)) (read_failed : Bool)
    (first now : Option (List ℕ)) (write_failed : Bool) (lines : Option Lines) → Result Output Outcome → Type 0
StreamedIs Took Right Tells coming left read_failed first now write_failed lines (Ok output) = StreamedSoFar Took coming left first now output read_failed lines × IsAtEnd left
StreamedIs Took Right Tells coming left read_failed first now write_failed lines (Err o) = DidRunWith Right Tells coming left read_failed first now write_failed o

-- What a run of bytes leaves of a reader of one text.
use Rattle.std.specs.Prelude.{ℕ, List, ◌++◌, take}
use Rattle.cg_line.specs.Runs.{StopsAt}
use Rattle.cg_line.specs.declared.reader.PushedRun.{PushedRun}

-- The bytes that were taken, and why no more were. L is the set of the texts, and Took says of some bytes that the reader
-- took them.
pub record IsRunTaken (L Took : List ℕ → Type 0) (taken bytes : List ℕ) (run : PushedRun) : Type 0 where
  pub took : Took (taken ++ take run.used bytes)
  pub stops : StopsAt L taken bytes run.used run.fault

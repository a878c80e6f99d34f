use Rattle.std.proofs.Common.{◌-◌, ◌≤◌, ◌++◌, ℕ, List, Option, take, length}
use Rattle.cg_run.specs.Output.{BeforeNext}
use Rattle.cg_run.proofs.streaming.take_parts.Given as goal

abbrev pub invariant-loop-used : goal.invariant-loop-used
invariant-loop-used g l = record {
  within : l.used ≤ length l.piece;
  before : (form : g.row.S-Setup.Denot) (first : Option (List ℕ)) (read : List ℕ) →
      BeforeNext (g.S.StreamReader.took l.initial.stream form) first (g.W.Sink.taken l.initial.writer) l.initial.output read →
      BeforeNext (g.S.StreamReader.took l.stream form) first (g.W.Sink.taken l.writer) l.output (read ++ take l.used l.piece);
}

abbrev pub decreases-loop-used : goal.decreases-loop-used
decreases-loop-used g l = length l.piece - l.used

use Rattle.std.proofs.Common.{ℕ, List, ◌++◌, Option, map, take}
use Rattle.cg_run.specs.Check.{finding_line}
use Rattle.cg_outcome.specs.Wrote.{HasWritten}
use Rattle.cg_run.proofs.checked.write_lines.Given as goal

abbrev pub invariant-loop-finding : goal.invariant-loop-finding
invariant-loop-finding g l = (first : Option (List ℕ)) (parts : List (List ℕ)) → HasWritten first (g.W.Sink.taken l.initial.writer) parts l.before →
    HasWritten first (g.W.Sink.taken l.writer) (parts ++ map (finding_line l.entries) (take l.finding-index l.found)) l.written

use Rattle.std.proofs.Common.{◌≡◌, ◌-◌, ◌*◌, ◌≤◌, take, length}
use Rattle.std.specs.Io.KnownBytes.{Appends}
use Rattle.cg_value.specs.Table.{rows}
use Rattle.cg_outcome.specs.Kinds.{kinds_lines}
use Rattle.cg_outcome.specs.Wrote.{joined}
use Rattle.cg_outcome.proofs.kinds.told_kinds.Given as goal

abbrev pub invariant-lines : goal.invariant-lines
invariant-lines g l = record {
  few : l.place ≤ length (rows l.profile);
  small : l.written ≤ l.place * 80;
  count : l.written ≡ length (joined (take l.place (kinds_lines l.profile)));
  taken : Appends (g.W.Sink.taken l.initial.writer) (g.W.Sink.taken l.writer) (joined (take l.place (kinds_lines l.profile)));
}

abbrev pub decreases-lines : goal.decreases-lines
decreases-lines g l = length (rows l.profile) - l.place

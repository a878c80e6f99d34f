use Rattle.std.proofs.Common.{◌≤◌, ◌-◌, length, take}
use Rattle.cg_line.specs.Rests.{IsAfter}
use Rattle.cg_line.proofs.read_all.read_all.Given as goal

abbrev pub invariant-loop-at : goal.invariant-loop-at
invariant-loop-at g l = record {
  within : l.at ≤ length l.bytes;
  after : IsAfter g.T.Token.means g.T.Token.size l.initial.text l.text (take l.at l.bytes);
}

abbrev pub decreases-loop-at : goal.decreases-loop-at
decreases-loop-at g l = length l.bytes - l.at

use Rattle.std.proofs.Common.{◌+◌, ◌≤◌, ◌<◌, ◌↔◌, ◌^◌, ◌-◌}
use Rattle.cg_text.specs.DecimalState.{Reaches, Spans}
use Rattle.cg_text.proofs.decimal.reaches.Given as goal

abbrev pub invariant-loop-high : goal.invariant-loop-high
invariant-loop-high l = record {
  above : l.n ≤ l.low;
  order : l.low < l.high;
  small : l.high ≤ 2 ^ 100;
  same : Reaches l.lo l.hi l.n ↔ Spans l.lo l.hi l.low l.high;
}

abbrev pub decreases-loop-high : goal.decreases-loop-high
decreases-loop-high l = l.lo + 1 - l.high

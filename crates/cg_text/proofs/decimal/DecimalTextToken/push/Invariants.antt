use Rattle.std.proofs.Common.{◌≡◌, ◌≤◌, ◌-◌, length, take}
use Rattle.cg_text.specs.DecimalState.{IsDecimalRest}
use Rattle.cg_text.specs.Scan.{FollowsRun}
use Rattle.cg_text.proofs.decimal.DecimalTextToken.push.Given as goal

abbrev pub invariant-loop-used : goal.invariant-loop-used
invariant-loop-used l = record {
  within : l.used ≤ length l.bytes;
  lo : l.self.lo ≡ l.fn.self.lo;
  hi : l.self.hi ≡ l.fn.self.hi;
  follows : FollowsRun (IsDecimalRest l.fn.self.lo l.fn.self.hi) l.fn.self.progress (take l.used l.bytes) l.self.progress;
}

abbrev pub decreases-loop-used : goal.decreases-loop-used
decreases-loop-used l = length l.bytes - l.used

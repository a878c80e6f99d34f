use Rattle.std.proofs.Common.{◌≡◌, ◌≤◌, ◌+◌, ◌-◌, length, take}
use Rattle.cg_text.specs.Scan.{FollowsRun}
use Rattle.cg_text.proofs.steps.push_bytes.Given as goal

abbrev pub invariant-loop-used : goal.invariant-loop-used
invariant-loop-used g l = record {
  within : l.used ≤ length l.bytes;
  follows : FollowsRun g.T.Steps.rests l.fn.token (take l.used l.bytes) l.token;
  size : g.T.Steps.room l.token ≤ g.T.Steps.room l.fn.token + l.used;
  same : l.used ≡ 0 → g.T.Steps.room l.token ≡ g.T.Steps.room l.fn.token;
}

abbrev pub decreases-loop-used : goal.decreases-loop-used
decreases-loop-used g l = length l.bytes - l.used

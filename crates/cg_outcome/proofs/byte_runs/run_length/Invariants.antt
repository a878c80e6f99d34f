use Rattle.std.proofs.Common.{◌≡◌, ◌<◌, ◌≤◌, ◌+◌, ◌-◌, drop, length}
use Rattle.cg_outcome.specs.ByteNames.{run_of}
use Rattle.cg_outcome.proofs.byte_runs.run_length.Given as goal

abbrev pub invariant-loop-length : goal.invariant-loop-length
invariant-loop-length l = record {
  some : 0 < l.length;
  within : l.length ≤ length l.bytes;
  run : run_of l.bytes + 1 ≡ l.length + run_of (drop (l.length - 1) l.bytes);
}

abbrev pub decreases-loop-length : goal.decreases-loop-length
decreases-loop-length l = length l.bytes - l.length

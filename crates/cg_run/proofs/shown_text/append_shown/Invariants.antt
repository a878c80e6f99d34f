use Rattle.std.proofs.Common.{◌≡◌, ◌≤◌, ◌-◌, ◌++◌, length, take}
use Rattle.cg_run.specs.ShownBytes.{shown_bytes}
use Rattle.cg_run.proofs.shown_text.append_shown.Given as goal

abbrev pub invariant-loop-used : goal.invariant-loop-used
invariant-loop-used l = record {
  within : l.used ≤ length l.bytes;
  shows : l.text.items ≡ l.fn.text.items ++ shown_bytes (take l.used l.bytes);
}

abbrev pub decreases-loop-used : goal.decreases-loop-used
decreases-loop-used l = length l.bytes - l.used

use Rattle.std.proofs.Common.{◌≡◌, ◌≤◌, ◌-◌, ◌++◌, ℕ, List, Option, drop, length}
use Rattle.cg_outcome.specs.ByteNames.{items, listed}
use Rattle.cg_outcome.specs.Wrote.{HasWrittenText}
use Rattle.cg_outcome.proofs.ByteTold.{told_behind}
use Rattle.cg_outcome.proofs.byte_runs.tell_bytes.Given as goal

abbrev pub invariant-loop-at : goal.invariant-loop-at
invariant-loop-at g l = record {
  within : l.at ≤ length l.bytes;
  told : (first : Option (List ℕ)) (text : List ℕ) → HasWrittenText first (g.W.Sink.taken l.initial.writer) text l.initial.written →
      (so : List ℕ) × HasWrittenText first (g.W.Sink.taken l.writer) (text ++ so) l.written × (so ++ told_behind l.at (items 0 (drop l.at l.bytes)) ≡ listed (items 0 l.bytes));
}

abbrev pub decreases-loop-at : goal.decreases-loop-at
decreases-loop-at g l = length l.bytes - l.at

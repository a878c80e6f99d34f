use Rattle.std.proofs.Common.{ℕ, List, ◌++◌, take}
use Rattle.cg_outcome.specs.Lines.{AreCounted}
use Rattle.cg_outcome.proofs.lines.lines_behind.Given as goal

abbrev pub invariant-loop-byte : goal.invariant-loop-byte
invariant-loop-byte l = (p : List ℕ) → AreCounted l.initial.counted p → AreCounted l.counted (p ++ take l.byte-index l.bytes)

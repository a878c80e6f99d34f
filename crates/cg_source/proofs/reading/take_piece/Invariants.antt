use Rattle.std.proofs.Common.{◌≡◌, ◌+◌, ◌-◌, ◌≤◌, ◌++◌, ℕ, List, take, length}
use Rattle.cg_source.specs.Reading.{GoesOn}
use Rattle.cg_source.proofs.reading.take_piece.Given as goal

abbrev pub invariant-loop-used : goal.invariant-loop-used
invariant-loop-used g l = record {
  within : l.used ≤ length l.piece;
  small : l.at + l.used ≤ l.max;
  kept : l.lines ≡ l.initial.lines;
  goes_on : (form : g.row.T-Grammar.Denot) (taken : List ℕ) → l.at ≡ length taken → GoesOn (g.T.TextReader.took l.initial.reader form) l.max taken →
      GoesOn (g.T.TextReader.took l.reader form) l.max (taken ++ take l.used l.piece);
}

abbrev pub decreases-loop-used : goal.decreases-loop-used
decreases-loop-used g l = length l.piece - l.used

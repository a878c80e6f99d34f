use Rattle.std.specs.Prelude.{is_some}
use Rattle.std.proofs.Common.{◌≡◌, ◌-◌, ◌+◌, ◌<◌, ◌≤◌, false, [], length}
use Rattle.cg_outcome.specs.Lines.{AreBehind}
use Rattle.cg_source.specs.Reading.{ReadSoFar}
use Rattle.cg_source.proofs.reading.read_all.Given as goal

abbrev pub invariant-reads : goal.invariant-reads
invariant-reads g l = record {
  room : 0 < length l.buffer;
  same : is_some l.lines ≡ is_some l.initial.lines;
  small : l.at ≤ l.max;
  asks : g.R.Source.asks l.source ≤ g.R.Source.asks l.initial.source + l.at;
  read : (form : g.row.T-Grammar.Denot) → g.T.TextReader.took l.initial.reader form [] → g.R.Source.has_failed l.initial.source ≡ false → AreBehind l.initial.lines [] →
      ReadSoFar (g.T.TextReader.took l.reader form) l.max (g.R.Source.coming l.initial.source) (g.R.Source.coming l.source) (g.R.Source.has_failed l.source) l.at l.lines;
}

abbrev pub decreases-reads : goal.decreases-reads
decreases-reads g l = (l.max + 1) - l.at

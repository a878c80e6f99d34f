use Rattle.std.proofs.Common.{◌≡◌, ◌-◌, ◌+◌, ◌<◌, ◌≤◌, false, [], List, ℕ, Option, is_some, length}
use Rattle.cg_outcome.specs.Lines.{AreBehind}
use Rattle.cg_run.specs.Output.{StreamedSoFar}
use Rattle.cg_run.specs.Streaming.{Before}
use Rattle.cg_run.proofs.streaming.read_stream.Given as goal

abbrev pub invariant-reads : goal.invariant-reads
invariant-reads g l = record {
  room : 0 < length l.buffer;
  same : is_some l.lines ≡ is_some l.initial.lines;
  none : l.output.text.items ≡ [];
  some : (form : g.row.S-Setup.Denot) × (g.S.StreamReader.limit form ≡ l.max) × (first : Option (List ℕ)) × (read : List ℕ) ×
      Before (g.S.StreamReader.took l.stream form) first (g.W.Sink.taken l.writer) l.output.written read;
  asks : g.R.Source.asks l.reader ≤ g.R.Source.asks l.initial.reader + g.S.StreamReader.offset l.stream;
  read : (form : g.row.S-Setup.Denot) → g.S.StreamReader.limit form ≡ l.max → g.S.StreamReader.took l.initial.stream form [] [] → g.R.Source.has_failed l.initial.reader ≡ false → AreBehind l.initial.lines [] →
      StreamedSoFar (g.S.StreamReader.took l.stream form) (g.R.Source.coming l.initial.reader) (g.R.Source.coming l.reader) (g.W.Sink.taken l.initial.writer) (g.W.Sink.taken l.writer) l.output (g.R.Source.has_failed l.reader) l.lines;
}

abbrev pub decreases-reads : goal.decreases-reads
decreases-reads g l = (l.max + 1) - g.S.StreamReader.offset l.stream

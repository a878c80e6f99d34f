use Rattle.std.proofs.Common.{length, ◌-◌, ◌≡◌, ◌≤◌, take}
use Rattle.std.specs.Io.KnownBytes.{Appends}
use Rattle.cg_print.proofs.text.write_text.Given as goal

abbrev pub invariant-pieces : goal.invariant-pieces
invariant-pieces g l = record {
  within : l.at ≤ length l.text;
  taken : Appends (g.W.Sink.taken l.initial.writer) (g.W.Sink.taken l.writer) (take l.at l.text);
  failed : g.W.Sink.has_failed l.writer ≡ g.W.Sink.has_failed l.initial.writer;
}

abbrev pub decreases-pieces : goal.decreases-pieces
decreases-pieces g l = length l.text - l.at

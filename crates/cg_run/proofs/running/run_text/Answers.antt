use Rattle.std.specs.Prelude.{is_some}
use Rattle.std.proofs.Common.{[], inl, refl, ◌≤◌, take, length, length-take, arith}
use Rattle.cg_snap.specs.Stop.{place_of}
use Rattle.cg_outcome.specs.Explain.{ExplainsNext, IsInText}
use Rattle.cg_outcome.specs.Spot.{more_words}
use Rattle.cg_text.specs.Texts.{TextOf}
use Rattle.cg_outcome.specs.declared.outcome.Outcome.TheVariants as out
use Rattle.cg_source.proofs.Took.{goes_unstopped, nothing_written}
use Rattle.cg_outcome.proofs.Spots.{text_tells}
use Rattle.cg_run.proofs.RunLemmas.{byte_stop, end_right}
use Rattle.cg_run.proofs.running.run_text.Goals as goal

pub returns-in-End-clause-ran : goal.returns-in-End-clause-ran
returns-in-End-clause-ran g c form fresh_text fresh lines =
    let h = c.in-End.ensures.read form fresh_text fresh lines in
    let text = g.T.TextReader.text form in
    let reader = c.read_all.new.reader in
    let told = c.told_end.ensures.ended form h.read h.ends.0.0 h.ends.3 h.behind in
    let unstopped = goes_unstopped (TextOf text) (g.T.TextReader.took reader form) (g.met.T.TextReader.viable reader form) c.args.max h.read h.ends.0 in
    record {
      read = h.read;
      consumed = h.consumed;
      wanted = told.wanted;
      parts = told.parts;
      right = end_right text g.T.TextReader.printed c.args.max
          (record { bytes = h.read; left = g.R.Source.coming c.read_all.new.source; failed = g.R.Source.has_failed c.read_all.new.source })
          h.ends.1 h.ends.2 unstopped told.wanted told.parts told.right;
      more = told.more;
      tells = rw (← c.read_all.ensures.same) (told.tells (record { bytes = h.read; left = g.R.Source.coming c.read_all.new.source; failed = g.R.Source.has_failed c.read_all.new.source }) refl);
      wrote = told.wrote;
    }

pub returns-in-Stopped-clause-ran : goal.returns-in-Stopped-clause-ran
returns-in-Stopped-clause-ran g c form fresh_text fresh lines =
    let h = c.in-Stopped.ensures.read form fresh_text fresh lines in
    let few : length (take (place_of c.in-Stopped.stop) h.read) ≤ 18446744073709551615 = omega (arith, length-take (place_of c.in-Stopped.stop) h.read, h.ends.within, c.ranges.max.fits) in
    record {
      read = h.read;
      consumed = h.consumed;
      wanted = out.Stopped c.in-Stopped.stop;
      parts = [];
      right = (byte_stop (g.T.TextReader.text form) g.T.TextReader.printed c.args.max _ c.in-Stopped.stop h.ends.stops, refl);
      more = more_words c.text_spot-spot.result;
      tells = rw (← c.read_all.ensures.same) (text_tells (TextOf (g.T.TextReader.text form)) (ExplainsNext (TextOf (g.T.TextReader.text form)) (IsInText c.args.name.now)) (is_some c.read_all.new.lines) h.read c.args.max c.in-Stopped.stop c.in-Stopped.byte (more_words c.text_spot-spot.result) h.ends.stops h.ends.byte_is
          (c.text_spot-spot.ensures form (take (place_of c.in-Stopped.stop) h.read) h.ends.took few h.behind));
      wrote = c.write_stop.ensures.wrote (g.W.Sink.taken c.args.writer.now) [] (nothing_written (g.W.Sink.taken c.args.writer.now));
    }

pub returns-in-OutOfMemory-clause-ran : goal.returns-in-OutOfMemory-clause-ran
returns-in-OutOfMemory-clause-ran g c form fresh_text fresh lines =
    let h = c.in-OutOfMemory.ensures.read form fresh_text fresh lines in
    record { read = h.read; consumed = h.consumed; wanted = out.OutOfMemory; parts = []; right = (tt, inl h.ends); more = []; tells = refl; wrote = c.told_line-in-OutOfMemory.ensures }

pub returns-in-ReadFault-clause-ran : goal.returns-in-ReadFault-clause-ran
returns-in-ReadFault-clause-ran g c form fresh_text fresh lines =
    let h = c.in-ReadFault.ensures.read form fresh_text fresh lines in
    record { read = h.read; consumed = h.consumed; wanted = out.ReadFault; parts = []; right = (record { unstopped = h.ends.0; failed = h.ends.1 }, refl); more = []; tells = refl; wrote = c.told_line.ensures }

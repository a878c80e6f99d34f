use Rattle.cg_run.proofs.Checking.{stream_checked}
use Rattle.cg_run.proofs.Streams.{early_right}
use Rattle.cg_run.proofs.checked.run_check.Goals as goal

pub returns-in-Err-clause-ran : goal.returns-in-Err-clause-ran
returns-in-Err-clause-ran g c form limit fresh works lines =
    let h = c.in-Err.ensures.read form limit fresh works lines in
    record {
      read = h.read;
      consumed = h.consumed;
      wanted = h.wanted;
      parts = h.parts;
      right = stream_checked (g.K.StreamReader.whole form) (g.K.StreamReader.closes form) (g.K.StreamReader.unstopped form) (g.K.StreamReader.stops form) _ h.wanted h.parts
          (early_right (g.K.StreamReader.took c.read_stream.new.stream form) (g.K.StreamReader.whole form) (g.K.StreamReader.closes form) (g.K.StreamReader.unstopped form) (g.K.StreamReader.stops form) _ h.wanted h.parts h.right);
      more = h.more;
      tells = h.tells;
      wrote = h.wrote;
    }

pub returns-in-Ok-clause-ran : goal.returns-in-Ok-clause-ran
returns-in-Ok-clause-ran g c form limit fresh works lines =
    let h = c.in-Ok.ensures.read form limit fresh works lines in
    let e = c.write_findings.ensures.ended form (g.W.Sink.taken c.args.writer.now) h.0.read limit h.0.behind h.0.before
    (g.R.Source.coming c.read_stream.new.reader) (g.R.Source.has_failed c.read_stream.new.reader) h.1 h.0.works in
    record {
      read = h.0.read;
      consumed = h.0.consumed;
      wanted = e.wanted;
      parts = e.parts;
      right = e.right;
      more = e.more;
      tells = rw (← c.read_stream.ensures.same) e.tells;
      wrote = e.wrote;
    }

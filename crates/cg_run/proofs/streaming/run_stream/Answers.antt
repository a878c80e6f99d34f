use Rattle.cg_run.proofs.Streams.{early_right}
use Rattle.cg_run.proofs.Written.{holds_none}
use Rattle.cg_run.proofs.streaming.run_stream.Goals as goal

pub returns-in-Err-clause-ran : goal.returns-in-Err-clause-ran
returns-in-Err-clause-ran g c form limit fresh works counted =
    let s = c.read_stream.new.stream in
    let h = c.in-Err.ensures.read form limit fresh works counted in
    record {
      read = h.read;
      consumed = h.consumed;
      wanted = h.wanted;
      parts = h.parts;
      right = early_right (g.S.StreamReader.took s form) (g.S.StreamReader.whole form) (g.S.StreamReader.closes form)
          (g.S.StreamReader.unstopped form) (g.S.StreamReader.stops form) _ h.wanted h.parts h.right;
      more = h.more;
      tells = h.tells;
      wrote = h.wrote;
    }

pub returns-in-Ok-clause-ran : goal.returns-in-Ok-clause-ran
returns-in-Ok-clause-ran g c form limit fresh works counted =
    let h = c.in-Ok.ensures.read form limit fresh works counted in
    let b = h.0.before in
    let holds = holds_none (g.W.Sink.taken c.args.writer.now) (g.W.Sink.taken c.read_stream.new.writer) b.parts c.in-Ok.output h.0.none b.wrote in
    let e = c.write_end.ensures.ended form (g.W.Sink.taken c.args.writer.now) h.0.read limit h.0.behind (record { parts = b.parts; took = b.took; holds = holds })
    (g.R.Source.coming c.read_stream.new.reader) (g.R.Source.has_failed c.read_stream.new.reader) h.1 h.0.works in
    record {
      read = h.0.read;
      consumed = h.0.consumed;
      wanted = e.wanted;
      parts = e.parts;
      right = e.right;
      more = e.more;
      tells = rw (← c.read_stream.ensures.same) e.tells;
      wrote = e.wrote;
    }

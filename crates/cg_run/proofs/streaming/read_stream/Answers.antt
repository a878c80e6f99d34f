use Rattle.std.proofs.Common.{◌++◌, ◌∙◌, is_some, length-append, arith}
use Rattle.std.proofs.lemmas.Result.{err_from_is_err_and}
use Rattle.cg_run.proofs.Streams.{read_fault_ends}
use Rattle.cg_source.proofs.Took.{Consumes-kept, Consumes-trans}
use Rattle.cg_run.proofs.Written.{holds_none}
use Rattle.cg_run.proofs.streaming.read_stream.Goals as goal

pub returns-in-Err-clause-read : goal.returns-in-Err-clause-read
returns-in-Err-clause-read g c form limit fresh works counted =
    let h = c.reads.invariant.read form limit fresh works counted in
    let b = h.before in
    let s = c.reads.stream in
    let first = g.W.Sink.taken c.args.writer.now in
    let e = read_fault_ends (g.S.StreamReader.took s form) (g.S.StreamReader.whole form) (g.S.StreamReader.closes form) (g.S.StreamReader.unstopped form) (g.S.StreamReader.stops form)
    (is_some c.args.lines.now) (g.S.StreamReader.explained form) h.read (g.R.Source.coming c.pull.new.self) (g.R.Source.has_failed c.pull.new.self) first (g.W.Sink.taken c.write_after.new.writer) (g.W.Sink.has_failed c.write_after.new.writer)
    b.parts (g.met.S.StreamReader.passed s form h.read b.parts b.took) (g.met.S.StreamReader.closed s form h.read b.parts b.took)
    c.write_after.result c.in-Err.ensures.bytes.1 (c.write_after.ensures.wrote first b.parts b.wrote) in
    record {
      read = h.read;
      consumed = Consumes-kept _ (g.R.Source.coming c.reads.reader) _ h.read h.consumed c.in-Err.ensures.bytes.0;
      wanted = e.wanted;
      parts = e.parts;
      right = e.right;
      more = e.more;
      tells = e.tells;
      wrote = e.wrote;
    }

pub reads-smaller : goal.reads-smaller
reads-smaller g c =
    let i = c.reads.invariant.some in
    let holds = holds_none (i.2) (g.W.Sink.taken c.reads.writer) i.4.parts c.reads.output c.reads.invariant.none i.4.wrote in
    let b = c.in_ok-take_parts.ensures.took i.0 i.2 i.3 i.1 (record { parts = i.4.parts; took = i.4.took; holds = holds }) in
    let old = g.met.S.StreamReader.counted c.reads.stream i.0 i.3 i.4.parts i.4.took in
    let new = g.met.S.StreamReader.counted c.take_parts.new.stream i.0 (i.3 ++ c.split_at.result.0.now) b.parts b.took in
    omega (arith, old.0, old.1, new.0, new.1, i.1, length-append i.3 c.split_at.result.0.now, c.split_at.ensures.front_len, c.if-count-eq0.false)

pub reads-preserved : goal.reads-preserved
reads-preserved g c =
    let i = c.reads.invariant.some in
    let piece = c.split_at.result.0.now in
    let first = g.W.Sink.taken c.args.writer.now in
    let holds = holds_none (i.2) (g.W.Sink.taken c.reads.writer) i.4.parts c.reads.output c.reads.invariant.none i.4.wrote in
    let b = c.in_ok-take_parts.ensures.took i.0 i.2 i.3 i.1 (record { parts = i.4.parts; took = i.4.took; holds = holds }) in
    let old = g.met.S.StreamReader.counted c.reads.stream i.0 i.3 i.4.parts i.4.took in
    let new = g.met.S.StreamReader.counted c.take_parts.new.stream i.0 (i.3 ++ piece) b.parts b.took in
    record {
      same = c.lines_behind.ensures.same ∙ c.reads.invariant.same;
      room = omega (arith, c.in-Ok.ensures.bytes.0, c.if-count-eq0.false);
      none = c.in_ok-take_parts.ensures.none;
      some = (i.0, i.1, i.2, i.3 ++ piece, b);
      asks = omega (arith, old.0, new.0, c.reads.invariant.asks, c.in-Ok.ensures.asks, length-append i.3 piece, c.split_at.ensures.front_len, c.if-count-eq0.false);
      read = λ form limit fresh works counted.
          let h = c.reads.invariant.read form limit fresh works counted in
          let held = holds_none first (g.W.Sink.taken c.reads.writer) h.before.parts c.reads.output c.reads.invariant.none h.before.wrote in
          record {
            read = h.read ++ piece;
            consumed = Consumes-trans _ (g.R.Source.coming c.reads.reader) _ h.read piece h.consumed (rw c.split_at.ensures.front c.in-Ok.ensures.bytes.1);
            before = c.in_ok-take_parts.ensures.took form first h.read limit (record { parts = h.before.parts; took = h.before.took; holds = held });
            none = c.in_ok-take_parts.ensures.none;
            works = c.in-Ok.ensures.bytes.3 ∙ h.works;
            behind = c.lines_behind.ensures.counted h.read h.behind;
          };
    }

pub returns-in_err-take_parts-clause-read : goal.returns-in_err-take_parts-clause-read
returns-in_err-take_parts-clause-read g c form limit fresh works counted =
    let h = c.reads.invariant.read form limit fresh works counted in
    let piece = c.split_at.result.0.now in
    let first = g.W.Sink.taken c.args.writer.now in
    let held = holds_none first (g.W.Sink.taken c.reads.writer) h.before.parts c.reads.output c.reads.invariant.none h.before.wrote in
    let e = c.in_err-take_parts.ensures.took form first h.read limit (record { parts = h.before.parts; took = h.before.took; holds = held }) h.behind (g.R.Source.coming c.pull.new.self) (g.R.Source.has_failed c.pull.new.self) in
    let answer = err_from_is_err_and c.from_residual.result c.from_residual.ensures.1 in
    rw (answer.1, answer.2) (record {
      read = h.read ++ piece;
      consumed = Consumes-trans _ (g.R.Source.coming c.reads.reader) _ h.read piece h.consumed (rw c.split_at.ensures.front c.in-Ok.ensures.bytes.1);
      wanted = e.wanted;
      parts = e.parts;
      right = e.right;
      more = e.more;
      tells = rw (← c.reads.invariant.same) e.tells;
      wrote = e.wrote;
    })

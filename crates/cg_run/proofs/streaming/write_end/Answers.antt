use Rattle.std.specs.Prelude.{Err, is_some}
use Rattle.std.proofs.Common.{◌++◌, ◌≤◌, length, refl, subst, arith}
use Rattle.cg_snap.specs.declared.decode.StreamFault.{StreamFault}
use Rattle.cg_outcome.specs.Outcome.{last_line}
use Rattle.cg_outcome.specs.Wrote.{Wrote, joined}
use Rattle.cg_run.specs.Streaming.{EndIs}
use Rattle.cg_outcome.specs.declared.outcome.Outcome.{Outcome}
use Rattle.cg_run.specs.declared.output.Output.{Output}
use Rattle.cg_outcome.specs.Spot.{more_words}
use Rattle.cg_run.proofs.Streams.{cut_ends, done_ends, last_memory_ends, never_cut}
use Rattle.cg_run.proofs.Written.{holds_more, holds_same}
use Rattle.cg_run.proofs.streaming.write_end.Goals as goal

pub returns-in-Ok-clause-ended : goal.returns-in-Ok-clause-ended
returns-in-Ok-clause-ended g c form first read limit lines b left failed ended works =
    let s = c.args.stream in
    let e = c.in-Ok.ensures form read b.parts b.took in
    let all = b.parts ++ e.0 in
    let output : Output = record { text = c.finish.new.out; written = c.args.output.now.written } in
    let holds = holds_more first (g.W.Sink.taken c.args.writer.now) b.parts c.args.output.now b.holds (e.0) output e.2 refl in
    done_ends (g.S.StreamReader.took s form) (g.S.StreamReader.whole form) (g.S.StreamReader.closes form) (g.S.StreamReader.unstopped form) (g.S.StreamReader.stops form)
    (is_some c.args.lines) (g.S.StreamReader.explained form) read left failed first (g.W.Sink.taken c.finish-in-Ok.new.writer) (g.W.Sink.has_failed c.finish-in-Ok.new.writer) b.parts
    (g.met.S.StreamReader.passed s form read b.parts b.took) (g.met.S.StreamReader.closed s form read b.parts b.took) ended works
    all c.in-Ok.left_out c.finish-in-Ok.result e.1 (subst (λ (w : Outcome). Wrote first (g.W.Sink.taken c.finish-in-Ok.new.writer) (g.W.Sink.has_failed c.finish-in-Ok.new.writer) (joined all ++ last_line w) w c.finish-in-Ok.result)
    c.gone_on.ensures (c.finish-in-Ok.ensures.wrote first all holds))

pub returns-in-Err-Stopped-clause-ended : goal.returns-in-Err-Stopped-clause-ended
returns-in-Err-Stopped-clause-ended g c form first read limit lines b left failed ended works =
    let s = c.args.stream in
    let whole = g.S.StreamReader.whole form in
    let e = subst (λ (f : StreamFault). EndIs whole read b.parts c.args.output.now.text.items c.finish.new.out.items (Err f)) c.in-Err-Stopped.field-0-is (c.in-Err-Stopped.ensures form read b.parts b.took) in
    let all = rw c.if-is_cut.false at (c.standing-is_cut.ensures.cut form read b.parts b.took) in
    absurd (never_cut whole read c.in-Err-Stopped.stop all e.0)

pub returns-then-is_cut-clause-ended : goal.returns-then-is_cut-clause-ended
returns-then-is_cut-clause-ended g c form first read limit lines b left failed ended works =
    let s = c.args.stream in
    let stands = g.met.S.StreamReader.stands s form read b.parts b.took in
    let few : length read ≤ 18446744073709551615 = omega (arith, g.met.S.StreamReader.within s form read stands, limit, c.ranges.max.fits) in
    let none = rw c.if-is_cut.true at (c.standing-is_cut.ensures.cut form read b.parts b.took) in
    cut_ends (g.S.StreamReader.took s form) (g.S.StreamReader.whole form) (g.S.StreamReader.closes form) (g.S.StreamReader.unstopped form) (g.S.StreamReader.stops form)
    (is_some c.args.lines) (g.S.StreamReader.explained form) read left failed first (g.W.Sink.taken c.stop.new.writer) (g.W.Sink.has_failed c.stop.new.writer) b.parts
    (g.met.S.StreamReader.passed s form read b.parts b.took) (g.met.S.StreamReader.closed s form read b.parts b.took) ended works
    c.standing-is_cut.result.consumed c.stop.result (more_words c.stream_spot-spot.result) (c.standing-is_cut.ensures.consumed form read stands, none)
    (c.stream_spot-spot.ensures form read stands few lines)
    (c.stop.ensures.wrote first b.parts b.holds)

pub returns-in-Err-OutOfMemory-clause-ended : goal.returns-in-Err-OutOfMemory-clause-ended
returns-in-Err-OutOfMemory-clause-ended g c form first read limit lines b left failed ended works =
    let s = c.args.stream in
    let after = c.finish-in-Err-OutOfMemory in
    let e = subst (λ (f : StreamFault). EndIs (g.S.StreamReader.whole form) read b.parts c.args.output.now.text.items c.finish.new.out.items (Err f)) c.in-Err-OutOfMemory.field-0-is (c.in-Err-OutOfMemory.ensures form read b.parts b.took) in
    let output : Output = record { text = c.finish.new.out; written = c.args.output.now.written } in
    let holds = holds_same first (g.W.Sink.taken c.args.writer.now) b.parts c.args.output.now b.holds output e.1 refl in
    last_memory_ends (g.S.StreamReader.took s form) (g.S.StreamReader.whole form) (g.S.StreamReader.closes form) (g.S.StreamReader.unstopped form) (g.S.StreamReader.stops form)
    (is_some c.args.lines) (g.S.StreamReader.explained form) read left failed first (g.W.Sink.taken after.new.writer) (g.W.Sink.has_failed after.new.writer) b.parts
    (g.met.S.StreamReader.passed s form read b.parts b.took) (g.met.S.StreamReader.closed s form read b.parts b.took) ended works
    (e.0.0) (e.0.1) after.result e.0.2 e.0.3 (after.ensures.wrote first b.parts holds)

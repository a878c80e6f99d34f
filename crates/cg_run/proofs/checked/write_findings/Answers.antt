use Rattle.std.specs.Prelude.{is_some}
use Rattle.std.proofs.Common.{◌≤◌, length, refl, subst, arith}
use Rattle.cg_run.specs.Check.{finding_lines}
use Rattle.cg_outcome.specs.Outcome.{checked}
use Rattle.cg_outcome.specs.Spot.{more_words}
use Rattle.cg_run.specs.Streaming.{IsEndFault}
use Rattle.cg_run.proofs.Checking.{ends_checked, lines_end, memory_end}
use Rattle.cg_run.proofs.Streams.{cut_ends, never_cut}
use Rattle.cg_run.proofs.checked.write_findings.Goals as goal

pub returns-in-Err-Stopped-clause-ended : goal.returns-in-Err-Stopped-clause-ended
returns-in-Err-Stopped-clause-ended g c form first read limit lines b left failed ended works =
    let whole = g.K.StreamReader.whole form in
    let fault = subst (IsEndFault whole read b.parts) c.in-Err-Stopped.field-0-is (c.in-Err-Stopped.ensures form read b.parts b.took) in
    let all = rw c.if-is_cut.false at (c.standing-is_cut.ensures.cut form read b.parts b.took) in
    absurd (never_cut whole read c.in-Err-Stopped.stop all fault)

pub returns-then-is_cut-clause-ended : goal.returns-then-is_cut-clause-ended
returns-then-is_cut-clause-ended g c form first read limit lines b left failed ended works =
    let stands = g.met.K.StreamReader.stands c.args.kept form read b.parts b.took in
    let few : length read ≤ 18446744073709551615 = omega (arith, g.met.K.StreamReader.within c.args.kept form read stands, limit, c.ranges.max.fits) in
    let none = rw c.if-is_cut.true at (c.standing-is_cut.ensures.cut form read b.parts b.took) in
    ends_checked (g.K.StreamReader.whole form) (g.K.StreamReader.closes form) (g.K.StreamReader.unstopped form) (g.K.StreamReader.stops form)
    (is_some c.args.lines) (g.K.StreamReader.explained form) read left failed first (g.W.Sink.taken c.write_stop.new.writer) (g.W.Sink.has_failed c.write_stop.new.writer) b.parts
    (g.met.K.StreamReader.passed c.args.kept form read b.parts b.took) (g.met.K.StreamReader.closed c.args.kept form read b.parts b.took) ended works
    c.write_stop.result (cut_ends (g.K.StreamReader.took c.args.kept form) (g.K.StreamReader.whole form) (g.K.StreamReader.closes form) (g.K.StreamReader.unstopped form) (g.K.StreamReader.stops form)
    (is_some c.args.lines) (g.K.StreamReader.explained form) read left failed first (g.W.Sink.taken c.write_stop.new.writer) (g.W.Sink.has_failed c.write_stop.new.writer) b.parts
    (g.met.K.StreamReader.passed c.args.kept form read b.parts b.took) (g.met.K.StreamReader.closed c.args.kept form read b.parts b.took) ended works
    c.standing-is_cut.result.consumed c.write_stop.result (more_words c.stream_spot-spot.result) (c.standing-is_cut.ensures.consumed form read stands, none)
    (c.stream_spot-spot.ensures form read stands few lines)
    (c.write_stop.ensures.wrote first b.parts b.wrote))

pub returns-in-Err-OutOfMemory-clause-ended : goal.returns-in-Err-OutOfMemory-clause-ended
returns-in-Err-OutOfMemory-clause-ended g c form first read limit lines b left failed ended works =
    let after = c.write_after-in-Err-OutOfMemory in
    let fault = subst (IsEndFault (g.K.StreamReader.whole form) read b.parts) c.in-Err-OutOfMemory.field-0-is (c.in-Err-OutOfMemory.ensures form read b.parts b.took) in
    memory_end (g.K.StreamReader.whole form) (g.K.StreamReader.closes form) (g.K.StreamReader.unstopped form) (g.K.StreamReader.stops form)
    (is_some c.args.lines) (g.K.StreamReader.explained form) read left failed first (g.W.Sink.taken after.new.writer) (g.W.Sink.has_failed after.new.writer) b.parts
    (g.met.K.StreamReader.passed c.args.kept form read b.parts b.took) (g.met.K.StreamReader.closed c.args.kept form read b.parts b.took) ended works
    (fault.0) (fault.1) after.result fault.2 (after.ensures.wrote first b.parts b.wrote)

pub returns-in-Ok-findings-clause-ended : goal.returns-in-Ok-findings-clause-ended
returns-in-Ok-findings-clause-ended g c form first read limit lines b left failed ended works =
    lines_end (g.K.StreamReader.whole form) (g.K.StreamReader.closes form) (g.K.StreamReader.unstopped form) (g.K.StreamReader.stops form)
    (is_some c.args.lines) (g.K.StreamReader.explained form) read left failed first (g.W.Sink.taken c.write_lines.new.writer) (g.W.Sink.has_failed c.write_lines.new.writer) b.parts
    (g.met.K.StreamReader.passed c.args.kept form read b.parts b.took) (g.met.K.StreamReader.closed c.args.kept form read b.parts b.took) ended works
    c.in-Ok.kept c.as_slice-entries.result.now c.as_slice-entries.result.now c.in-Ok-findings.found.items c.as_slice.result.now c.in-Ok.kept.left_out c.write_lines.result
    (c.in-Ok.ensures form read b.parts b.took) c.as_slice-entries.ensures.value c.as_slice-entries.ensures.value c.in-Ok-findings.ensures c.as_slice.ensures.value refl
    (c.write_lines.ensures.told first b.parts b.wrote)

pub returns-clause-ended : goal.returns-clause-ended
returns-clause-ended g c form first read limit lines b left failed ended works =
    let after = c.write_after-in-Err in
    let kept = c.in-Ok.kept in
    let found = finding_lines kept.entries.items in
    memory_end (g.K.StreamReader.whole form) (g.K.StreamReader.closes form) (g.K.StreamReader.unstopped form) (g.K.StreamReader.stops form)
    (is_some c.args.lines) (g.K.StreamReader.explained form) read left failed first (g.W.Sink.taken after.new.writer) (g.W.Sink.has_failed after.new.writer) b.parts
    (g.met.K.StreamReader.passed c.args.kept form read b.parts b.took) (g.met.K.StreamReader.closed c.args.kept form read b.parts b.took) ended works
    found (checked (length found) kept.left_out) after.result (c.in-Ok.ensures form read b.parts b.took)
    (after.ensures.wrote first b.parts b.wrote)

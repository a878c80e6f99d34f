use Rattle.std.proofs.Common.{arith}
use Rattle.cg_outcome.proofs.Written.{part_fault, part_written, text_fault, text_written}
use Rattle.cg_outcome.proofs.told.write_part.Goals as goal

pub returns-in-Ok-clause-wrote : goal.returns-in-Ok-clause-wrote
returns-in-Ok-clause-wrote g c first parts h =
    part_written first (g.W.Sink.taken c.args.writer.now) (g.W.Sink.taken c.write_text.new.writer) parts c.args.part.now c.args.written.now c.saturating_add.result h c.in-Ok.ensures.ok (omega (arith, c.saturating_add.ensures))

pub returns-in-Err-clause-wrote : goal.returns-in-Err-clause-wrote
returns-in-Err-clause-wrote g c first parts h rest wanted =
    part_fault first (g.W.Sink.taken c.args.writer.now)
    (g.W.Sink.taken c.write_text.new.writer) parts c.args.part.now rest c.args.written.now
    c.in-Err.field-0.written c.saturating_add-in-Err.result (g.W.Sink.has_failed c.write_text.new.writer) wanted
    h c.in-Err.ensures.part c.in-Err.ensures.err c.in-Err.ensures.failed (omega (arith, c.saturating_add-in-Err.ensures))

pub returns-in-Ok-clause-behind : goal.returns-in-Ok-clause-behind
returns-in-Ok-clause-behind g c first text h =
    text_written first (g.W.Sink.taken c.args.writer.now) (g.W.Sink.taken c.write_text.new.writer) text c.args.part.now c.args.written.now c.saturating_add.result h c.in-Ok.ensures.ok (omega (arith, c.saturating_add.ensures))

pub returns-in-Err-clause-behind : goal.returns-in-Err-clause-behind
returns-in-Err-clause-behind g c first text h rest wanted =
    text_fault first (g.W.Sink.taken c.args.writer.now)
    (g.W.Sink.taken c.write_text.new.writer) text c.args.part.now rest c.args.written.now
    c.in-Err.field-0.written c.saturating_add-in-Err.result (g.W.Sink.has_failed c.write_text.new.writer) wanted
    h c.in-Err.ensures.part c.in-Err.ensures.err c.in-Err.ensures.failed (omega (arith, c.saturating_add-in-Err.ensures))

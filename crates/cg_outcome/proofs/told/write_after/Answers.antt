use Rattle.std.proofs.Common.{arith}
use Rattle.cg_outcome.specs.Outcome.{last_line}
use Rattle.cg_outcome.proofs.Written.{line_fault}
use Rattle.cg_outcome.proofs.told.write_after.Goals as goal

pub returns-in-WriteFault-clause-wrote : goal.returns-in-WriteFault-clause-wrote
returns-in-WriteFault-clause-wrote g c first parts h =
    line_fault first (g.W.Sink.taken c.args.writer.now) (g.W.Sink.taken c.told_line.new.writer) parts
    (last_line c.args.outcome) c.args.written c.in-WriteFault.more c.saturating_add.result
    (g.W.Sink.has_failed c.told_line.new.writer) c.args.outcome
    h c.in-WriteFault.ensures (omega (arith, c.saturating_add.ensures))

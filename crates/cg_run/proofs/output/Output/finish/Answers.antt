use Rattle.cg_outcome.specs.Outcome.{last_line}
use Rattle.cg_run.proofs.Written.{none_held}
use Rattle.cg_run.proofs.output.Output.finish.Goals as goal

pub returns-in-Ok-clause-wrote : goal.returns-in-Ok-clause-wrote
returns-in-Ok-clause-wrote g c first parts h =
    c.write_after.ensures.wrote first parts (none_held first (g.W.Sink.taken c.write.new.writer) parts c.write.new.self (c.in-Ok.ensures.wrote first parts h) c.in-Ok.ensures.none)

pub returns-in-Err-clause-wrote : goal.returns-in-Err-clause-wrote
returns-in-Err-clause-wrote g c first parts h = c.in-Err.ensures.wrote first parts h (last_line c.args.outcome) c.args.outcome

use Rattle.std.proofs.Common.{[], ◌∷◌}
use Rattle.cg_line.specs.ReadsLaws.{fault_is}
use Rattle.cg_line.specs.OpenReads.{OpenReads}
use Rattle.cg_line.specs.OpenReadsLaws.{took_read}
use Rattle.cg_line.proofs.reader.begin_by.Goals as goal

pub returns-in-None-clause-fault : goal.returns-in-None-clause-fault
returns-in-None-clause-fault c = (took_read c.push.new.self c.args.kind (c.args.byte ∷ []) (c.in-Ok.ensures.pushed c.args.kind [] c.new-reader.ensures.reads)).viable

pub returns-in-Err-clause-fault : goal.returns-in-Err-clause-fault
returns-in-Err-clause-fault c = fault_is (OpenReads c.push.new.self c.args.kind) c.args.kind [] c.args.byte c.in-Err.fault (c.in-Err.ensures.pushed c.args.kind [] c.new-reader.ensures.reads)

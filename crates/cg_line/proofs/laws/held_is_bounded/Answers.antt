use Rattle.cg_line.specs.ReaderHeldLaws.{reads_few, reads_most, takes_few}
use Rattle.cg_line.proofs.laws.held_is_bounded.Goals as goal

pub returns-clause-file : goal.returns-clause-file
returns-clause-file c = reads_few

pub returns-clause-lines : goal.returns-clause-lines
returns-clause-lines c = reads_most

pub returns-clause-write : goal.returns-clause-write
returns-clause-write c = takes_few

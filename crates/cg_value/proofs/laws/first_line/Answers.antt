use Rattle.cg_value.specs.FirstLineLaws.{first_line, no_line}
use Rattle.cg_value.proofs.laws.first_line.Goals as goal

pub returns-clause-first : goal.returns-clause-first
returns-clause-first c = first_line

pub returns-clause-none : goal.returns-clause-none
returns-clause-none c = no_line

use Rattle.cg_value.specs.LineLaws.{file_lines}
use Rattle.cg_value.specs.WholeLinesLaws.{can_end}
use Rattle.cg_value.proofs.laws.whole_lines.Goals as goal

pub returns-clause-lines : goal.returns-clause-lines
returns-clause-lines c = file_lines

pub returns-clause-ends : goal.returns-clause-ends
returns-clause-ends c = can_end

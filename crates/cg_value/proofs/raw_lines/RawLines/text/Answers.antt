use Rattle.cg_value.specs.LinesOfLaws.{lines_plain}
use Rattle.cg_value.proofs.raw_lines.RawLines.text.Goals as goal

pub returns-clause-plain : goal.returns-clause-plain
returns-clause-plain c = rw c.self.view_is at (lines_plain c.self.inside.text.items)

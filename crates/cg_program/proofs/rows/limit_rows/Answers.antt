use Rattle.cg_program.proofs.WrittenOut.{limit_rows}
use Rattle.cg_program.proofs.rows.limit_rows.Goals as goal

pub returns : goal.returns
returns c = limit_rows

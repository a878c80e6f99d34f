use Rattle.cg_program.proofs.WrittenOut.{explain_rows}
use Rattle.cg_program.proofs.rows.explain_rows.Goals as goal

pub returns : goal.returns
returns c = explain_rows

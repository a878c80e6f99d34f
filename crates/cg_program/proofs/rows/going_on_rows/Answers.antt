use Rattle.cg_program.proofs.WrittenOut.{going_on_rows}
use Rattle.cg_program.proofs.rows.going_on_rows.Goals as goal

pub returns : goal.returns
returns c = going_on_rows

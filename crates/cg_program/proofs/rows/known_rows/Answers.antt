use Rattle.cg_program.proofs.WrittenOut.{known_rows}
use Rattle.cg_program.proofs.rows.known_rows.Goals as goal

pub returns : goal.returns
returns c = known_rows

use Rattle.cg_program.proofs.WrittenOut.{fault_rows}
use Rattle.cg_program.proofs.rows.fault_rows.Goals as goal

pub returns : goal.returns
returns c = fault_rows

use Rattle.std.proofs.Common.{ap}
use Rattle.cg_line.specs.Reads.{is_reads}
use Rattle.cg_line.specs.declared.reader.State.{State}
use Rattle.cg_line.specs.declared.reader.ValueReader.{ValueReader}
use Rattle.cg_line.proofs.reader.ValueReader.finish.Goals as goal

-- A reader by its state.
abbrev of_state : State → ValueReader
of_state s = record { state = s }

pub returns-in-Ok : goal.returns-in-Ok
returns-in-Ok c kind taken h = c.in-Ok.ensures kind taken (is_reads c.args.self kind taken h).state

pub returns-in-Err : goal.returns-in-Err
returns-in-Err c kind taken h =
    let left = c.in-Err.ensures kind taken (is_reads c.args.self kind taken h).state in
    (ap of_state left.0, left.1)

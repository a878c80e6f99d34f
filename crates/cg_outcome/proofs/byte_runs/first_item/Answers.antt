use Rattle.std.proofs.Common.{sym, arith}
use Rattle.cg_outcome.proofs.ByteTold.{byte_front, run_front}
use Rattle.cg_outcome.proofs.byte_runs.first_item.Goals as goal

pub returns-then-length-ge3-clause-front : goal.returns-then-length-ge3-clause-front
returns-then-length-ge3-clause-front c = run_front c.args.bytes.now c.run_length-length.result (sym c.run_length-length.ensures.run) (omega arith)

pub returns-else-length-ge3-clause-front : goal.returns-else-length-ge3-clause-front
returns-else-length-ge3-clause-front c = byte_front c.args.bytes.now c.run_length-length.result (sym c.run_length-length.ensures.run) (omega arith) (omega arith)

use Rattle.cg_program.proofs.WordsTold.{answer_says, unread_says}
use Rattle.cg_program.proofs.program.asked.Goals as goal

pub returns-in-Ok-clause-says : goal.returns-in-Ok-clause-says
returns-in-Ok-clause-says c = answer_says _ c.parse_request.result c.parse_request.ensures

pub returns-in-Err-clause-says : goal.returns-in-Err-clause-says
returns-in-Err-clause-says c = unread_says c.in-Err.kind c.unread.result c.unread.ensures

use Rattle.cg_run.proofs.GoingOn.{count_out}
use Rattle.cg_run.proofs.going_on.counted.Goals as goal

pub returns-in-Some : goal.returns-in-Some
returns-in-Some c told e = rw c.in-Some.is (count_out told c.in-Some.field-0 c.args.before c.saturating_add.result e c.saturating_add.ensures)

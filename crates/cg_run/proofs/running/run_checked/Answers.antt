use Rattle.std.proofs.Common.{refl}
use Rattle.cg_run.proofs.running.run_checked.Goals as goal

pub run_check-requires : goal.run_check-requires
run_check-requires g c = (((c.args.profile, c.args.limits), c.is_some.result), c.new-kept.ensures, refl)

pub returns-then-keep_going-clause-ran : goal.returns-then-keep_going-clause-ran
returns-then-keep_going-clause-ran g c fresh lines = rw c.if-keep_going.true (rw c.is_some.ensures at (c.run_check.ensures.ran ((c.args.profile, c.args.limits), c.is_some.result) refl c.new-kept.ensures fresh lines))

pub returns-clause-ran : goal.returns-clause-ran
returns-clause-ran g c fresh lines = rw c.if-keep_going.false (c.run_check-2.ensures.ran (c.args.profile, c.args.limits) refl c.new-kept-2.ensures fresh lines)

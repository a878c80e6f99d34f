use Rattle.std.proofs.Common.{refl}
use Rattle.cg_run.proofs.running.run_show.Goals as goal

pub run_stream-requires : goal.run_stream-requires
run_stream-requires g c = (((c.args.profile, c.args.limits), c.is_some.result), c.new-entries.ensures, refl)

pub returns-then-keep_going-clause-ran : goal.returns-then-keep_going-clause-ran
returns-then-keep_going-clause-ran g c fresh lines = rw c.if-keep_going.true (rw c.is_some.ensures at (c.run_stream.ensures.ran ((c.args.profile, c.args.limits), c.is_some.result) refl c.new-entries.ensures fresh lines))

pub returns-clause-ran : goal.returns-clause-ran
returns-clause-ran g c fresh lines = rw c.if-keep_going.false (c.run_stream-2.ensures.ran (c.args.profile, c.args.limits) refl c.new-entries-2.ensures fresh lines)

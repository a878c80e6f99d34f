use Rattle.std.proofs.Common.{◌++◌, [], append-nil, subst, List, ℕ}
use Rattle.cg_outcome.specs.Outcome.{stop_line}
use Rattle.cg_outcome.specs.Wrote.{Wrote, joined}
use Rattle.cg_outcome.specs.Spot.{spot_words}
use Rattle.cg_outcome.specs.declared.outcome.Outcome.TheVariants as out
use Rattle.cg_outcome.proofs.explain.write_stop.Goals as goal

pub returns-in_default-clause-wrote : goal.returns-in_default-clause-wrote
returns-in_default-clause-wrote g c first parts h = rw (c.in_default.is, append-nil (stop_line c.args.stop)) (c.write_after.ensures.wrote first parts h)

pub returns-in-Err-clause-wrote : goal.returns-in-Err-clause-wrote
returns-in-Err-clause-wrote g c first parts h =
    let all = joined parts ++ (stop_line c.args.stop ++ spot_words c.in-Some.spot) in
    let now = g.W.Sink.taken c.tell_both.new.writer in
    let failed = g.W.Sink.has_failed c.tell_both.new.writer in
    rw c.in-Some.is (subst (λ (t : List ℕ). Wrote first now failed t (out.Stopped c.args.stop) c.in-Err.fault) (append-nil all) (c.in-Err.ensures.told first (joined parts) h [] (out.Stopped c.args.stop)))

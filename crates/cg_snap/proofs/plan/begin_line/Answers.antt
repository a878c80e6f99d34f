use Rattle.std.proofs.Common.{refl}
use Rattle.cg_snap.proofs.PlanStates.{item_nul}
use Rattle.cg_snap.proofs.plan.begin_line.Goals as goal

pub returns-in-None-clause-begun : goal.returns-in-None-clause-begun
returns-in-None-clause-begun c = λ profile p items n h k.
    item_nul profile c.args.begun.now.items c.replace-path.new.dest.items _ p items c.args.kind h k (rw c.replace-path.ensures.value refl) (rw c.replace-path.ensures.after c.new.ensures.items) c.new-in-None.ensures.takes

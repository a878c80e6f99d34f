use Rattle.std.proofs.Common.{arith}
use Rattle.cg_snap.proofs.PlanStates.{class_refusal, item_newline, item_path_next}
use Rattle.cg_snap.proofs.plan.path_refusal.Goals as goal

pub returns-in-0 : goal.returns-in-0
returns-in-0 c = λ p items h.
    let k = rw c.as_slice.ensures.value at c.writable.ensures in
    rw (c.err.ensures.value, c.in-0.is) (class_refusal c.args.profile c.args.begun.now.items p items c.writable.result h k)

pub returns-in-10 : goal.returns-in-10
returns-in-10 c = λ p items h. item_newline c.args.profile c.args.begun.now.items p items c.args.byte h c.in-10.is

pub returns-in_default : goal.returns-in_default
returns-in_default c = λ p items h. item_path_next c.args.profile c.args.begun.now.items p items c.args.byte h (omega arith) (omega arith) c.ranges.byte.fits

use Rattle.cg_snap.proofs.Allowed.{class_after, class_kind, over_refused}
use Rattle.cg_snap.proofs.refusal.kind_after.Goals as goal

pub returns-then-is_over-clause-after : goal.returns-then-is_over-clause-after
returns-then-is_over-clause-after c = λ p es h i.
    over_refused c.args.profile c.args.begun.now.items c.args.present.now p es (rw c.if-is_over.true at c.is_over.ensures) i h

pub returns-clause-after : goal.returns-clause-after
returns-clause-after c = λ p es h i.
    class_after c.args.profile c.args.begun.now.items c.args.present.now p es c.readable.result (rw c.as_slice.ensures.value at c.readable.ensures) (rw c.if-is_over.false at c.is_over.ensures) i h

pub returns-clause-kind : goal.returns-clause-kind
returns-clause-kind c = class_kind c.args.profile c.args.begun.now.items c.readable.result (rw c.as_slice.ensures.value at c.readable.ensures)

use Rattle.std.proofs.Common.{◌≡◌, inl, inr}
use Rattle.cg_snap.proofs.PlanStates.{class_after, item_newline}
use Rattle.cg_snap.proofs.plan.kind_after.Goals as goal

pub returns-then-byte-eq10-clause-after : goal.returns-then-byte-eq10-clause-after
returns-then-byte-eq10-clause-after c = λ p items h. item_newline c.args.profile c.args.begun.now.items p items c.args.byte h c.if-byte-eq10.true

pub returns-clause-after : goal.returns-clause-after
returns-clause-after c = λ p items h.
    let nul : c.args.byte ≡ 0 = elim c.requires [ inl z ↦ z | inr n ↦ absurd (c.if-byte-eq10.false n) ] in
    class_after c.args.profile c.args.begun.now.items p items c.args.byte c.writable.result nul h (rw c.as_slice.ensures.value at c.writable.ensures)

use Rattle.std.proofs.Common.{◌≡◌, true}
use Rattle.cg_snap.proofs.PlanStates.{item_line_refused, item_next_line}
use Rattle.cg_snap.proofs.plan.line_refusal.Goals as goal

pub returns-then-contains : goal.returns-then-contains
returns-then-contains c = λ profile p items h.
    item_next_line profile c.args.begun.now.items c.args.writing.now p items c.args.byte h ((c.allowed.ensures h.kind h.line h.takes c.args.byte).0 (c.contains.ensures.0 c.if-contains.true))

pub returns-else-contains : goal.returns-else-contains
returns-else-contains c = λ profile p items h.
    item_line_refused profile c.args.begun.now.items c.args.writing.now p items c.args.byte h
    (λ v. (let has : c.contains.result ≡ true = c.contains.ensures.1 ((c.allowed.ensures h.kind h.line h.takes c.args.byte).1 v) in let lacks = c.if-contains.false in cc))

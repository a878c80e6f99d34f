use Rattle.std.proofs.Common.{◌≡◌, true}
use Rattle.cg_snap.proofs.States.{line_state, line_refused}
use Rattle.cg_snap.proofs.Allowed.{line_allowed}
use Rattle.cg_snap.proofs.refusal.line_refusal.Goals as goal

pub returns-then-contains : goal.returns-then-contains
returns-then-contains c = λ profile p es h t.
    let l = line_state profile c.args.begun.now.items c.args.present.now p es t h in
    line_allowed profile c.args.begun.now.items c.args.present.now p es c.args.byte l ((c.allowed.ensures l.kind _ l.reads c.args.byte).0 (c.contains.ensures.0 c.if-contains.true))

pub returns-else-contains : goal.returns-else-contains
returns-else-contains c = λ profile p es h t.
    line_refused profile c.args.begun.now.items c.args.present.now p es c.args.byte t h
    (λ k s r v. (let has : c.contains.result ≡ true = c.contains.ensures.1 ((c.allowed.ensures k s r c.args.byte).1 v) in let lacks = c.if-contains.false in cc))

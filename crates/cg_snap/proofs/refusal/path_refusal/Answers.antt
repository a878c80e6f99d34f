use Rattle.cg_snap.proofs.States.{newline_refused, path_byte_allowed}
use Rattle.cg_snap.proofs.refusal.path_refusal.Goals as goal

pub returns-in-Ok : goal.returns-in-Ok
returns-in-Ok c = λ p es h i. rw c.if-byte-eq0.true (c.in-Ok.ensures.after p es h i).1

pub returns-in-Err : goal.returns-in-Err
returns-in-Err c = λ p es h i. rw c.if-byte-eq0.true (c.in-Err.ensures.after p es h i)

pub returns-then-byte-eq10 : goal.returns-then-byte-eq10
returns-then-byte-eq10 c = λ p es h i. newline_refused c.args.profile c.args.begun.now.items c.args.present.now p es c.args.byte c.if-byte-eq10.true i h

pub returns : goal.returns
returns c = λ p es h i. path_byte_allowed c.args.profile c.args.begun.now.items c.args.present.now p es c.args.byte c.if-byte-eq0.false c.if-byte-eq10.false c.ranges.byte.fits i h

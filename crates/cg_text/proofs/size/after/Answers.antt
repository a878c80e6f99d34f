use Rattle.cg_text.specs.SizeLaws.{size_digit, size_suffix, no_suffix}
use Rattle.cg_text.proofs.size.after.Goals as goal

pub returns-in-Some-clause-follows : goal.returns-in-Some-clause-follows
returns-in-Some-clause-follows c = rw c.in-Count.is (size_digit c.in-Count.number c.in-Some.number c.args.byte c.in-Some.ensures)

pub returns-in-Some-ended-clause-follows : goal.returns-in-Some-ended-clause-follows
returns-in-Some-ended-clause-follows c = rw c.in-Count.is (size_suffix c.in-Count.number c.args.byte c.in-None.ensures c.in-Some-ended.size c.in-Some-ended.ensures)

pub returns-in-None-ended-clause-follows : goal.returns-in-None-ended-clause-follows
returns-in-None-ended-clause-follows c = rw c.in-Count.is (no_suffix c.in-Count.number c.args.byte c.in-None.ensures c.in-None-ended.ensures)

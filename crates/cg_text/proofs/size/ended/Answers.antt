use Rattle.cg_text.specs.SizeLaws.{product_ends}
use Rattle.cg_text.proofs.size.ended.Goals as goal

pub returns-then-can_end : goal.returns-then-can_end
returns-then-can_end c = product_ends c.args.number c.args.suffix c.take.result c.in-Some.factor c.checked_mul.result c.take.ensures.value c.in-Some.ensures c.checked_mul.ensures

pub returns-in-None : goal.returns-in-None
returns-in-None c = λ size s. c.in-None.ensures s.factor s.suffix_is

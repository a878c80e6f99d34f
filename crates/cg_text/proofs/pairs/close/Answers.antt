use Rattle.cg_text.specs.LimitPairsLaws.{open_refuses, full_refuses, close_next}
use Rattle.cg_text.proofs.pairs.close.Goals as goal

pub returns-then-not-limit_ends : goal.returns-then-not-limit_ends
returns-then-not-limit_ends c = open_refuses c.args.given c.args.key c.args.part (cc)

pub returns-in-Some : goal.returns-in-Some
returns-in-Some c = close_next c.args.given c.with_limit-all.result c.args.key c.in-Some.next c.args.part c.limit_value-limit.result c.with_limit-all.ensures c.limit_value-limit.ensures c.in-Some.ensures

pub returns-in-None : goal.returns-in-None
returns-in-None c = full_refuses c.args.given c.with_limit-all.result c.args.key c.args.part c.limit_value-limit.result c.with_limit-all.ensures c.limit_value-limit.ensures c.in-None.ensures

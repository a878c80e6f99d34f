use Rattle.cg_text.specs.LimitPairsLaws.{start_next}
use Rattle.cg_text.proofs.pairs.limit_after.Goals as goal

pub returns-in-Some : goal.returns-in-Some
returns-in-Some c = rw c.in-Start.is (start_next c.args.byte c.in-Some.number c.number_after.result c.if-byte-eq109.false c.in-Some.ensures.1.is c.number_after.ensures)

pub returns-in-Number : goal.returns-in-Number
returns-in-Number c = rw c.in-Number.is c.number_after-in-Number.ensures

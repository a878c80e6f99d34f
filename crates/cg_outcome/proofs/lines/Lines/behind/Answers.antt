use Rattle.std.proofs.Common.{arith}
use Rattle.cg_outcome.proofs.Lined.{byte_counted, line_counted}
use Rattle.cg_outcome.proofs.lines.Lines.behind.Goals as goal

pub returns-then-byte-eq10 : goal.returns-then-byte-eq10
returns-then-byte-eq10 c = λ p h. line_counted c.args.self _ p c.args.byte h c.if-byte-eq10.true (omega (arith, c.saturating_add.ensures)) (omega arith)

pub returns-else-byte-eq10 : goal.returns-else-byte-eq10
returns-else-byte-eq10 c = λ p h. byte_counted c.args.self _ p c.args.byte h c.if-byte-eq10.false (omega arith) (omega (arith, c.saturating_add-else-byte-eq10.ensures))

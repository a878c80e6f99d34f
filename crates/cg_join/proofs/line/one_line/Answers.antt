use Rattle.cg_join.specs.LineLaws.{line_apart, line_spells}
use Rattle.cg_join.proofs.line.one_line.Goals as goal

pub new-requires-2 : goal.new-requires-2
new-requires-2 g c = line_apart g.T.Token.means c.args.token c.requires c.new.ensures.spells

pub returns-clause-spells : goal.returns-clause-spells
returns-clause-spells g c = line_spells g.T.Token.means c.args.token g.F.MapValue.mapped c.new.ensures.spells c.new-2.ensures.spells c.new-3.ensures.spells

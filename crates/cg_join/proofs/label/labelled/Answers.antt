use Rattle.cg_join.specs.ApartLaws.{fixed_spells}
use Rattle.cg_join.specs.LineLaws.{self_spells}
use Rattle.cg_join.specs.Spelling.{sequence_spells}
use Rattle.cg_join.proofs.label.labelled.Goals as goal

pub new-requires-2 : goal.new-requires-2
new-requires-2 g c = fixed_spells c.new.ensures.spells (self_spells g.T.Token.means c.args.token)

pub returns-clause-spells : goal.returns-clause-spells
returns-clause-spells g c = sequence_spells c.new.ensures.spells (self_spells g.T.Token.means c.args.token) c.new-2.ensures.spells

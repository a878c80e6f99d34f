use Rattle.cg_join.specs.Spelling.{sequence_spells}
use Rattle.cg_join.proofs.amount.MakeNegatedMakeTokenNegated.start.Goals as goal

pub returns-clause-spells : goal.returns-clause-spells
returns-clause-spells c = sequence_spells c.new.ensures.spells c.decimal_in.ensures.spells c.new-2.ensures.spells

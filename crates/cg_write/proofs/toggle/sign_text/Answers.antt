use Rattle.cg_join.specs.Spelling.{choice_spells, none_spells}
use Rattle.cg_write.specs.ToggleLaws.{plus_not_minus}
use Rattle.cg_write.proofs.toggle.sign_text.Goals as goal

pub new-requires-3-clause-apart : goal.new-requires-3-clause-apart
new-requires-3-clause-apart c = none_spells c.new.ensures.spells c.new-2.ensures.spells plus_not_minus

pub returns-clause-spells : goal.returns-clause-spells
returns-clause-spells c = choice_spells c.new.ensures.spells c.new-2.ensures.spells c.new-3.ensures.spells

use Rattle.cg_join.specs.Spelling.{choice_spells, none_spells}
use Rattle.cg_write.specs.SizeLimitLaws.{size_no_max}
use Rattle.cg_write.proofs.size_limit.size_limit_text.Goals as goal

pub new-requires-3-clause-apart : goal.new-requires-3-clause-apart
new-requires-3-clause-apart c = none_spells c.new.ensures.spells c.new-2.ensures.spells size_no_max

pub returns-clause-spells : goal.returns-clause-spells
returns-clause-spells c = choice_spells c.new.ensures.spells c.new-2.ensures.spells c.new-3.ensures.spells

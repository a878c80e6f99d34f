use Rattle.cg_text.specs.LimitPairsLaws.{limits_new}
use Rattle.cg_text.proofs.pairs.LimitPairsText.new.Goals as goal

pub returns-clause-spells : goal.returns-clause-spells
returns-clause-spells c = record { is = limits_new }

use Rattle.cg_join.specs.Spelling.{choice_spells, mapped_spells, none_spells, spells_as}
use Rattle.cg_write.specs.Mapped.{chosen_weight}
use Rattle.cg_write.specs.ChosenWeightLaws.{chosen_is, word_no_weight}
use Rattle.cg_write.proofs.chosen_weight.ChosenText.new.Goals as goal

pub new-requires-clause-apart : goal.new-requires-clause-apart
new-requires-clause-apart c = none_spells c.new-word.ensures.spells c.decimal_in.ensures.spells (word_no_weight c.args.most)

pub returns-clause-spells : goal.returns-clause-spells
returns-clause-spells c =
    let parts = spells_as (mapped_spells chosen_weight (choice_spells c.new-word.ensures.spells c.decimal_in.ensures.spells c.new.ensures.spells) c.new-2.ensures.spells) (chosen_is c.args.most) in
    record { is = parts.is }

use Rattle.cg_join.specs.CutLaws.{label_spells}
use Rattle.cg_join.specs.Spelling.{choice_spells, mapped_spells, none_spells, spells_as}
use Rattle.cg_write.specs.Mapped.{default_weight}
use Rattle.cg_write.specs.DefaultWeightLaws.{default_is, weight_no_word}
use Rattle.cg_write.proofs.default_weight.DefaultText.new.Goals as goal

pub new-requires-clause-apart : goal.new-requires-clause-apart
new-requires-clause-apart c =
    let named = label_spells (label_spells c.decimal_in.ensures.spells c.spaced-weight.ensures.spells) c.labelled-named.ensures.spells in
    none_spells c.decimal_in-alone.ensures.spells named (weight_no_word c.args.most)

pub returns-clause-spells : goal.returns-clause-spells
returns-clause-spells c =
    let named = label_spells (label_spells c.decimal_in.ensures.spells c.spaced-weight.ensures.spells) c.labelled-named.ensures.spells in
    let parts = spells_as (mapped_spells default_weight (choice_spells c.decimal_in-alone.ensures.spells named c.new.ensures.spells) c.new-2.ensures.spells) (default_is c.args.most) in
    record { is = parts.is }

use Rattle.cg_join.specs.AmountLaws.{whole_not_fraction}
use Rattle.cg_join.specs.ParamLaws.{name_not_number, param_is}
use Rattle.cg_join.specs.ParamState.{param_of}
use Rattle.cg_join.specs.Spelling.{none_spells, choice_spells, mapped_spells, spells_as}
use Rattle.cg_join.proofs.param.ParamText.new.Goals as goal

pub new-number-requires-clause-apart : goal.new-number-requires-clause-apart
new-number-requires-clause-apart c = none_spells c.decimal_in.ensures.spells c.new-hundredths.ensures.spells whole_not_fraction

pub new-requires-2-clause-apart : goal.new-requires-2-clause-apart
new-requires-2-clause-apart c =
    let number = choice_spells c.decimal_in.ensures.spells c.new-hundredths.ensures.spells c.new-number.ensures.spells in
    none_spells c.new.ensures.spells number name_not_number

pub returns-clause-spells : goal.returns-clause-spells
returns-clause-spells c =
    let number = choice_spells c.decimal_in.ensures.spells c.new-hundredths.ensures.spells c.new-number.ensures.spells in
    let parts = spells_as (mapped_spells param_of (choice_spells c.new.ensures.spells number c.new-2.ensures.spells) c.new-3.ensures.spells) param_is in
    record { is = parts.is }

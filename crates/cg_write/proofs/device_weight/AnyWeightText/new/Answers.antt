use Rattle.cg_join.specs.Spelling.{choice_spells, none_spells}
use Rattle.cg_write.specs.DeviceWeightLaws.{default_no_device}
use Rattle.cg_write.proofs.device_weight.AnyWeightText.new.Goals as goal

pub new-requires-2-clause-apart : goal.new-requires-2-clause-apart
new-requires-2-clause-apart c = none_spells c.new.ensures.spells c.device_weight_text.ensures.spells (default_no_device c.args.most)

pub returns-clause-spells : goal.returns-clause-spells
returns-clause-spells c =
    let whole = choice_spells c.new.ensures.spells c.device_weight_text.ensures.spells c.new-2.ensures.spells in
    record { is = whole.is }

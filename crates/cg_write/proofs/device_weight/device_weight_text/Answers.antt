use Rattle.cg_join.specs.CutLaws.{label_spells}
use Rattle.cg_join.specs.Spelling.{apart_spells, sequence_spells}
use Rattle.cg_write.specs.DeviceWeightLaws.{device_apart}
use Rattle.cg_write.proofs.device_weight.device_weight_text.Goals as goal

pub new-requires-3 : goal.new-requires-3
new-requires-3 c = apart_spells c.new.ensures.spells (label_spells c.new-2.ensures.spells c.spaced.ensures.spells) (device_apart c.args.most)

pub returns-clause-spells : goal.returns-clause-spells
returns-clause-spells c = sequence_spells c.new.ensures.spells (label_spells c.new-2.ensures.spells c.spaced.ensures.spells) c.new-3.ensures.spells

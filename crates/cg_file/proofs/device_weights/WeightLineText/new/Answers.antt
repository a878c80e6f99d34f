use Rattle.cg_join.specs.CutLaws.{label_spells}
use Rattle.cg_join.specs.Spelling.{apart_spells, mapped_spells, sequence_spells, spells_as}
use Rattle.cg_file.specs.DeviceLineLaws.{weight_apart, weight_is, weight_line}
use Rattle.cg_file.proofs.device_weights.WeightLineText.new.Goals as goal

pub new-requires-2 : goal.new-requires-2
new-requires-2 c = apart_spells c.new.ensures.spells (label_spells c.decimal_in.ensures.spells c.spaced-weight.ensures.spells) (weight_apart c.args.most c.args.kernel)

pub returns-clause-spells : goal.returns-clause-spells
returns-clause-spells c =
    let label = label_spells c.decimal_in.ensures.spells c.spaced-weight.ensures.spells in
    let whole = spells_as (mapped_spells weight_line (sequence_spells c.new.ensures.spells label c.new-2.ensures.spells) c.new-3.ensures.spells) (weight_is c.args.most c.args.kernel) in
    record { is = whole.is }

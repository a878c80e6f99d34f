use Rattle.cg_join.specs.LineLaws.{lacks_spelled}
use Rattle.cg_value.specs.declared.kind.WriteForm.TheVariants.{DeviceWeight as DeviceWeightForm}
use Rattle.cg_write.specs.Mapped.{weight_of}
use Rattle.cg_write.specs.DeviceWeightLaws.{weight_is, weight_lacking}
use Rattle.cg_write.specs.WriteLaws.{write_spells}
use Rattle.cg_write.proofs.device_weight.DeviceWeightWrite.new.Goals as goal

pub one_line-requires : goal.one_line-requires
one_line-requires c = lacks_spelled _ _ 10 c.new.ensures.spells (weight_lacking c.args.most).is

pub returns-clause-spells : goal.returns-clause-spells
returns-clause-spells c =
    let whole = write_spells (DeviceWeightForm c.args.most) weight_of c.new.ensures.spells c.one_line.ensures.spells (weight_is c.args.most) in
    record { is = whole.is }

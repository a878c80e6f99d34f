use Rattle.cg_join.specs.Spelling.{spells_as, mapped_spells}
use Rattle.cg_value.specs.ReadLine.{IsLimitLine}
use Rattle.cg_value.specs.declared.kind.ReadForm.TheVariants.{DeviceLimits as LimitsForm}
use Rattle.cg_value.specs.declared.value.Value.TheVariants.{DeviceLimits}
use Rattle.cg_file.specs.DeviceLineLaws.{limits_lack, limits_value}
use Rattle.cg_file.specs.ManyFileLaws.{all_is}
use Rattle.cg_file.proofs.device_limits.DeviceLimitsFile.new.Goals as goal

pub new-requires : goal.new-requires
new-requires c = limits_lack c.args.kernel

pub returns-clause-spells : goal.returns-clause-spells
returns-clause-spells c = let whole = spells_as (mapped_spells limits_value c.new.ensures.spells c.new-2.ensures.spells) (all_is (LimitsForm c.args.kernel) (IsLimitLine c.args.kernel) DeviceLimits (λ v lines. (λ h. h, λ h. h))) in record { is = whole.is }

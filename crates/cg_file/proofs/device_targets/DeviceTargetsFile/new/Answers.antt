use Rattle.cg_join.specs.Spelling.{spells_as, mapped_spells}
use Rattle.cg_value.specs.ReadLine.{IsTargetLine}
use Rattle.cg_value.specs.declared.kind.ReadForm.TheVariants.{DeviceTargets as TargetsForm}
use Rattle.cg_value.specs.declared.value.Value.TheVariants.{DeviceTargets}
use Rattle.cg_file.specs.DeviceLineLaws.{target_lacks, targets_value}
use Rattle.cg_file.specs.ManyFileLaws.{all_is}
use Rattle.cg_file.proofs.device_targets.DeviceTargetsFile.new.Goals as goal

pub new-requires : goal.new-requires
new-requires c = target_lacks c.args.kernel

pub returns-clause-spells : goal.returns-clause-spells
returns-clause-spells c = let whole = spells_as (mapped_spells targets_value c.new.ensures.spells c.new-2.ensures.spells) (all_is (TargetsForm c.args.kernel) (IsTargetLine c.args.kernel) DeviceTargets (λ v lines. (λ h. h, λ h. h))) in record { is = whole.is }

use Rattle.std.proofs.Common.{ℕ}
use Rattle.cg_text.specs.declared.values.Device.{Device}
use Rattle.cg_join.specs.CompositeLaws.{device_target_lacking}
use Rattle.cg_join.specs.Composites.{IsDeviceTarget}
use Rattle.cg_join.specs.LineLaws.{lacks_spelled}
use Rattle.cg_value.specs.WriteLine.{IsTargetWrite}
use Rattle.cg_value.specs.declared.kind.WriteForm.TheVariants.{DeviceTarget as DeviceTargetForm}
use Rattle.cg_value.specs.declared.setting.Setting.TheVariants.{DeviceTarget}
use Rattle.cg_write.specs.DeviceTargetLaws.{target_is}
use Rattle.cg_write.specs.Mapped.{both_of}
use Rattle.cg_write.specs.WriteLaws.{line_through, write_spells}
use Rattle.cg_write.proofs.device_target.DeviceTargetWrite.new.Goals as goal

pub one_line-requires : goal.one_line-requires
one_line-requires c = lacks_spelled _ _ 10 c.device_target.ensures.spells device_target_lacking.is

pub returns-clause-spells : goal.returns-clause-spells
returns-clause-spells c =
    let whole = write_spells DeviceTargetForm (λ v. DeviceTarget v.0 v.1.1) c.device_target.ensures.spells c.one_line.ensures.spells
    (line_through IsDeviceTarget IsTargetWrite both_of (λ (x : Device × ℕ). DeviceTarget (x.0) (x.1)) target_is) in
    record { is = whole.is }

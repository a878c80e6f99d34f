use Rattle.cg_join.specs.LineLaws.{lacks_spelled}
use Rattle.cg_value.specs.WriteLine.{IsLimitWrite, limits_setting}
use Rattle.cg_value.specs.declared.kind.WriteForm.TheVariants.{DeviceLimits as DeviceLimitsForm}
use Rattle.cg_write.specs.DeviceLimitsLaws.{limits_are, spaced_limits_lacking}
use Rattle.cg_write.specs.Mapped.{both_of}
use Rattle.cg_write.specs.WriteLaws.{line_through, write_spells}
use Rattle.cg_write.proofs.device_limits.DeviceLimitsWrite.new.Goals as goal
use Rattle.cg_write.specs.Texts.{IsSpacedLimits}

pub one_line-requires : goal.one_line-requires
one_line-requires c = lacks_spelled _ _ 10 c.new.ensures.spells spaced_limits_lacking.is

pub returns-clause-spells : goal.returns-clause-spells
returns-clause-spells c =
    let whole = write_spells DeviceLimitsForm (λ v. limits_setting (both_of v)) c.new.ensures.spells c.one_line.ensures.spells
    (line_through IsSpacedLimits IsLimitWrite both_of limits_setting limits_are) in
    record { is = whole.is }

use Rattle.std.proofs.Common.{arith}
use Rattle.cg_text.specs.declared.hundredths.Spelling.TheVariants.{Written}
use Rattle.cg_join.specs.LackingLaws.{clamp_lacking}
use Rattle.cg_join.specs.LineLaws.{lacks_spelled}
use Rattle.cg_value.specs.declared.kind.WriteForm.TheVariants.{Clamp as ClampForm}
use Rattle.cg_value.specs.declared.setting.Setting.TheVariants.{Clamp}
use Rattle.cg_write.specs.WriteLaws.{write_spells}
use Rattle.cg_write.proofs.clamp.clamp_write.Goals as goal

pub one_line-requires : goal.one_line-requires
one_line-requires c = lacks_spelled _ _ 10 c.new.ensures.spells (clamp_lacking 10 Written (omega arith)).is

pub returns-clause-spells : goal.returns-clause-spells
returns-clause-spells c =
    let whole = write_spells ClampForm Clamp c.new.ensures.spells c.one_line.ensures.spells (λ s line. (λ h. h, λ h. h)) in
    record { is = whole.is }

use Rattle.cg_join.specs.ClassLaws.{class_lacking}
use Rattle.cg_join.specs.LineLaws.{lacks_spelled}
use Rattle.cg_value.specs.declared.kind.WriteForm.TheVariants.{Class as ClassForm}
use Rattle.cg_value.specs.declared.setting.Setting.TheVariants.{Class}
use Rattle.cg_write.specs.WriteLaws.{write_spells}
use Rattle.cg_write.proofs.class.class_write.Goals as goal

pub one_line-requires : goal.one_line-requires
one_line-requires c = lacks_spelled _ _ 10 c.new.ensures.spells class_lacking.is

pub returns-clause-spells : goal.returns-clause-spells
returns-clause-spells c =
    let whole = write_spells ClassForm Class c.new.ensures.spells c.one_line.ensures.spells (λ s line. (λ h. h, λ h. h)) in
    record { is = whole.is }

use Rattle.cg_join.specs.LackingLaws.{raw_lacking}
use Rattle.cg_join.specs.LineLaws.{lacks_spelled}
use Rattle.cg_value.specs.declared.kind.WriteForm.TheVariants.{Raw as RawForm}
use Rattle.cg_value.specs.declared.setting.Setting.TheVariants.{Raw}
use Rattle.cg_write.specs.RawLaws.{raw_is}
use Rattle.cg_write.specs.WriteLaws.{write_spells}
use Rattle.cg_write.proofs.raw.RawWrite.new.Goals as goal

pub one_line-requires : goal.one_line-requires
one_line-requires c = lacks_spelled _ _ 10 c.new.ensures.spells raw_lacking.is

pub returns-clause-spells : goal.returns-clause-spells
returns-clause-spells c =
    let whole = write_spells RawForm Raw c.new.ensures.spells c.one_line.ensures.spells raw_is in
    record { is = whole.is }

use Rattle.cg_join.specs.LineLaws.{lacks_spelled}
use Rattle.cg_value.specs.WriteLine.{AreToggles}
use Rattle.cg_value.specs.declared.kind.WriteForm.TheVariants.{Controllers as ControllersForm}
use Rattle.cg_value.specs.declared.setting.Setting.TheVariants.{Controllers}
use Rattle.cg_write.specs.ControllersLaws.{toggles_are, toggles_lacking}
use Rattle.cg_write.specs.WriteLaws.{line_alike, write_spells}
use Rattle.cg_write.proofs.controllers.ControllersWrite.new.Goals as goal
use Rattle.cg_write.specs.Texts.{AreJoinedToggles}

pub one_line-requires : goal.one_line-requires
one_line-requires c = lacks_spelled _ _ 10 c.toggles_text.ensures.spells toggles_lacking.is

pub returns-clause-spells : goal.returns-clause-spells
returns-clause-spells c =
    let whole = write_spells ControllersForm Controllers c.toggles_text.ensures.spells c.one_line.ensures.spells (line_alike AreJoinedToggles AreToggles Controllers toggles_are) in
    record { is = whole.is }

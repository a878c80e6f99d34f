use Rattle.cg_text.specs.declared.keyword.Keyword.TheVariants as word
use Rattle.cg_join.specs.LackingLaws.{keyword_lacking}
use Rattle.cg_join.specs.LineLaws.{lacks_spelled}
use Rattle.cg_value.specs.declared.kind.WriteForm.TheVariants.{Mode as ModeForm}
use Rattle.cg_value.specs.declared.setting.Setting.TheVariants.{Threaded}
use Rattle.cg_write.specs.ModeLaws.{mode_is}
use Rattle.cg_write.specs.WriteLaws.{write_spells}
use Rattle.cg_write.proofs.mode.mode_write.Goals as goal

pub one_line-requires : goal.one_line-requires
one_line-requires c = lacks_spelled _ _ 10 c.new.ensures.spells (keyword_lacking word.Threaded).is

pub returns-clause-spells : goal.returns-clause-spells
returns-clause-spells c =
    let whole = write_spells ModeForm (λ _. Threaded) c.new.ensures.spells c.one_line.ensures.spells mode_is in
    record { is = whole.is }

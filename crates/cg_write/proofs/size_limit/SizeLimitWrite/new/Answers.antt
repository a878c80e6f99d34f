use Rattle.cg_join.specs.LimitState.{limit_of}
use Rattle.cg_join.specs.LineLaws.{lacks_spelled}
use Rattle.cg_value.specs.WriteLine.{IsSizeLimit}
use Rattle.cg_value.specs.declared.kind.WriteForm.TheVariants.{SizeLimit as SizeLimitForm}
use Rattle.cg_value.specs.declared.setting.Setting.TheVariants.{Limit}
use Rattle.cg_write.specs.SizeLimitLaws.{size_limit_is, size_limit_lacking}
use Rattle.cg_write.specs.WriteLaws.{line_through, write_spells}
use Rattle.cg_write.proofs.size_limit.SizeLimitWrite.new.Goals as goal
use Rattle.cg_write.specs.Texts.{IsSizeOrMax}

pub one_line-requires : goal.one_line-requires
one_line-requires c = lacks_spelled _ _ 10 c.size_limit_text.ensures.spells size_limit_lacking.is

pub returns-clause-spells : goal.returns-clause-spells
returns-clause-spells c =
    let whole = write_spells SizeLimitForm (λ v. Limit (limit_of v)) c.size_limit_text.ensures.spells c.one_line.ensures.spells (line_through IsSizeOrMax IsSizeLimit limit_of Limit size_limit_is) in
    record { is = whole.is }

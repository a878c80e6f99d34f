use Rattle.std.proofs.Common.{arith}
use Rattle.cg_join.specs.LackingLaws.{limit_lacking}
use Rattle.cg_join.specs.LineLaws.{lacks_spelled}
use Rattle.cg_value.specs.declared.kind.WriteForm.TheVariants.{Limit as LimitForm}
use Rattle.cg_value.specs.declared.setting.Setting.TheVariants.{Limit}
use Rattle.cg_write.specs.WriteLaws.{write_spells}
use Rattle.cg_write.proofs.limit.limit_write.Goals as goal

pub one_line-requires : goal.one_line-requires
one_line-requires c = lacks_spelled _ _ 10 c.limit_in.ensures.spells (limit_lacking 10 _ _ (omega arith)).is

pub returns-clause-spells : goal.returns-clause-spells
returns-clause-spells c =
    let whole = write_spells (LimitForm c.args.lo c.args.hi) Limit c.limit_in.ensures.spells c.one_line.ensures.spells (λ s line. (λ h. h, λ h. h)) in
    record { is = whole.is }

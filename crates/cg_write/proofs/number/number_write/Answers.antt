use Rattle.std.proofs.Common.{arith}
use Rattle.cg_join.specs.LackingLaws.{decimal_lacking}
use Rattle.cg_join.specs.LineLaws.{lacks_spelled}
use Rattle.cg_value.specs.declared.kind.WriteForm.TheVariants.{Number as NumberForm}
use Rattle.cg_value.specs.declared.setting.Setting.TheVariants.{Number}
use Rattle.cg_write.specs.WriteLaws.{write_spells}
use Rattle.cg_write.proofs.number.number_write.Goals as goal

pub one_line-requires : goal.one_line-requires
one_line-requires c = lacks_spelled _ _ 10 c.decimal_in.ensures.spells (decimal_lacking 10 _ _ (omega arith)).is

pub returns-clause-spells : goal.returns-clause-spells
returns-clause-spells c =
    let whole = write_spells (NumberForm c.args.lo c.args.hi) Number c.decimal_in.ensures.spells c.one_line.ensures.spells (λ s line. (λ h. h, λ h. h)) in
    record { is = whole.is }

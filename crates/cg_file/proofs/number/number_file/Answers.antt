use Rattle.std.proofs.Common.{arith}
use Rattle.cg_join.specs.LackLaws.{decimal_lacks}
use Rattle.cg_text.specs.Decimal.{IsDecimal}
use Rattle.cg_join.specs.Spelling.{spells_as}
use Rattle.cg_join.specs.LineLaws.{lacks_spelled, line_as}
use Rattle.cg_value.specs.declared.value.Value.TheVariants.{Number}
use Rattle.cg_value.specs.declared.kind.ReadForm.TheVariants.{Number as NumberForm}
use Rattle.cg_file.specs.Mapped.{number_value}
use Rattle.cg_file.specs.FileLaws.{one_is}
use Rattle.cg_file.proofs.number.number_file.Goals as goal

pub one_line-requires : goal.one_line-requires
one_line-requires c = lacks_spelled _ _ 10 c.in-Some.ensures.1 (decimal_lacks 10 c.args.lo c.args.hi (omega arith))

pub returns-clause-spells : goal.returns-clause-spells
returns-clause-spells c = let whole =
    spells_as (spells_as c.one_line.ensures.spells (line_as number_value c.in-Some.ensures.1.is))
    (one_is (NumberForm c.args.lo c.args.hi) (IsDecimal c.args.lo c.args.hi) Number (λ v lines. (λ h. h, λ h. h)))
    in record { is = whole.is }

use Rattle.std.proofs.Common.{arith}
use Rattle.cg_join.specs.LackLaws.{limit_lacks}
use Rattle.cg_text.specs.Limit.{IsLimit}
use Rattle.cg_join.specs.Spelling.{spells_as}
use Rattle.cg_join.specs.LineLaws.{lacks_spelled, line_as}
use Rattle.cg_value.specs.declared.value.Value.TheVariants.{Limit as LimitOf}
use Rattle.cg_value.specs.declared.kind.ReadForm.TheVariants.{Limit as LimitForm}
use Rattle.cg_file.specs.Mapped.{limit_value}
use Rattle.cg_file.specs.FileLaws.{one_is}
use Rattle.cg_file.proofs.limit.limit_file.Goals as goal

pub one_line-requires : goal.one_line-requires
one_line-requires c = lacks_spelled _ _ 10 c.in-Some.ensures.spells.1 (limit_lacks 10 0 18446744073709551615 (omega arith))

pub returns-clause-spells : goal.returns-clause-spells
returns-clause-spells c = let whole =
    spells_as (spells_as c.one_line.ensures.spells (line_as limit_value c.in-Some.ensures.spells.1.is))
    (one_is LimitForm (IsLimit 0 18446744073709551615) LimitOf (λ v lines. (λ h. h, λ h. h))) in
    record { is = whole.is }

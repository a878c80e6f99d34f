use Rattle.std.proofs.Common.{arith}
use Rattle.cg_text.specs.List.{IsStrictList}
use Rattle.cg_join.specs.LackingLaws.{strict_lacking}
use Rattle.cg_join.specs.LineLaws.{lacks_spelled, line_as}
use Rattle.cg_join.specs.Spelling.{spells_as}
use Rattle.cg_value.specs.declared.kind.ReadForm.TheVariants.{Set as SetForm}
use Rattle.cg_value.specs.declared.value.Value.TheVariants.{Set}
use Rattle.cg_file.specs.FileLaws.{one_is}
use Rattle.cg_file.specs.OneLineMapped.{set_value}
use Rattle.cg_file.proofs.set.SetFile.new.Goals as goal

pub one_line-requires : goal.one_line-requires
one_line-requires c = lacks_spelled _ _ 10 c.new.ensures.spells (strict_lacking 10 c.args.most (omega arith)).is

pub returns-clause-spells : goal.returns-clause-spells
returns-clause-spells c = let whole =
    spells_as (spells_as c.one_line.ensures.spells (line_as set_value c.new.ensures.spells.is))
    (one_is (SetForm c.args.most) (IsStrictList c.args.most) Set (λ v lines. (λ h. h, λ h. h))) in
    record { is = whole.is }

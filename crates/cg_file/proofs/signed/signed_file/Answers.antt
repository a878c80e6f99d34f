use Rattle.std.proofs.Common.{arith, FitsSigned, to_z-of_z, w64}
use Rattle.cg_text.specs.Signed.{IsSigned}
use Rattle.cg_join.specs.LackingLaws.{signed_lacking}
use Rattle.cg_join.specs.LineLaws.{lacks_spelled, line_as}
use Rattle.cg_join.specs.Spelling.{spells_as}
use Rattle.cg_value.specs.declared.kind.ReadForm.TheVariants.{Signed as SignedForm}
use Rattle.cg_value.specs.declared.value.Value.TheVariants.{Signed}
use Rattle.cg_file.specs.FileLaws.{one_is}
use Rattle.cg_file.specs.OneLineMapped.{signed_value}
use Rattle.cg_file.proofs.signed.signed_file.Goals as goal

pub one_line-requires : goal.one_line-requires
one_line-requires c =
    let low : FitsSigned w64 c.args.lo = c.ranges.lo in
    let high : FitsSigned w64 c.args.hi = c.ranges.hi in
    let made = simp to_z-of_z at c.in-Some.ensures in
    lacks_spelled _ _ 10 made.1 (signed_lacking 10 c.args.lo c.args.hi (omega arith)).is

pub returns-clause-spells : goal.returns-clause-spells
returns-clause-spells c =
    let low : FitsSigned w64 c.args.lo = c.ranges.lo in
    let high : FitsSigned w64 c.args.hi = c.ranges.hi in
    let made = simp to_z-of_z at c.in-Some.ensures in
    let whole = spells_as (spells_as c.one_line.ensures.spells (line_as signed_value made.1.is)) (one_is (SignedForm c.args.lo c.args.hi) (IsSigned c.args.lo c.args.hi) Signed (λ v lines. (λ h. h, λ h. h))) in
    record { is = whole.is }

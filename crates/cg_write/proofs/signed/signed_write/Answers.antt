use Rattle.std.proofs.Common.{arith, FitsSigned, to_z-of_z, w64}
use Rattle.cg_join.specs.LackingLaws.{signed_lacking}
use Rattle.cg_join.specs.LineLaws.{lacks_spelled}
use Rattle.cg_value.specs.declared.kind.WriteForm.TheVariants.{Signed as SignedForm}
use Rattle.cg_value.specs.declared.setting.Setting.TheVariants.{Signed}
use Rattle.cg_write.specs.WriteLaws.{write_spells}
use Rattle.cg_write.proofs.signed.signed_write.Goals as goal

pub one_line-requires : goal.one_line-requires
one_line-requires c =
    let low : FitsSigned w64 c.args.lo = c.ranges.lo in
    let high : FitsSigned w64 c.args.hi = c.ranges.hi in
    let made = simp to_z-of_z at c.in-Some.ensures in
    lacks_spelled _ _ 10 made.1 (signed_lacking 10 _ _ (omega arith)).is

pub returns-clause-spells : goal.returns-clause-spells
returns-clause-spells c =
    let low : FitsSigned w64 c.args.lo = c.ranges.lo in
    let high : FitsSigned w64 c.args.hi = c.ranges.hi in
    let made = simp to_z-of_z at c.in-Some.ensures in
    let whole = write_spells (SignedForm c.args.lo c.args.hi) Signed made.1 c.one_line.ensures.spells (λ s line. (λ h. h, λ h. h)) in
    record { is = whole.is }

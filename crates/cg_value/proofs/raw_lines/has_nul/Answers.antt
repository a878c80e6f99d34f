use Rattle.std.proofs.Common.{get_or, refl, eqb-true, arith}
use Rattle.cg_text.specs.WordLaws.{true_not_false}
use Rattle.cg_value.specs.LinesOfLaws.{no_nul_all, nul_there}
use Rattle.cg_value.proofs.raw_lines.has_nul.Goals as goal

pub returns-in-Some : goal.returns-in-Some
returns-in-Some c =
    let text = c.args.text.now in
    let there = c.in-Some.ensures in (
      λ e. absurd (true_not_false e),
      λ h. absurd (nul_there text c.in-Some.field-0 there.0.high (eqb-true (get_or text c.in-Some.field-0 0) 0 there.1) h),
    )

pub returns-in-None : goal.returns-in-None
returns-in-None c = (λ _. no_nul_all c.args.text.now (λ i. omega (arith, c.type_inv.text i)) c.in-None.ensures, λ _. refl)

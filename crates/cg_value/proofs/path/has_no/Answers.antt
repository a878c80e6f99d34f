use Rattle.std.proofs.Common.{get_or, refl, sym, eqb-true}
use Rattle.cg_text.specs.WordLaws.{true_not_false}
use Rattle.cg_value.specs.PathLaws.{byte_there, lacks_all}
use Rattle.cg_value.proofs.path.has_no.Goals as goal

pub returns-in-Some : goal.returns-in-Some
returns-in-Some c =
    let path = c.args.path.now in
    let there = c.in-Some.ensures in (
      λ e. absurd (true_not_false (sym e)),
      λ l. absurd (byte_there c.args.byte path c.in-Some.field-0 there.0.high (eqb-true (get_or path c.in-Some.field-0 0) c.args.byte there.1) l),
    )

pub returns-in-None : goal.returns-in-None
returns-in-None c = (λ _. lacks_all c.args.byte c.args.path.now c.in-None.ensures, λ _. refl)

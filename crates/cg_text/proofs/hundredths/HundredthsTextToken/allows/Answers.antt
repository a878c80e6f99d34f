use Rattle.std.proofs.Common.{refl}
use Rattle.cg_text.specs.TokenLaws.{begins}
use Rattle.cg_text.specs.HundredthsState.{HundredthsRest}
use Rattle.cg_text.specs.HundredthsLaws.{hundredths_completes}
use Rattle.cg_text.proofs.hundredths.HundredthsTextToken.allows.Goals as goal

pub returns-in-Some : goal.returns-in-Some
returns-in-Some c =
    let token = c.args.self.now in
    let done = hundredths_completes token.form token.most c.in-Some.field-0 c.in-Some.ensures.within in
    (λ _. begins (HundredthsRest token.form token.most) token.part c.args.byte c.in-Some.field-0 c.in-Some.ensures.follows done, λ _. refl)

use Rattle.std.proofs.Common.{refl}
use Rattle.cg_text.specs.TokenLaws.{begins}
use Rattle.cg_text.specs.SignedState.{SignedRest}
use Rattle.cg_text.specs.SignedLaws.{signed_completes}
use Rattle.cg_text.proofs.signed.SignedTextToken.allows.Goals as goal

pub returns-in-Some : goal.returns-in-Some
returns-in-Some c =
    let done = signed_completes c.in-Some.field-0 c.in-Some.ensures.bounded c.in-Some.ensures.live in
    (λ _. begins SignedRest c.args.self.now.taken c.args.byte c.in-Some.field-0 c.in-Some.ensures.follows done, λ _. refl)

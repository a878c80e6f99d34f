use Rattle.std.proofs.Common.{refl}
use Rattle.cg_text.specs.TokenLaws.{begins}
use Rattle.cg_text.specs.SizeState.{SizeRest}
use Rattle.cg_text.specs.SizeLaws.{size_completes}
use Rattle.cg_text.proofs.size.SizeTextToken.allows.Goals as goal

pub returns-in-Some : goal.returns-in-Some
returns-in-Some c =
    let done = size_completes c.in-Some.field-0 c.in-Some.ensures.small in
    (λ _. begins SizeRest c.args.self.now.taken c.args.byte c.in-Some.field-0 c.in-Some.ensures.follows done, λ _. refl)

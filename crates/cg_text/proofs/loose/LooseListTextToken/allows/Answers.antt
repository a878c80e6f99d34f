use Rattle.std.proofs.Common.{◌∷◌}
use Rattle.cg_text.specs.GivenRanges.{Gives}
use Rattle.cg_text.specs.LooseLaws.{loose_completes}
use Rattle.cg_text.proofs.loose.LooseListTextToken.allows.Goals as goal

pub returns : goal.returns
returns c =
    let s = c.args.self.now in
    (λ h. loose_completes (λ rest. Gives s.list (c.args.byte ∷ rest)) (λ rest. s.sound (c.args.byte ∷ rest)) (c.allows.ensures.0 h), λ h. c.allows.ensures.1 (h.0, h.2.0, h.2.1))

use Rattle.std.proofs.Common.{refl}
use Rattle.cg_text.specs.LimitPairsLaws.{limits_complete}
use Rattle.cg_text.proofs.pairs.LimitPairsTextToken.allows.Goals as goal

pub returns-in-Some : goal.returns-in-Some
returns-in-Some c =
    let n = c.in-Some.ensures in
    let k = limits_complete c.in-Some.field-0.0 c.in-Some.field-0.1 n.0 in
    (λ e. (k.0, k.1, (n.1 k.0 k.1).0 k.2), λ h. refl)

pub returns-in-None : goal.returns-in-None
returns-in-None c = (λ e. absurd (cc), λ h. absurd (c.in-None.ensures h.0 h.1 h.2))

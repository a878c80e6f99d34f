use Rattle.std.proofs.Common.{◌≤◌, ◌↔◌, IsTrue, All, rules}
use Rattle.cg_value.specs.SpelledLaws.{set_text}
use Rattle.cg_value.proofs.fits.is_set_within.Goals as goal

pub returns : goal.returns
returns c =
    let all : IsTrue c.all.result ↔ All (λ r. r.1 ≤ c.args.most) c.ranges-2.result.now = search rules in
    let ends = rw c.ranges-2.ensures.ranges at all in
    let text = set_text c.args.most c.args.set.now c.ranges-2.ensures.set in
    (λ e. text.0 (ends.0 e), λ h. ends.1 (text.1 h))

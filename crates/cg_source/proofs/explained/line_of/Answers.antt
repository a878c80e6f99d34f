use Rattle.std.proofs.Common.{List, ℕ, ◌++◌, ap, ◌∙◌}
use Rattle.cg_outcome.specs.Spot.{spot_words}
use Rattle.cg_source.proofs.explained.line_of.Goals as goal

pub returns-in-Ok : goal.returns-in-Ok
returns-in-Ok c = rw c.in-Some.is (c.in-Ok.ensures ∙ ap (λ (t : List ℕ). t ++ spot_words c.in-Some.spot) c.new-text.ensures.items)

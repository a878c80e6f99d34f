use Rattle.std.proofs.Common.{List, Bool, ◌≡◌, sym, ◌∙◌, subst}
use Rattle.cg_outcome.specs.Explain.{IsInRecord}
use Rattle.cg_outcome.specs.Spot.{spot_words}
use Rattle.cg_outcome.proofs.Spots.{explains_as, limit_tells, line_tells}
use Rattle.cg_run.proofs.spot.stream_spot.Goals as goal

pub returns-in-Some-place : goal.returns-in-Some-place
returns-in-Some-place g c form p h few lines =
    let counted = rw c.in-Some.is at lines in
    let place = rw c.in-Some-place.is at (c.standing-wanted.ensures.place form p h) in
    let wanted = g.S.StreamReader.wanted form in
    let text = spot_words c.spot_in.result in
    let line = explains_as (λ q set. set ≡ c.standing-wanted.result.wanted) wanted IsInRecord p c.args.byte text (λ set e. subst (λ (t : List Bool). wanted p t) (sym e) (c.standing-wanted.ensures.wanted form p h)) (c.spot_in.ensures p counted few place) in
    rw c.in-Some.is (line_tells (g.S.StreamReader.explained form) p c.args.byte c.args.stop text (sym c.is_explained.ensures ∙ c.if-not-is_explained.false) (g.met.S.StreamReader.explains form p c.args.byte text line))

pub returns-then-not-is_explained : goal.returns-then-not-is_explained
returns-then-not-is_explained g c form p h few lines = limit_tells (g.S.StreamReader.explained form) p c.args.byte _ c.args.stop (sym c.is_explained.ensures ∙ c.if-not-is_explained.true)

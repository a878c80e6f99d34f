use Rattle.std.proofs.Common.{false, refl, sym, ◌∙◌}
use Rattle.cg_text.specs.Texts.{TextOf}
use Rattle.cg_outcome.specs.Explain.{AreNext, ExplainsNext, IsInText}
use Rattle.cg_outcome.specs.Spot.{spot_words}
use Rattle.cg_outcome.specs.declared.spot.Spot.{Spot}
use Rattle.cg_outcome.proofs.Spots.{in_text, limit_tells, line_tells, spot_explains}
use Rattle.cg_source.proofs.spot.text_spot.Goals as goal

pub returns : goal.returns
returns g c form p h few lines =
    let counted = rw c.in-Some.is at lines in
    let name = c.args.name in
    let L = TextOf (g.T.TextReader.text form) in
    let spot : Spot = record { ended = c.in-Some.counted.ended; path = name; in_path = false; before = c.in-Some.counted.begun; byte = c.args.byte; wanted = c.allowed.result } in
    rw c.in-Some.is (line_tells (ExplainsNext L (IsInText name.now)) p c.args.byte c.args.stop (spot_words spot) (sym c.is_explained.ensures ∙ c.if-not-is_explained.false)
    (spot_explains c.in-Some.counted p few counted (AreNext L) (IsInText name.now) spot refl false name.now c.in-Some.counted.begun
    refl refl refl (in_text c.in-Some.counted p few counted name.now) (c.allowed.ensures form p h)))

pub returns-then-not-is_explained : goal.returns-then-not-is_explained
returns-then-not-is_explained g c form p h few lines =
    limit_tells (ExplainsNext (TextOf (g.T.TextReader.text form)) (IsInText c.args.name.now)) p c.args.byte _ c.args.stop (sym c.is_explained.ensures ∙ c.if-not-is_explained.true)

pub returns-in_default : goal.returns-in_default
returns-in_default g c form p h few lines = rw c.in_default.is refl

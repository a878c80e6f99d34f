use Rattle.std.proofs.Common.{◌≡◌, not, refl}
use Rattle.cg_outcome.specs.Explain.{IsInRecord}
use Rattle.cg_outcome.specs.Spot.{before_in}
use Rattle.cg_outcome.specs.declared.spot.Spot.{Spot}
use Rattle.cg_outcome.proofs.Spots.{in_record, spot_explains}
use Rattle.cg_outcome.proofs.spot.spot_in.Goals as goal

pub returns : goal.returns
returns c p counted few at =
    let place = c.args.place in
    let lines = c.args.counted in
    let spot : Spot = record { ended = lines.ended; path = place.path; in_path = not place.in_line; before = c.before_in.result; byte = c.args.byte; wanted = c.args.wanted } in
    spot_explains lines p few counted (λ q set. set ≡ c.args.wanted) IsInRecord spot refl (not place.in_line) place.path.now (before_in place.in_line place.path.now lines.begun)
    refl refl c.before_in.ensures (in_record lines p few counted place.path.now place.in_line at) refl

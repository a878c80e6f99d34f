use Rattle.std.proofs.Common.{◌≤◌, ◌≡◌, ◌++◌, Some, length, subst, sym, arith}
use Rattle.cg_snap.specs.Snap.{Snap}
use Rattle.cg_snap.proofs.GoingOnPlaces.{place_behind}
use Rattle.cg_outcome.specs.Explain.{AreNext, IsInRecord}
use Rattle.cg_outcome.specs.Spot.{spot_words}
use Rattle.cg_run.proofs.GoingOn.{ok_as}
use Rattle.cg_outcome.proofs.Spots.{explains_as}
use Rattle.cg_run.proofs.going_on.explain_fault.Goals as goal

pub returns : goal.returns
returns c profile front block ended before counted at =
    let q = front ++ block in
    let few : length q ≤ 18446744073709551615 = omega (arith, at, c.ranges.at.fits) in
    let place = place_behind front block c.record_place.result.path.now c.record_place.result.in_line ended (c.record_place.ensures profile block before) in
    let text = spot_words c.spot_in-spot.result in
    let line = explains_as (λ p s. s ≡ c.allowed.result) (λ p s. AreNext (Snap profile) block s) IsInRecord q (Some c.args.byte) text (λ s x. subst (AreNext (Snap profile) block) (sym x) (λ b. c.allowed.ensures profile block before b))
    (c.spot_in-spot.ensures q counted few place) in
    ok_as c.append_spot.result _ _ (λ same. (text, same, line)) c.append_spot.ensures

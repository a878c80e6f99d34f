use Rattle.std.proofs.Common.{[], subst}
use Rattle.std.proofs.lemmas.Bool.{MatchBool-at_false, MatchBool-at_true}
use Rattle.cg_snap.specs.GoingOn.{IsPassed, told_by}
use Rattle.cg_snap.proofs.GoingOnPlaces.{passing_is, passing_place, reading_place}
use Rattle.cg_snap.proofs.going_on_decoder.Decoder+GoingOnRecords.record_place.Goals as goal

pub returns-then-not-self : goal.returns-then-not-self
returns-then-not-self c p found h =
    let s = c.args.self.now.records in
    let r = MatchBool-at_false _ _ c.if-not-self.true h.state.told.state in
    reading_place s.block.profile s.limits s p (told_by found) r c.record_place.result.path.now c.record_place.result.in_line (c.record_place.ensures s.block.profile r.block [] r.along.state)

pub returns-in-Some : goal.returns-in-Some
returns-in-Some c p found h =
    let s = c.args.self.now.records in
    let over = MatchBool-at_true _ _ c.if-not-self.false h.state.told.state in
    rw c.as_slice.ensures (passing_place s.block.profile s.limits s p (told_by found) over c.in-Some.path c.in-Some.is)

pub returns-in-None : goal.returns-in-None
returns-in-None c p found h =
    let s = c.args.self.now.records in
    let over = MatchBool-at_true _ _ c.if-not-self.false h.state.told.state in
    subst (IsPassed s.block.profile s.limits p) c.in-None.is (passing_is s.block.profile s.limits s p (told_by found) over)

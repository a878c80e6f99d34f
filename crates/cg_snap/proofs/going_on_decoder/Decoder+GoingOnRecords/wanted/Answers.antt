use Rattle.std.proofs.Common.{[]}
use Rattle.std.proofs.lemmas.Bool.{MatchBool-at_false, MatchBool-at_true}
use Rattle.cg_snap.specs.GoingOn.{told_by}
use Rattle.cg_snap.specs.GoingOnState.{form_of}
use Rattle.cg_snap.proofs.GoingOnPlaces.{passing_wanted, reading_wanted}
use Rattle.cg_snap.proofs.GoingOnTakes.{next_byte, small_next}
use Rattle.cg_snap.proofs.going_on_decoder.Decoder+GoingOnRecords.wanted.Goals as goal

pub returns-then-self : goal.returns-then-self
returns-then-self c p found h =
    let s = c.args.self.now.records in
    let over = MatchBool-at_true _ _ c.if-self.true h.state.told.state in
    passing_wanted s.block.profile s.limits s p (told_by found) over c.allowed.result
    (λ byte. let e = c.allowed.ensures (form_of s) p found h.state byte in (λ k. small_next p byte (e.0 k), λ lt. e.1 (next_byte p byte h.state.bytes lt)))

pub returns : goal.returns
returns c p found h =
    let s = c.args.self.now.records in
    let r = MatchBool-at_false _ _ c.if-self.false h.state.told.state in
    reading_wanted s.block.profile s.limits s p (told_by found) r h.state.told.meter_is c.allowed-2.result (c.allowed-2.ensures s.block.profile r.block [] r.along.state)

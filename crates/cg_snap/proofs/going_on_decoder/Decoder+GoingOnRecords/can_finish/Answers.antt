use Rattle.std.proofs.Common.{[], Option, Ok}
use Rattle.std.proofs.lemmas.Bool.{MatchBool-at_false, MatchBool-at_true}
use Rattle.cg_value.specs.Entry.{EntryData}
use Rattle.cg_snap.specs.Begun.{IsRecordEnd}
use Rattle.cg_snap.specs.GoingOn.{told_by}
use Rattle.cg_snap.specs.GoingOnDecoder.{GoingFinishIs}
use Rattle.cg_snap.specs.Snap.{Snap}
use Rattle.cg_snap.proofs.GoingOnEnds.{passing_cut, reading_all, reading_cut}
use Rattle.cg_snap.proofs.RecordPlaces.{decided}
use Rattle.cg_snap.proofs.going_on_decoder.Decoder+GoingOnRecords.can_finish.Goals as goal

pub returns-then-self : goal.returns-then-self
returns-then-self c p found h =
    let s = c.args.self.now.records in
    passing_cut s.block.profile s.limits s p (told_by found) (MatchBool-at_true _ _ c.if-self.true h.state.told.state)

pub returns : goal.returns
returns c p found h =
    let s = c.args.self.now.records in
    let profile = s.block.profile in
    let limits = s.limits in
    let r = MatchBool-at_false _ _ c.if-self.false h.state.told.state in
    decided c.can_finish.result (Snap profile r.block) ((last : Option EntryData) × GoingFinishIs profile limits p found (Ok last)) (IsRecordEnd p → ⊥) (c.can_finish.ensures profile r.block [] r.along.state)
    (reading_all profile limits s p (told_by found) r h.state.told.meter_is) (reading_cut profile limits s p (told_by found) r)

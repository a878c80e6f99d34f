use Rattle.std.proofs.Common.{[]}
use Rattle.std.proofs.lemmas.Bool.{MatchBool-at_false, MatchBool-at_true}
use Rattle.cg_snap.specs.GoingOn.{told_by}
use Rattle.cg_snap.proofs.GoingOnEnds.{passing_cut, reading_err, reading_last}
use Rattle.cg_snap.proofs.going_on_records.GoingOnRecords.finish.Goals as goal

pub returns-then-is_passing : goal.returns-then-is_passing
returns-then-is_passing c p found h at =
    let s = c.args.self in
    (at, passing_cut s.block.profile s.limits s p (told_by found) (MatchBool-at_true _ _ c.if-is_passing.true h.told.state))

pub returns-in-Ok : goal.returns-in-Ok
returns-in-Ok c p found h at =
    let s = c.args.self in
    let r = MatchBool-at_false _ _ c.if-is_passing.false h.told.state in
    reading_last s.block.profile s.limits s p (told_by found) r h.told.meter_is c.in-Ok.last (c.in-Ok.ensures s.block.profile r.block [] r.along.state r.along.counted.offset)

pub returns : goal.returns
returns c p found h at =
    let s = c.args.self in
    let r = MatchBool-at_false _ _ c.if-is_passing.false h.told.state in
    (at, reading_err s.block.profile s.limits s p (told_by found) r _ (c.in-Err.ensures s.block.profile r.block [] r.along.state r.along.counted.offset))

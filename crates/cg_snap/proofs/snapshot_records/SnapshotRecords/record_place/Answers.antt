use Rattle.cg_snap.proofs.RecordPlaces.{line_place, path_place, start_place}
use Rattle.cg_snap.proofs.snapshot_records.SnapshotRecords.record_place.Goals as goal
use Rattle.cg_snap.proofs.snapshot_records.SnapshotRecords.record_place.Goals.{in_default-via-in-Some+else-x, in_default-via-in_default}

pub returns-in-Some : goal.returns-in-Some
returns-in-Some c = λ profile p es h.
    let s = c.args.self.now in
    rw c.as_slice.ensures.value (line_place profile s.begun.items s.present p es h.at c.in-Some.x c.in-Some.is c.if-x.true)

pub returns-in_default : goal.returns-in_default
returns-in_default c = λ profile p es h.
    let s = c.args.self.now in
    rw c.as_slice-in_default.ensures.value (elim c.in_default.branch [
      | in_default-via-in-Some+else-x w ↦ path_place profile s.begun.items s.present p es h.at w.in-Some.x w.in-Some.is w.if-x.false
      | in_default-via-in_default w ↦ start_place profile s.begun.items s.present p es h.at w.in_default.is
    ])

use Rattle.cg_snap.proofs.RecordPlaces.{item_line_place, item_path_place}
use Rattle.cg_snap.proofs.record_place.Decoder+PlanRecords.record_place.Goals as goal

pub returns-in-Some : goal.returns-in-Some
returns-in-Some c = λ p items h.
    let d = c.args.self.now in
    rw c.as_slice.ensures.value (item_line_place d.records.profile d.records.begun.items d.records.present p items h.state.at c.in-Some.writing c.in-Some.is)

pub returns-in-None : goal.returns-in-None
returns-in-None c = λ p items h.
    let d = c.args.self.now in
    rw c.as_slice-in-None.ensures.value (item_path_place d.records.profile d.records.begun.items d.records.present p items h.state.at c.in-None.is)

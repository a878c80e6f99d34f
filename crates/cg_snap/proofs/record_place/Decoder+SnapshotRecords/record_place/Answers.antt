use Rattle.cg_snap.proofs.record_place.Decoder+SnapshotRecords.record_place.Goals as goal

pub returns : goal.returns
returns c = λ p es h. c.record_place.ensures c.args.self.now.records.profile p es h.state

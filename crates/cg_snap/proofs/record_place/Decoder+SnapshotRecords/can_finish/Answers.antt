use Rattle.cg_snap.proofs.record_place.Decoder+SnapshotRecords.can_finish.Goals as goal

pub returns : goal.returns
returns c = λ p es h. c.can_finish.ensures c.args.self.now.records.profile p es h.state

use Rattle.cg_snap.proofs.decoder.Decoder+SnapshotRecords.held.Goals as goal

pub returns : goal.returns
returns c = record { exact = c.held.ensures.exact; held = λ p es h. c.held.ensures.held c.args.self.now.records.profile p es h.state }

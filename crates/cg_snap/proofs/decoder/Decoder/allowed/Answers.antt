use Rattle.cg_snap.proofs.decoder.Decoder.allowed.Goals as goal

pub returns : goal.returns
returns g c = λ p es h byte. c.allowed.ensures (g.R.Records.form_of c.args.self.now.records) p es h.state byte

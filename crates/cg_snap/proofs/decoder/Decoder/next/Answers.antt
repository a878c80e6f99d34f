use Rattle.std.proofs.Common.{sym, subst}
use Rattle.cg_snap.specs.Course.{PieceDid}
use Rattle.cg_snap.proofs.Piecewise.{unstopped_came}
use Rattle.cg_snap.proofs.decoder.Decoder.next.Goals as goal

pub returns-in_default-what-clause-pulled : goal.returns-in_default-what-clause-pulled
returns-in_default-what-clause-pulled g c = λ p es n h.
    let new = c.pull-progress.new in
    let piece = c.args.piece.now in
    let used = c.pull-progress.result.used in
    let what = c.pull-progress.result.what in
    unstopped_came (g.R.Records.stream (g.R.Records.form_of new.self)) (record { records = new.self; meter = new.meter; stop = c.args.self.now.stop }) p es piece used what n c.in_default-what.not-Stopped
    (subst (λ (form : g.row.R-Setup.Denot). PieceDid (g.R.Records.stream form) new.self new.meter p es piece used what) (sym c.pull-progress.ensures.form)
    (c.pull-progress.ensures.pulled (g.R.Records.form_of c.args.self.now.records) p es h))

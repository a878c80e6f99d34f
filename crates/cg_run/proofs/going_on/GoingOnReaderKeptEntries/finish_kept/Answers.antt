use Rattle.std.proofs.Common.{◌++◌, refl}
use Rattle.cg_snap.specs.GoingOn.{told_entry}
use Rattle.cg_run.specs.GoneOn.{told_of}
use Rattle.cg_run.proofs.GoingOn.{kept_fault, kept_on}
use Rattle.cg_run.proofs.going_on.GoingOnReaderKeptEntries.finish_kept.Goals as goal

pub returns-in-Ok : goal.returns-in-Ok
returns-in-Ok g c form p parts h =
    let ended = c.in-Ok.ensures (form.0) (form.1) p parts h in
    kept_on g.T.Teller.parts g.T.Teller.keeps g.T.Teller.all g.T.Teller.outcome (form.0) (form.1) p parts g.met.T.KeepsRuled.lines g.met.T.KeepsRuled.ends g.met.T.KeepsRuled.no_line
    c.in-Ok.ended (record { entries = c.into_entries.result; left_out = c.in-Ok.ended.left_out }) ended (c.into_entries.ensures (told_of ended.before ++ told_entry ended.last) ended.keeps) refl

pub returns-in-Err : goal.returns-in-Err
returns-in-Err g c form p parts h =
    kept_fault g.T.Teller.parts g.T.Teller.keeps g.T.Teller.all g.T.Teller.outcome (form.0) (form.1) p parts g.met.T.KeepsRuled.lines g.met.T.KeepsRuled.ends g.met.T.KeepsRuled.no_line
    c.in-Err.fault (c.in-Err.ensures (form.0) (form.1) p parts h)

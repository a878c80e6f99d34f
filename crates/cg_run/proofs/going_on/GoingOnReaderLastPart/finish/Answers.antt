use Rattle.std.proofs.Common.{List, ℕ, ◌++◌, ◌<◌, ◌∙◌, ap, length, subst}
use Rattle.cg_run.proofs.GoingOn.{finish_fault, finish_on, finish_starved}
use Rattle.cg_run.proofs.going_on.GoingOnReaderLastPart.finish.Goals as goal

pub returns-in-Err : goal.returns-in-Err
returns-in-Err g c form p parts h =
    finish_fault g.T.Teller.parts g.T.Teller.keeps g.T.Teller.all g.T.Teller.outcome (form.0) (form.1) p parts g.met.T.TellsAll.no_more g.met.T.TellsAll.ends g.met.T.TellsAll.some
    c.in-Err.fault c.args.out.now.items (c.in-Err.ensures (form.0) (form.1) p parts h)

pub returns-in-Ok-append : goal.returns-in-Ok-append
returns-in-Ok-append g c form p parts h =
    finish_on g.T.Teller.parts g.T.Teller.keeps g.T.Teller.all g.T.Teller.outcome (form.0) (form.1) p parts g.met.T.TellsAll.no_more g.met.T.TellsAll.ends g.met.T.TellsAll.some
    c.in-Ok.ended c.args.out.now.items c.append.new.out.items (c.in-Ok.ensures (form.0) (form.1) p parts h) (c.in-Ok-append.ensures.added ∙ ap (λ (t : List ℕ). c.args.out.now.items ++ t) c.as_slice.ensures.value)

pub returns : goal.returns
returns g c form p parts h =
    rw c.in-Err-append.ensures.kept (finish_starved g.T.Teller.parts g.T.Teller.keeps g.T.Teller.all g.T.Teller.outcome (form.0) (form.1) p parts g.met.T.TellsAll.no_more g.met.T.TellsAll.ends g.met.T.TellsAll.some
    c.in-Ok.ended c.args.out.now.items (c.in-Ok.ensures (form.0) (form.1) p parts h) (subst (λ (t : List ℕ). 0 < length t) c.as_slice.ensures.value c.in-Err-append.ensures.wanted))

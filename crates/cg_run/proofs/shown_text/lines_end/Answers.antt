use Rattle.std.proofs.Common.{get_or, eqb-true}
use Rattle.cg_run.proofs.ShowsBytes.{cut_behind, cut_none}
use Rattle.cg_run.proofs.shown_text.lines_end.Goals as goal

pub returns-in-Some-clause-cut : goal.returns-in-Some-clause-cut
returns-in-Some-clause-cut c =
    let text = c.args.text.now in
    let place = c.in-Some.place in
    cut_behind text place c.in-Some.ensures.0.high (eqb-true (get_or text place 0) 10 c.in-Some.ensures.1) c.in-Some.ensures.0.after

pub returns-in-None-clause-cut : goal.returns-in-None-clause-cut
returns-in-None-clause-cut c = cut_none c.args.text.now c.in-None.ensures

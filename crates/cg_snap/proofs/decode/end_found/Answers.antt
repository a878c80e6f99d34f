use Rattle.std.proofs.Common.{sym, subst, inr}
use Rattle.cg_snap.specs.GoingOnDecoder.{IsGoneOn}
use Rattle.cg_snap.proofs.GoingOnEnds.{going_err, going_none, going_some, going_unstopped}
use Rattle.cg_snap.proofs.decode.end_found.Goals as goal
use Rattle.cg_snap.proofs.decode.end_found.Goals.{in-Ok, in-Err-push}

pub returns-in-Ok-None : goal.returns-in-Ok-None
returns-in-Ok-None c = λ profile limits bytes h.
    going_none profile limits c.args.decoder bytes c.args.found.now.items h (rw c.in-Ok-None.field-0-is at (c.in-Ok-None.ensures.finished bytes c.args.found.now.items h.stop h.stands))

pub returns-after-push : goal.returns-after-push
returns-after-push c = λ profile limits bytes h.
    let es = c.args.found.now.items in
    let done = going_some profile limits c.args.decoder bytes es h c.in-Ok-Some.entry (rw c.in-Ok-Some.field-0-is at (c.in-Ok-Some.ensures.finished bytes es h.stop h.stands)) in
    elim c.match-push.branch [
      | in-Ok w ↦ rw w.result-is (subst (IsGoneOn profile limits bytes) (sym w.in-Ok.ensures.items) done)
      | in-Err-push w ↦ rw w.result-is (inr (going_unstopped profile limits c.args.decoder bytes es h))
    ]

pub returns-in-Err : goal.returns-in-Err
returns-in-Err c = λ profile limits bytes h.
    going_err profile limits c.args.decoder bytes c.args.found.now.items h c.in-Err.stop (c.in-Err.ensures.finished bytes c.args.found.now.items h.stop h.stands)

use Rattle.std.proofs.Common.{◌++◌, ◌∷◌, [], append-nil, sym, subst, inr, Some, None}
use Rattle.cg_value.specs.Entry.{EntryData}
use Rattle.cg_snap.specs.Decode.{IsDecoded}
use Rattle.cg_snap.proofs.Piecewise.{end_err, end_ok, taken_unstopped}
use Rattle.cg_snap.proofs.decode.end_entries.Goals as goal
use Rattle.cg_snap.proofs.decode.end_entries.Goals.{in-Ok, in-Err-push}

pub returns-in-Ok-None : goal.returns-in-Ok-None
returns-in-Ok-None c = λ profile limits bytes h.
    let es = c.args.entries.now.items in
    rw (append-nil es) at (end_ok profile limits c.args.decoder bytes es h None (rw c.in-Ok-None.field-0-is at (c.in-Ok-None.ensures.finished bytes es h.stop h.stands)))

pub returns-after-push : goal.returns-after-push
returns-after-push c = λ profile limits bytes h.
    let es = c.args.entries.now.items in
    let done = end_ok profile limits c.args.decoder bytes es h (Some c.in-Ok-Some.entry) (rw c.in-Ok-Some.field-0-is at (c.in-Ok-Some.ensures.finished bytes es h.stop h.stands)) in
    elim c.match-push.branch [
      | in-Ok w ↦ rw w.result-is (subst (IsDecoded profile limits bytes) (sym w.in-Ok.ensures.items) (subst (λ (e : EntryData). IsDecoded profile limits bytes (es ++ e ∷ [])) c.in-Ok-Some.entry-is done))
      | in-Err-push w ↦ rw w.result-is (inr (taken_unstopped profile limits c.args.decoder bytes es h))
    ]

pub returns-in-Err : goal.returns-in-Err
returns-in-Err c = λ profile limits bytes h.
    let es = c.args.entries.now.items in
    end_err profile limits c.args.decoder bytes es h c.in-Err.stop (c.in-Err.ensures.finished bytes es h.stop h.stands)

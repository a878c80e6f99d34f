use Rattle.std.proofs.Common.{List, ℕ, ◌++◌, ◌∙◌, ap, refl}
use Rattle.std.specs.List.{flat_map}
use Rattle.cg_snap.specs.GoingOn.{told_by, told_entry}
use Rattle.cg_outcome.specs.Wrote.{joined}
use Rattle.cg_run.proofs.GoingOn.{ended_told, untold}
use Rattle.cg_run.proofs.going_on.GoingOnReader.end.Goals as goal

pub returns-in-Ok-tell_entry : goal.returns-in-Ok-tell_entry
returns-in-Ok-tell_entry g c form explain p parts h =
    let told = c.in-Ok-tell_entry.ensures.told (told_by h.found) h.keeps in
    ended_told g.T.Teller.parts g.T.Teller.keeps c.args.self form explain p parts h (record { teller = c.tell_entry.new.teller; text = c.tell_entry.new.text; left_out = c.args.self.left_out }) c.in-Ok.last
    (c.in-Ok.ensures.finished p h.found h.taken.stop h.taken.stands)
    (told.0 ∙ ap (λ (t : List ℕ). t ++ joined (flat_map g.T.Teller.parts (told_entry c.in-Ok.last))) c.clear.ensures.items) told.1 refl

pub returns-in-Err-tell_entry : goal.returns-in-Err-tell_entry
returns-in-Err-tell_entry g c form explain p parts h =
    untold g.T.Teller.parts g.T.Teller.keeps c.args.self form explain p parts h c.in-Ok.last (c.in-Ok.ensures.finished p h.found h.taken.stop h.taken.stands) c.in-Err-tell_entry.ensures.wanted

use Rattle.std.proofs.Common.{◌≡◌, ◌-◌, ◌∷◌, ◌++◌, ◌∙◌, [], ℕ, Bool, List, take, get_or, inl, refl, sym, subst, is_some, arith}
use Rattle.std.proofs.lemmas.List.{take_all}
use Rattle.cg_snap.specs.GoingOn.{stream_limits, told_by}
use Rattle.std.specs.List.{flat_map}
use Rattle.cg_snap.specs.GoingOnDecoder.{GoingOnDecoder}
use Rattle.cg_snap.specs.declared.event.Event.TheVariants as events
use Rattle.cg_snap.specs.declared.going_on.Found.{Found}
use Rattle.cg_run.specs.GoneOn.{left_out_of, told_found}
use Rattle.cg_run.specs.GoneOnReader.{ExplainsOut, HasTakenOn, IsFaultAt}
use Rattle.cg_outcome.specs.Lines.{AreBehind}
use Rattle.cg_outcome.specs.Wrote.{joined}
use Rattle.cg_run.specs.declared.going_on.GoingOnReader.{GoingOnReader}
use Rattle.cg_run.proofs.Finds.{no_more}
use Rattle.cg_run.proofs.GoingOn.{closes_on, found_fault, found_none, given_found, last_byte, starved_found}
use Rattle.cg_run.proofs.Pulled.{pulled_is}
use Rattle.cg_run.proofs.going_on.GoingOnReader.find.Goals as goal

pub returns-in-Ok-clause-found : goal.returns-in-Ok-clause-found
returns-in-Ok-clause-found g c form explain p parts h =
    let was = c.args.self.now in
    let decoder = c.next-pulled.new.self in
    let piece = c.args.piece.now in
    let used = c.next-pulled.result.used in
    let what = rw c.in-Given.is at (c.next-pulled.ensures.pulled p h.found h.taken.stop h.taken.stands) in
    let pulled = pulled_is was.decoder decoder form (stream_limits (form.1)) p h.found piece used h.taken c.next-pulled.ensures.form c.next-pulled.ensures.limits (events.Given c.in-Given.found) what in
    let front = p ++ take (used - 1) piece in
    let byte : ℕ = get_or piece (used - 1) 0 in
    let text = last_byte g.T.Teller.parts g.T.Teller.keeps form explain p piece used parts pulled.0 c.next-pulled.ensures.used in
    let fault = found_fault g.T.Teller.parts g.T.Teller.keeps form explain p piece used parts decoder h.found c.in-Given.found byte pulled.1 pulled.2 text in
    let now : GoingOnReader g.row.T.Denot = record { decoder = c.give.new.self.decoder; teller = c.give.new.self.teller; text = c.give.new.self.text; left_out = c.give.new.self.left_out; lines = c.lines_behind-self-in-Ok.result } in
    let behind : AreBehind c.lines_behind-lines.result front = subst (λ (t : List ℕ). AreBehind c.lines_behind-lines.result (p ++ t)) c.split_at.ensures.front (c.lines_behind-lines.ensures.counted p h.lines) in
    let counted = c.lines_behind-lines.ensures.same ∙ h.explain_is in
    let given = subst (λ (f : Found). IsFaultAt (form.0) (form.1) front byte f.left_out f.fault → (more : List (List ℕ)) × (c.give.new.out.items ≡ c.args.out.now.items ++ joined (flat_map g.T.Teller.parts (told_found f) ++ more))
    × ExplainsOut (is_some c.lines_behind-lines.result) (form.0) (form.1) (front ++ byte ∷ []) f.left_out more
    × g.T.Teller.keeps c.give.new.self.teller (told_by h.found ++ told_found f) × (c.give.new.self.left_out ≡ left_out_of (told_by h.found ++ told_found f)))
    c.in-Given.found-is (c.in-Ok.ensures.given (form.0) (form.1) front (told_by h.found) h.keeps h.counts behind) fault in
    let tells = subst (λ (t : List ℕ). ExplainsOut explain (form.0) (form.1) t c.in-Given.found.left_out (given.0)) (sym text) (subst (λ (b : Bool). ExplainsOut b (form.0) (form.1) (front ++ byte ∷ []) c.in-Given.found.left_out (given.0)) counted given.2) in
    given_found g.T.Teller.parts g.T.Teller.keeps form explain p piece used parts was now c.args.out.now.items c.give.new.out.items c.in-Given.found (given.0) h
    (subst (λ (d : GoingOnDecoder). HasTakenOn d form (p ++ take used piece) (h.found ++ c.in-Given.found ∷ [])) (sym c.give.ensures.decoder) pulled.1) given.1 tells given.3 given.4
    (subst (λ (t : List ℕ). AreBehind c.lines_behind-self-in-Ok.result t) (sym text) (c.lines_behind-self-in-Ok.ensures.counted front behind)) (c.lines_behind-self-in-Ok.ensures.same ∙ counted)

pub returns-in-Err-clause-found : goal.returns-in-Err-clause-found
returns-in-Err-clause-found g c form explain p parts h =
    let was = c.args.self.now in
    let decoder = c.next-pulled.new.self in
    let piece = c.args.piece.now in
    let used = c.next-pulled.result.used in
    let what = rw c.in-Given.is at (c.next-pulled.ensures.pulled p h.found h.taken.stop h.taken.stands) in
    let pulled = pulled_is was.decoder decoder form (stream_limits (form.1)) p h.found piece used h.taken c.next-pulled.ensures.form c.next-pulled.ensures.limits (events.Given c.in-Given.found) what in
    starved_found g.T.Teller.parts g.T.Teller.keeps form explain p piece used parts was c.give.new.self decoder c.args.out.now.items c.give.new.out.items c.in-Given.found h
    pulled.0 c.next-pulled.ensures.used pulled.1 pulled.2 c.in-Err.ensures.kept

pub returns-in-NeedMore-clause-found : goal.returns-in-NeedMore-clause-found
returns-in-NeedMore-clause-found g c form explain p parts h =
    let was = c.args.self.now in
    let decoder = c.next-pulled.new.self in
    let piece = c.args.piece.now in
    let used = c.next-pulled.result.used in
    let what = rw c.in-NeedMore.is at (c.next-pulled.ensures.pulled p h.found h.taken.stop h.taken.stands) in
    let pulled = pulled_is was.decoder decoder form (stream_limits (form.1)) p h.found piece used h.taken c.next-pulled.ensures.form c.next-pulled.ensures.limits (events.NeedMore) what in
    let now : GoingOnReader g.row.T.Denot = record { decoder = decoder; teller = was.teller; text = was.text; left_out = was.left_out; lines = c.lines_behind-self.result } in
    no_more refl (found_none g.T.Teller.parts g.T.Teller.keeps form explain p piece used parts was now h pulled refl refl (subst (λ (t : List ℕ). AreBehind c.lines_behind-self.result (p ++ t)) (sym (take_all used piece (omega (arith, what.1)))) (c.lines_behind-self.ensures.counted p h.lines)) c.lines_behind-self.ensures.same)

pub returns-in-Stopped-clause-found : goal.returns-in-Stopped-clause-found
returns-in-Stopped-clause-found g c form explain p parts h =
    let was = c.args.self.now in
    let decoder = c.next-pulled.new.self in
    let piece = c.args.piece.now in
    let used = c.next-pulled.result.used in
    let what = rw c.in-Stopped.is at (c.next-pulled.ensures.pulled p h.found h.taken.stop h.taken.stands) in
    let pulled = pulled_is was.decoder decoder form (stream_limits (form.1)) p h.found piece used h.taken c.next-pulled.ensures.form c.next-pulled.ensures.limits (events.Stopped c.in-Stopped.stop) what in
    no_more refl (pulled.0, pulled.1, pulled.2, closes_on g.T.Teller.parts g.T.Teller.keeps form explain p piece used parts was h used pulled.3)

pub returns-in-OutOfMemory-clause-found : goal.returns-in-OutOfMemory-clause-found
returns-in-OutOfMemory-clause-found g c form explain p parts h =
    let was = c.args.self.now in
    let decoder = c.next-pulled.new.self in
    let piece = c.args.piece.now in
    let used = c.next-pulled.result.used in
    let what = rw c.in-OutOfMemory.is at (c.next-pulled.ensures.pulled p h.found h.taken.stop h.taken.stands) in
    let pulled = pulled_is was.decoder decoder form (stream_limits (form.1)) p h.found piece used h.taken c.next-pulled.ensures.form c.next-pulled.ensures.limits (events.OutOfMemory) what in
    no_more refl (inl (pulled.0, pulled.1, pulled.2, closes_on g.T.Teller.parts g.T.Teller.keeps form explain p piece used parts was h used pulled.3))

pub returns-in-Stopped-clause-stood : goal.returns-in-Stopped-clause-stood
returns-in-Stopped-clause-stood g c form explain p parts h =
    let what = rw c.in-Stopped.is at (c.next-pulled.ensures.pulled p h.found h.taken.stop h.taken.stands) in
    (what.1, record { parts = h.found; stands = what.3; form_is = c.next-pulled.ensures.form ∙ h.taken.form_is; limits_is = c.next-pulled.ensures.limits ∙ h.taken.limits_is })

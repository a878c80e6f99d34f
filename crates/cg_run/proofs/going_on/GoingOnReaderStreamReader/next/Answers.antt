use Rattle.std.proofs.Common.{◌≡◌, ◌-◌, ◌∷◌, ◌++◌, ◌∙◌, [], ℕ, List, take, inl, refl, sym, subst, arith}
use Rattle.cg_value.specs.Entry.{EntryData}
use Rattle.cg_value.specs.declared.profile.Profile.{Profile}
use Rattle.cg_snap.specs.GoingOn.{AreToldBy, told_by}
use Rattle.cg_snap.specs.GoingOnDecoder.{GoingOnDecoder, going_form_of}
use Rattle.cg_snap.specs.GoingOnEntry.{BeginsBlock, found_entry}
use Rattle.cg_snap.specs.declared.limits.Limits.{Limits}
use Rattle.cg_snap.proofs.GoingOnPulls.{took_none}
use Rattle.cg_run.specs.GoneOnReader.{HasStoodOn}
use Rattle.cg_outcome.specs.Lines.{AreBehind}
use Rattle.cg_outcome.specs.Wrote.{joined}
use Rattle.cg_run.specs.declared.going_on.GoingOnReader.{GoingOnReader}
use Rattle.cg_run.proofs.EntryRuns.{entry_given, found_behind, goes_found, goes_stood, still_taken, takes_on}
use Rattle.cg_run.proofs.Finds.{no_more}
use Rattle.cg_run.proofs.GoingOn.{found_none, starved_found}
use Rattle.cg_run.proofs.going_on.GoingOnReaderStreamReader.next.Goals as goal

pub returns-then-used-eq0-clause-found : goal.returns-then-used-eq0-clause-found
returns-then-used-eq0-clause-found g c form p parts h =
    let was = c.args.self.now in
    let now : GoingOnReader g.row.T.Denot = record { decoder = c.next_entry-pulled.new.self; teller = was.teller; text = was.text; left_out = was.left_out; lines = was.lines } in
    let pulled = c.next_entry-pulled.ensures in
    c.find.ensures.found (form.0) (form.1) p parts
    (still_taken g.T.Teller.parts g.T.Teller.keeps (form.0) (form.1) p c.args.piece.now parts c.next_entry-pulled.result.used was now c.next_entry-pulled.result.what h pulled.form pulled.limits pulled.stop (omega (arith, c.if-used-eq0.true))
    (pulled.pulled p h.found h.taken.stop h.taken.stands) refl refl refl)

pub returns-then-used-eq0-clause-stood : goal.returns-then-used-eq0-clause-stood
returns-then-used-eq0-clause-stood g c form p parts h =
    let was = c.args.self.now in
    let now : GoingOnReader g.row.T.Denot = record { decoder = c.next_entry-pulled.new.self; teller = was.teller; text = was.text; left_out = was.left_out; lines = was.lines } in
    let pulled = c.next_entry-pulled.ensures in
    c.find.ensures.stood (form.0) (form.1) p parts
    (still_taken g.T.Teller.parts g.T.Teller.keeps (form.0) (form.1) p c.args.piece.now parts c.next_entry-pulled.result.used was now c.next_entry-pulled.result.what h pulled.form pulled.limits pulled.stop (omega (arith, c.if-used-eq0.true))
    (pulled.pulled p h.found h.taken.stop h.taken.stands) refl refl refl)

pub returns-then-shows-clause-found : goal.returns-then-shows-clause-found
returns-then-shows-clause-found g c form p parts h =
    let of = form.0 in
    let decoder = c.next_entry-pulled.new.self in
    let piece = c.args.piece.now in
    let used = c.next_entry-pulled.result.used in
    let e = c.in-Given.entry in
    let did = rw c.in-Given.is at (c.next_entry-pulled.ensures.pulled p h.found h.taken.stop h.taken.stands) in
    let is : going_form_of decoder ≡ of = c.next_entry-pulled.ensures.form ∙ h.taken.form_is in
    let mid : GoingOnReader g.row.T.Denot = record { decoder = c.give_entry.new.self.decoder; teller = c.give_entry.new.self.teller; text = c.give_entry.new.self.text; left_out = c.give_entry.new.self.left_out; lines = c.lines_behind-lines.result } in
    let begins : BeginsBlock (of.0) mid.decoder.records (p ++ take used piece) =
    subst (λ (d : GoingOnDecoder). BeginsBlock (of.0) d.records (p ++ take used piece)) (sym c.give_entry.ensures.decoder) (subst (λ (q : Profile × Limits). BeginsBlock (q.0) decoder.records (p ++ take used piece)) is did.3) in
    let told = entry_given g.T.Teller.parts g.T.Teller.keeps of (form.1) p piece parts used c.args.self.now mid decoder c.args.out.now.items c.give_entry.new.out.items e h
    (takes_on c.args.self.now.decoder decoder of p (p ++ take used piece) h.found (h.found ++ found_entry e ∷ []) h.taken c.next_entry-pulled.ensures.form c.next_entry-pulled.ensures.limits c.next_entry-pulled.ensures.stop did.2)
    c.give_entry.ensures.decoder c.give_entry.ensures.left_out
    (subst (λ (x : EntryData). (c.give_entry.new.out.items ≡ c.args.out.now.items ++ joined (g.T.Teller.parts (inl x))) × g.T.Teller.keeps c.give_entry.new.self.teller (told_by h.found ++ inl x ∷ [])) c.in-Given.entry-is
    (c.in-Ok.ensures.given (told_by h.found) h.keeps))
    (subst (λ (t : List ℕ). AreBehind c.lines_behind-lines.result (p ++ t)) c.split_at.ensures.front (c.lines_behind-lines.ensures.counted p h.lines)) (c.lines_behind-lines.ensures.same ∙ h.explain_is) in
    found_behind g.T.Teller.parts g.T.Teller.keeps of (form.1) p piece parts c.show_run.new.self c.show_run.result.used c.show_run.result.what c.args.out.now.items c.give_entry.new.out.items c.show_run.new.out.items told.more told.out_is
    (c.show_run.ensures.shown of (form.1) p (parts ++ told.more) (c.shows.ensures c.if-shows.true) begins told.leads)

pub returns-else-shows-clause-found : goal.returns-else-shows-clause-found
returns-else-shows-clause-found g c form p parts h =
    let of = form.0 in
    let decoder = c.next_entry-pulled.new.self in
    let piece = c.args.piece.now in
    let used = c.next_entry-pulled.result.used in
    let e = c.in-Given.entry in
    let did = rw c.in-Given.is at (c.next_entry-pulled.ensures.pulled p h.found h.taken.stop h.taken.stands) in
    let mid : GoingOnReader g.row.T.Denot = record { decoder = c.give_entry.new.self.decoder; teller = c.give_entry.new.self.teller; text = c.give_entry.new.self.text; left_out = c.give_entry.new.self.left_out; lines = c.lines_behind-lines.result } in
    entry_given g.T.Teller.parts g.T.Teller.keeps of (form.1) p piece parts used c.args.self.now mid decoder c.args.out.now.items c.give_entry.new.out.items e h
    (takes_on c.args.self.now.decoder decoder of p (p ++ take used piece) h.found (h.found ++ found_entry e ∷ []) h.taken c.next_entry-pulled.ensures.form c.next_entry-pulled.ensures.limits c.next_entry-pulled.ensures.stop did.2)
    c.give_entry.ensures.decoder c.give_entry.ensures.left_out
    (subst (λ (x : EntryData). (c.give_entry.new.out.items ≡ c.args.out.now.items ++ joined (g.T.Teller.parts (inl x))) × g.T.Teller.keeps c.give_entry.new.self.teller (told_by h.found ++ inl x ∷ [])) c.in-Given.entry-is
    (c.in-Ok.ensures.given (told_by h.found) h.keeps))
    (subst (λ (t : List ℕ). AreBehind c.lines_behind-lines.result (p ++ t)) c.split_at.ensures.front (c.lines_behind-lines.ensures.counted p h.lines)) (c.lines_behind-lines.ensures.same ∙ h.explain_is)

pub returns-in-Err-clause-found : goal.returns-in-Err-clause-found
returns-in-Err-clause-found g c form p parts h =
    let of = form.0 in
    let was = c.args.self.now in
    let decoder = c.next_entry-pulled.new.self in
    let piece = c.args.piece.now in
    let used = c.next_entry-pulled.result.used in
    let e = c.in-Given.entry in
    let did = rw c.in-Given.is at (c.next_entry-pulled.ensures.pulled p h.found h.taken.stop h.taken.stands) in
    let is : going_form_of decoder ≡ of = c.next_entry-pulled.ensures.form ∙ h.taken.form_is in
    let taken = takes_on was.decoder decoder of p (p ++ take used piece) h.found (h.found ++ found_entry e ∷ []) h.taken c.next_entry-pulled.ensures.form c.next_entry-pulled.ensures.limits c.next_entry-pulled.ensures.stop did.2 in
    starved_found g.T.Teller.parts g.T.Teller.keeps of (form.1) p piece used parts was c.give_entry.new.self decoder c.args.out.now.items c.give_entry.new.out.items (found_entry e) h did.0 c.next_entry-pulled.ensures.used taken
    (subst (λ (q : Profile × Limits). AreToldBy (q.0) (q.1) (p ++ take (used - 1) piece) (told_by h.found)) is did.1) c.in-Err.ensures.kept

pub returns-in_default-clause-found : goal.returns-in_default-clause-found
returns-in_default-clause-found g c form p parts h =
    let of = form.0 in
    let was = c.args.self.now in
    let decoder = c.next_entry-pulled.new.self in
    let piece = c.args.piece.now in
    let used = c.next_entry-pulled.result.used in
    let stands = took_none (going_form_of decoder) decoder.records decoder.meter p h.found piece used c.next_entry-pulled.result.what c.in_default.not-Given (c.next_entry-pulled.ensures.pulled p h.found h.taken.stop h.taken.stands) in
    let taken = takes_on was.decoder decoder of p (p ++ take used piece) h.found h.found h.taken c.next_entry-pulled.ensures.form c.next_entry-pulled.ensures.limits c.next_entry-pulled.ensures.stop stands in
    let now : GoingOnReader g.row.T.Denot = record { decoder = decoder; teller = was.teller; text = was.text; left_out = was.left_out; lines = c.lines_behind-lines.result } in
    no_more refl (found_none g.T.Teller.parts g.T.Teller.keeps of (form.1) p piece used parts was now h taken refl refl
    (subst (λ (t : List ℕ). AreBehind c.lines_behind-lines.result (p ++ t)) c.split_at.ensures.front (c.lines_behind-lines.ensures.counted p h.lines)) c.lines_behind-lines.ensures.same)

pub returns-then-shows-clause-stood : goal.returns-then-shows-clause-stood
returns-then-shows-clause-stood g c form p parts h = goes_stood (HasStoodOn c.show_run.new.self.decoder (form.0)) p c.args.piece.now c.show_run.result.used c.show_run.result.what (c.show_run.ensures.goes (omega (arith, c.if-used-eq0.false)))

pub returns-then-shows-clause-progress : goal.returns-then-shows-clause-progress
returns-then-shows-clause-progress g c = goes_found _ c.show_run.result.used c.show_run.result.what (c.show_run.ensures.goes (omega (arith, c.if-used-eq0.false)))

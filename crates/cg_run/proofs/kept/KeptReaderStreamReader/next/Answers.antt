use Rattle.std.proofs.Common.{◌∷◌, ◌++◌, [], inl, refl, ap, ◌∙◌}
use Rattle.cg_value.specs.Entry.{EntryData}
use Rattle.cg_tree.specs.Ruled.{ruled}
use Rattle.cg_snap.specs.declared.event.Event.TheVariants as events
use Rattle.cg_run.proofs.Finds.{no_more}
use Rattle.cg_run.proofs.Keeping.{keep_starved, kept_more}
use Rattle.cg_run.proofs.Pulled.{pulled_is}
use Rattle.cg_run.proofs.kept.KeptReaderStreamReader.next.Goals as goal

pub returns-in-Ok-clause-found : goal.returns-in-Ok-clause-found
returns-in-Ok-clause-found c form p parts h =
    let was = c.args.self.now in
    let now = c.next-pulled.new.self in
    let used = c.next-pulled.result.used in
    let what = rw c.in-Given.is at (c.next-pulled.ensures.pulled p h.given h.taken.stop h.taken.stands) in
    let pulled = pulled_is was.decoder now (form.0) (form.1) p h.given c.args.piece.now used h.taken
    c.next-pulled.ensures.form c.next-pulled.ensures.limits (events.Given c.in-Given.entry) what in
    let more = c.in-Ok.ensures.kept ∙ ap (λ (e : EntryData). was.entries.items ++ ruled (e ∷ [])) c.in-Given.entry-is in
    no_more refl (record {
      given = h.given ++ c.in-Given.entry ∷ [];
      taken = pulled.1;
      kept = kept_more was.entries.items c.keep.new.entries.items h.given c.in-Given.entry h.kept more;
      none = h.none;
    })

pub returns-in-Err-clause-found : goal.returns-in-Err-clause-found
returns-in-Err-clause-found c form p parts h =
    let was = c.args.self.now in
    let now = c.next-pulled.new.self in
    let used = c.next-pulled.result.used in
    let what = rw c.in-Given.is at (c.next-pulled.ensures.pulled p h.given h.taken.stop h.taken.stands) in
    let pulled = pulled_is was.decoder now (form.0) (form.1) p h.given c.args.piece.now used h.taken
    c.next-pulled.ensures.form c.next-pulled.ensures.limits (events.Given c.in-Given.entry) what in
    no_more refl (keep_starved now (form.0) (form.1) p c.args.piece.now used (h.given ++ c.in-Given.entry ∷ []) parts pulled.0 c.next-pulled.ensures.used pulled.1 h.none)

pub returns-in-OutOfMemory-clause-found : goal.returns-in-OutOfMemory-clause-found
returns-in-OutOfMemory-clause-found c form p parts h =
    let was = c.args.self.now in
    let what = rw c.in-OutOfMemory.is at (c.next-pulled.ensures.pulled p h.given h.taken.stop h.taken.stands) in
    let pulled = pulled_is was.decoder c.next-pulled.new.self (form.0) (form.1) p h.given c.args.piece.now c.next-pulled.result.used h.taken
    c.next-pulled.ensures.form c.next-pulled.ensures.limits events.OutOfMemory what in
    no_more refl (inl (pulled.0, pulled.1, pulled.2, h.none))

pub returns-in-NeedMore-clause-found : goal.returns-in-NeedMore-clause-found
returns-in-NeedMore-clause-found c form p parts h =
    let was = c.args.self.now in
    let what = rw c.in-NeedMore.is at (c.next-pulled.ensures.pulled p h.given h.taken.stop h.taken.stands) in
    let pulled = pulled_is was.decoder c.next-pulled.new.self (form.0) (form.1) p h.given c.args.piece.now c.next-pulled.result.used h.taken
    c.next-pulled.ensures.form c.next-pulled.ensures.limits events.NeedMore what in
    no_more refl (record { given = h.given; taken = pulled; kept = h.kept; none = h.none })

pub returns-in-Stopped-clause-found : goal.returns-in-Stopped-clause-found
returns-in-Stopped-clause-found c form p parts h =
    let was = c.args.self.now in
    let what = rw c.in-Stopped.is at (c.next-pulled.ensures.pulled p h.given h.taken.stop h.taken.stands) in
    let pulled = pulled_is was.decoder c.next-pulled.new.self (form.0) (form.1) p h.given c.args.piece.now c.next-pulled.result.used h.taken
    c.next-pulled.ensures.form c.next-pulled.ensures.limits (events.Stopped c.in-Stopped.stop) what in
    no_more refl (pulled.0, pulled.1, pulled.2, h.none)

pub returns-in-Stopped-clause-stood : goal.returns-in-Stopped-clause-stood
returns-in-Stopped-clause-stood c form p parts h =
    let what = rw c.in-Stopped.is at (c.next-pulled.ensures.pulled p h.given h.taken.stop h.taken.stands) in
    (what.1, record { parts = h.given; stands = what.3; form_is = c.next-pulled.ensures.form ∙ h.taken.form_is; limits_is = c.next-pulled.ensures.limits ∙ h.taken.limits_is })

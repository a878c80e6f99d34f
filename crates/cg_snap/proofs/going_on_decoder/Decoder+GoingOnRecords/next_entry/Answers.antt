use Rattle.std.proofs.Common.{sym, subst}
use Rattle.cg_value.specs.declared.profile.Profile.{Profile}
use Rattle.cg_snap.specs.GoingOnEntry.{EntryDid}
use Rattle.cg_snap.specs.GoingOnState.{form_of}
use Rattle.cg_snap.specs.declared.limits.Limits.{Limits}
use Rattle.cg_snap.proofs.going_on_decoder.Decoder+GoingOnRecords.next_entry.Goals as goal

pub returns-clause-pulled : goal.returns-clause-pulled
returns-clause-pulled c p found none h =
    subst (λ (form : Profile × Limits). EntryDid form c.pull_entry.new.self c.pull_entry.new.meter p found c.args.piece.now c.pull_entry.result.used c.pull_entry.result.what) (sym c.pull_entry.ensures.form)
    (c.pull_entry.ensures.pulled (form_of c.args.self.now.records) p found h)

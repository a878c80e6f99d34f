use Rattle.std.proofs.Common.{◌≡◌, ◌≤◌, ◌-◌, ◌++◌, ◌∷◌, [], List, ℕ, length}
use Rattle.cg_value.specs.Entry.{IsPath}
use Rattle.cg_value.specs.declared.profile.Profile.{Profile}
use Rattle.cg_snap.specs.GoingOnEntry.{IsOfBlock}
use Rattle.cg_snap.specs.declared.going_on.Found.{Found}
use Rattle.cg_snap.specs.declared.limits.Limits.{Limits}
use Rattle.cg_run.specs.EntryRun.{HavePassed}
use Rattle.cg_run.specs.GoneOnReader.{HasTakenOn}
use Rattle.cg_run.proofs.entry_run.pass_entries.Given as goal

abbrev pub invariant-entries : goal.invariant-entries
invariant-entries l = record {
  within : l.used ≤ length l.piece;
  closed : l.closed ≡ l.used;
  passed : (form : Profile × Limits) (p : List ℕ) (found : List Found) (next : List ℕ) → IsPath next → HasTakenOn l.fn.decoder form p found → IsOfBlock (form.0) l.fn.decoder.records (next ++ 0 ∷ []) →
      (b : HavePassed l.decoder form p found next l.piece l.used l.used) × IsOfBlock (form.0) l.decoder.records (b.followed.next ++ 0 ∷ []);
}

abbrev pub decreases-entries : goal.decreases-entries
decreases-entries l = length l.piece - l.used

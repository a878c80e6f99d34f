use Rattle.std.proofs.Common.{◌≤◌, ◌-◌, List, ℕ, length}
use Rattle.cg_value.specs.Entry.{EntryData}
use Rattle.cg_value.specs.declared.profile.Profile.{Profile}
use Rattle.cg_snap.specs.Decode.{HasTaken}
use Rattle.cg_snap.specs.declared.limits.Limits.{Limits}
use Rattle.cg_run.specs.Decoded.{HasDecoded}
use Rattle.cg_run.proofs.shown.decode.Given as goal

abbrev pub invariant-entries : goal.invariant-entries
invariant-entries l = record {
  within : l.used ≤ length l.piece;
  closed : l.closed ≤ l.used;
  decoded : (profile : Profile) (limits : Limits) (p : List ℕ) (es : List EntryData) → HasTaken l.fn.decoder profile limits p es →
      HasDecoded l.decoder profile limits p es l.piece l.used l.closed;
}

abbrev pub decreases-entries : goal.decreases-entries
decreases-entries l = length l.piece - l.used

-- What the records of a snapshot took.
use Rattle.std.proofs.Common.{◌≡◌, ℕ, List}
use Rattle.cg_value.specs.Entry.{EntryData}
use Rattle.cg_value.specs.declared.profile.Profile.{Profile}
use Rattle.cg_snap.specs.Course.{Leaves}
use Rattle.cg_snap.specs.DecoderState.{HasConsumed, HasTakenRecords}
use Rattle.cg_snap.specs.Streams.{snap_stream}
use Rattle.cg_snap.specs.declared.event.Event.{Event}
use Rattle.cg_snap.specs.declared.snapshot_records.SnapshotRecords.{SnapshotRecords}
use Rattle.cg_snap.proofs.Courses.{leaves_as}
use Rattle.cg_snap.proofs.States.{at_closed, at_viable}

pub taken_records : (s : SnapshotRecords) (profile : Profile) (p : List ℕ) (es : List EntryData) → s.profile ≡ profile → HasConsumed profile s.begun.items s.present p es → HasTakenRecords s profile p es
taken_records s profile p es e h = record { profile_is = e; at = h; closed = at_closed profile s.begun.items s.present p es h; goes_on = at_viable profile s.begun.items s.present p es h }

-- What bytes leave of them.
pub records_leave : (s : SnapshotRecords) (profile : Profile) (max : ℕ) (p : List ℕ) (es : List EntryData) (bytes : List ℕ) (used : ℕ) (what : Event EntryData) → s.profile ≡ profile →
    Leaves (snap_stream profile) (HasConsumed profile s.begun.items s.present) max p es bytes used what → Leaves (snap_stream profile) (HasTakenRecords s profile) max p es bytes used what
records_leave s profile max p es bytes used what e h =
    leaves_as (snap_stream profile) (HasConsumed profile s.begun.items s.present) (HasTakenRecords s profile) (λ q fs a. taken_records s profile q fs e a) max p es bytes used what h

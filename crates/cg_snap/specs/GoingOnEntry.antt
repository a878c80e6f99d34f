-- How bytes of a block close its entry, where a snapshot is gone on with.
use Rattle.std.specs.Prelude.{◌≡◌, ℕ, ◌-◌, ◌<◌, List, [], ◌∷◌, ◌++◌, take, Some, None}
use Rattle.cg_value.specs.Entry.{EntryData, IsPath}
use Rattle.cg_value.specs.declared.profile.Profile.{Profile}
use Rattle.cg_snap.specs.Begun.{IsRecordEnd}
use Rattle.cg_snap.specs.Course.{HasProgressed}
use Rattle.cg_snap.specs.GoingOn.{AreToldBy, told_by}
use Rattle.cg_snap.specs.GoingOnState.{going_stream}
use Rattle.cg_snap.specs.Snap.{SnapText}
use Rattle.cg_snap.specs.Streams.{snap_stream}
use Rattle.cg_snap.specs.declared.event.Event.{Event}
use Rattle.cg_snap.specs.declared.event.Event.TheVariants as events
use Rattle.cg_snap.specs.declared.going_on.Found.{Found}
use Rattle.cg_snap.specs.declared.going_on_records.GoingOnRecords.{GoingOnRecords}
use Rattle.cg_snap.specs.declared.limits.Limits.{Limits}
use Rattle.cg_snap.specs.declared.meter.Meter.{Meter}

-- An entry that is found, and nothing that is left out.
abbrev pub found_entry : EntryData → Found
found_entry e = record { entry = Some e; left_out = None; fault = None }

-- This came of the block that is read, as though no other came.
abbrev pub IsOfBlock : Profile → GoingOnRecords → List ℕ → Type 0
IsOfBlock profile s block = HasProgressed (snap_stream profile) s.block s.meter block []

-- The bytes are whole lines, and then a path with its NUL, which is what came of the block that is read.
pub record BeginsBlock (profile : Profile) (s : GoingOnRecords) (bytes : List ℕ) : Type 0 where
  pub front : List ℕ
  pub ended : IsRecordEnd front
  pub next : List ℕ
  pub good : IsPath next
  pub split : bytes ≡ front ++ (next ++ 0 ∷ [])
  pub begun : IsOfBlock profile s (next ++ 0 ∷ [])

-- So it is, and the lines are those of the entry.
abbrev pub EndsBlock : Profile → GoingOnRecords → List ℕ → EntryData → Type 0
EndsBlock profile s bytes e = (h : BeginsBlock profile s bytes) × SnapText profile (e ∷ []) h.front

-- What bytes of a block come to, up to and with those that were taken: they close its entry, or nothing is given.
abbrev pub BlockDid : Profile → GoingOnRecords → List ℕ → Event EntryData → Type 0
BlockDid profile s bytes (events.Given e) = EndsBlock profile s bytes e
BlockDid profile s bytes what = Unit {0}

-- An entry comes with a byte.
abbrev pub IsGivenBy : ℕ → Event EntryData → Type 0
IsGivenBy used (events.Given e) = 0 < used
IsGivenBy used what = Unit {0}

-- What so many bytes of a piece did, behind the bytes p: the last of them closed an entry and began the next block, or nothing is found.
abbrev pub EntryDid : (Profile × Limits) → GoingOnRecords → Meter → List ℕ → List Found → List ℕ → ℕ → Event EntryData → Type 0
EntryDid form s m p found piece used (events.Given e) =
    (0 < used) × AreToldBy (form.0) (form.1) (p ++ take (used - 1) piece) (told_by found)
    × HasProgressed (going_stream form) s m (p ++ take used piece) (found ++ found_entry e ∷ [])
    × BeginsBlock (form.0) s (p ++ take used piece)
EntryDid form s m p found piece used what = HasProgressed (going_stream form) s m (p ++ take used piece) found

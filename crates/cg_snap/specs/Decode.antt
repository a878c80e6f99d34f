-- What becomes of the bytes of a whole stream.
use Rattle.std.specs.Prelude.{◌≡◌, ℕ, ◌+◌, ◌<◌, ◌⊎◌, List, length, take}
use Rattle.cg_value.specs.Entry.{EntryData, ItemData}
use Rattle.cg_value.specs.declared.profile.Profile.{Profile}
use Rattle.cg_snap.specs.Decoder.{SnapshotDecoder}
use Rattle.cg_snap.specs.Plan.{Plan, PlanText}
use Rattle.cg_snap.specs.PlanDecoder.{PlanDecoder}
use Rattle.cg_snap.specs.PlanStop.{IsItemWhy, IsPlanUnstopped, is_never_many}
use Rattle.cg_snap.specs.Pulled.{HasPulled}
use Rattle.cg_snap.specs.Snap.{Snap, SnapText}
use Rattle.cg_snap.specs.SnapStop.{IsManyRecords, IsRecordWhy, IsSnapUnstopped}
use Rattle.cg_snap.specs.StreamStop.{IsStreamUnstopped, StreamStopOf}
use Rattle.cg_snap.specs.Streams.{plan_stream, snap_stream}
use Rattle.cg_snap.specs.declared.decode.StreamFault.{StreamFault}
use Rattle.cg_snap.specs.declared.decode.StreamFault.TheVariants.{Stopped, OutOfMemory}
use Rattle.cg_snap.specs.declared.limits.Limits.{Limits}
use Rattle.cg_snap.specs.declared.stop.Stop.{Stop}
use Rattle.cg_snap.specs.declared.stop.Stop.TheVariants.{Refused, TooLong, TooMany, TooMuch, Cut}
use Rattle.cg_snap.specs.declared.stop.Why.{Why}

-- L, Breaks and Many are those of the stop of a stream.
module _ (L : List ℕ → Type 0) (Breaks : List ℕ → ℕ → Why → Type 0) (Many : ℕ → List ℕ → ℕ → Type 0) (limits : Limits) where
  -- No byte stops the stream, and it ends before a text does.
  pub record IsCutShort (bytes : List ℕ) (at : ℕ) : Type 0 where
    pub at_end : at ≡ length bytes
    pub unstopped : IsStreamUnstopped L Breaks Many limits bytes
    pub not_whole : L bytes → ⊥

  -- The stop of a whole stream: by its first byte that stops it, or at its end.
  abbrev pub IsStreamStop : List ℕ → Stop → Type 0
  IsStreamStop bytes (Refused at why) = StreamStopOf L Breaks Many limits bytes (Refused at why)
  IsStreamStop bytes (TooLong at) = StreamStopOf L Breaks Many limits bytes (TooLong at)
  IsStreamStop bytes (TooMany at) = StreamStopOf L Breaks Many limits bytes (TooMany at)
  IsStreamStop bytes (TooMuch at) = StreamStopOf L Breaks Many limits bytes (TooMuch at)
  IsStreamStop bytes (Cut at) = IsCutShort bytes at

  -- Memory was refused at a byte that nothing stops, nor any before it; or at the end, where no byte stops the stream.
  abbrev pub IsStarved : List ℕ → Type 0
  IsStarved bytes = ((at : ℕ) × (at < length bytes) × IsStreamUnstopped L Breaks Many limits (take (at + 1) bytes)) ⊎ IsStreamUnstopped L Breaks Many limits bytes

  abbrev pub IsStreamFault : List ℕ → StreamFault → Type 0
  IsStreamFault bytes (Stopped stop) = IsStreamStop bytes stop
  IsStreamFault bytes OutOfMemory = IsStarved bytes

-- ---- Snapshots

-- The bytes are the snapshot of these entries, and none of them stops it.
pub record IsDecoded (profile : Profile) (limits : Limits) (bytes : List ℕ) (es : List EntryData) : Type 0 where
  pub whole : SnapText profile es bytes
  pub unstopped : IsSnapUnstopped profile limits bytes

abbrev pub IsSnapFault : Profile → Limits → List ℕ → StreamFault → Type 0
IsSnapFault profile limits = IsStreamFault (Snap profile) (IsRecordWhy profile) (IsManyRecords profile) limits

-- The decoder consumed the bytes and gave these entries; and no stop came.
abbrev pub HasTaken : SnapshotDecoder → Profile → Limits → List ℕ → List EntryData → Type 0
HasTaken = HasPulled snap_stream (λ s. s.profile)

-- ---- Plans

-- The bytes are the plan of these items, and none of them stops it.
pub record IsPlanDecoded (profile : Profile) (limits : Limits) (bytes : List ℕ) (items : List ItemData) : Type 0 where
  pub whole : PlanText profile items bytes
  pub unstopped : IsPlanUnstopped profile limits bytes

-- The decoder consumed the bytes and gave these items; and no stop came.
abbrev pub HasTakenPlan : PlanDecoder → Profile → Limits → List ℕ → List ItemData → Type 0
HasTakenPlan = HasPulled plan_stream (λ s. s.profile)

abbrev pub IsPlanFault : Profile → Limits → List ℕ → StreamFault → Type 0
IsPlanFault profile limits = IsStreamFault (Plan profile) (IsItemWhy profile) is_never_many limits

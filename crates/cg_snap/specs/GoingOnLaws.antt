-- The laws of what is told of a snapshot that is gone on with, over the definitions alone: it is one list; it is plain reading's
-- entries where nothing is at fault; the first block that is left out is at fault where plain reading stops; and an entry is what
-- plain reading gives of its block alone.
use Rattle.std.proofs.Common.{inl, inr}
use Rattle.std.specs.Prelude.{◌≡◌, ℕ, ◌+◌, ◌≤◌, ◌⊎◌, ◌↔◌, List, [], ◌∷◌, ◌++◌, length, map, take, Option, Some, option_to_list}
use Rattle.cg_text.specs.Texts.{Lacks}
use Rattle.cg_text.specs.Token.{AreBytes}
use Rattle.cg_value.specs.Entry.{EntryData}
use Rattle.cg_value.specs.declared.profile.Profile.{Profile}
use Rattle.cg_snap.specs.Begun.{IsRecordEnd}
use Rattle.cg_snap.specs.Closed.{Closed}
use Rattle.cg_snap.specs.Decode.{IsDecoded}
use Rattle.cg_snap.specs.GoingOn.{AreAllTold, AreToldBy, IsBlockOf, IsCause, Told, block_limits}
use Rattle.cg_snap.specs.Snap.{SnapText}
use Rattle.cg_snap.specs.SnapStop.{IsSnapUnstopped, SnapStopOf}
use Rattle.cg_snap.specs.Stop.{place_of}
use Rattle.cg_snap.specs.declared.going_on.Cause.{Cause}
use Rattle.cg_snap.specs.declared.going_on.LeftOut.{LeftOut}
use Rattle.cg_snap.specs.declared.limits.Limits.{Limits}
use Rattle.cg_snap.specs.declared.stop.Stop.{Stop}

-- These entries are told, and of no block that it is left out.
abbrev pub only : List EntryData → List Told
only es = map (λ (e : EntryData). inl e) es

-- This is told by the bytes, or at the end of a stream of them.
abbrev pub AreToldOf : Profile → Limits → List ℕ → List Told → Type 0
AreToldOf profile limits bytes told = AreToldBy profile limits bytes told ⊎ AreAllTold profile limits bytes told

-- ---- One list

-- Bytes tell one list.
abbrev pub OneTold : Type 0
OneTold = (profile : Profile) (limits : Limits) (bytes : List ℕ) (s t : List Told) → AreToldBy profile limits bytes s → AreToldBy profile limits bytes t → s ≡ t

-- And one list is told at the end of a stream.
abbrev pub OneAllTold : Type 0
OneAllTold = (profile : Profile) (limits : Limits) (bytes : List ℕ) (s t : List Told) → AreAllTold profile limits bytes s → AreAllTold profile limits bytes t →
    s ≡ t

-- What was told stays: of bytes that go on is told what was told before, and perhaps more.
abbrev pub ToldStays : Type 0
ToldStays = (profile : Profile) (limits : Limits) (bytes back : List ℕ) (s t : List Told) → AreToldBy profile limits bytes s →
    AreToldOf profile limits (bytes ++ back) t →
    (rest : List Told) × (t ≡ s ++ rest)

-- ---- Nothing is left out

-- Nothing stops the bytes in plain reading exactly where nothing stops them within the limits of a block, and there are no more of
-- them than the limit of the whole stream.
abbrev pub PlainUnstopped : Type 0
PlainUnstopped = (profile : Profile) (limits : Limits) (bytes : List ℕ) → limits.max_stream ≤ 18446744073709551615 →
    IsSnapUnstopped profile limits bytes ↔ (IsSnapUnstopped profile (block_limits limits) bytes × (length bytes ≤ limits.max_stream))

-- Bytes that nothing stops close some entries.
abbrev pub UnstoppedCloses : Type 0
UnstoppedCloses = (profile : Profile) (limits : Limits) (bytes : List ℕ) → IsSnapUnstopped profile limits bytes →
    (es : List EntryData) × Closed profile bytes es

-- These they tell, and nothing is left out.
abbrev pub NothingLeftOut : Type 0
NothingLeftOut = (profile : Profile) (limits : Limits) (bytes : List ℕ) (es : List EntryData) → Closed profile bytes es →
    IsSnapUnstopped profile (block_limits limits) bytes →
    AreToldBy profile limits bytes (only es)

-- And where they are a snapshot, all of its entries are told at the end.
abbrev pub AllAreTold : Type 0
AllAreTold = (profile : Profile) (limits : Limits) (bytes : List ℕ) (es : List EntryData) → IsDecoded profile (block_limits limits) bytes es →
    AreAllTold profile limits bytes (only es)

-- The other way: where entries alone are told, the bytes close these, and none of them stops a snapshot.
abbrev pub NothingStops : Type 0
NothingStops = (profile : Profile) (limits : Limits) (bytes : List ℕ) (es : List EntryData) → AreBytes bytes → length bytes ≤ 18446744073709551615 →
    AreToldBy profile limits bytes (only es) → Closed profile bytes es × IsSnapUnstopped profile (block_limits limits) bytes

-- And where they alone are told of a whole stream, it is the snapshot of these.
abbrev pub AllAreDecoded : Type 0
AllAreDecoded = (profile : Profile) (limits : Limits) (bytes : List ℕ) (es : List EntryData) → length bytes ≤ 18446744073709551615 →
    AreAllTold profile limits bytes (only es) → IsDecoded profile (block_limits limits) bytes es

-- ---- The first fault

-- A byte that stops plain reading, but by the limit of the whole stream, which is no cause, stops the bytes so within the limits of
-- a block too.
abbrev pub PlainStopped : Type 0
PlainStopped = (profile : Profile) (limits : Limits) (bytes : List ℕ) (stop : Stop) (cause : Cause) → limits.max_stream ≤ 18446744073709551615 →
    SnapStopOf profile limits bytes stop → IsCause cause stop →
    SnapStopOf profile (block_limits limits) bytes stop

-- The bytes are the text of these entries and of this one, and then what came of a line.
pub record EndsEntry (profile : Profile) (bytes : List ℕ) (es : List EntryData) (e : EntryData) : Type 0 where
  pub whole : List ℕ
  pub begun : List ℕ
  pub split : bytes ≡ whole ++ begun
  pub entries : SnapText profile (es ++ e ∷ []) whole
  pub plain : Lacks 10 begun

-- The bytes before the one that stops them so close these entries, and perhaps the whole lines among them are these and one more. By
-- the bytes up to and with the one that stops them are told these entries, with the one more where there is one, and then that a block
-- is left out, at the place of the stop and for its cause; and of all of the bytes that is told first.
pub record IsFirstFault (profile : Profile) (limits : Limits) (bytes : List ℕ) (stop : Stop) (cause : Cause) : Type 0 where
  pub es : List EntryData
  pub closed : Closed profile (take (place_of stop) bytes) es
  pub last : Option EntryData
  pub one_more : (e : EntryData) → last ≡ Some e → EndsEntry profile (take (place_of stop) bytes) es e
  pub out : LeftOut
  pub at : out.at ≡ place_of stop
  pub cause_is : out.cause ≡ cause
  pub told : AreToldBy profile limits (take (place_of stop + 1) bytes) (only (es ++ option_to_list last) ++ inr out ∷ [])
  pub first : (t : List Told) → AreToldOf profile limits bytes t → (rest : List Told) × (t ≡ only (es ++ option_to_list last) ++ inr out ∷ rest)

-- So it is wherever a byte stops them for such a cause.
abbrev pub FirstFault : Type 0
FirstFault = (profile : Profile) (limits : Limits) (bytes : List ℕ) (stop : Stop) (cause : Cause) → SnapStopOf profile (block_limits limits) bytes stop →
    IsCause cause stop →
    IsFirstFault profile limits bytes stop cause

-- ---- Own lines, and own faults

-- Among the bytes is a block of the entry's path, behind whole lines, which read alone is the snapshot of this entry.
pub record IsOwn (profile : Profile) (limits : Limits) (bytes : List ℕ) (e : EntryData) : Type 0 where
  pub front : List ℕ
  pub block : List ℕ
  pub back : List ℕ
  pub split : bytes ≡ front ++ (block ++ back)
  pub ended : IsRecordEnd front
  pub is_block : IsBlockOf limits.max_record (Some e.path) block
  pub decoded : IsDecoded profile (block_limits limits) block (e ∷ [])

-- So it is of each entry that is told.
abbrev pub OwnLines : Type 0
OwnLines = (profile : Profile) (limits : Limits) (bytes : List ℕ) (before : List Told) (e : EntryData) (behind : List Told) →
    AreToldOf profile limits bytes (before ++ inl e ∷ behind) → IsOwn profile limits bytes e

-- Among the bytes is a block of the path that is told, behind whole lines, which read alone is stopped at the place that is told and
-- for the cause.
pub record IsOwnFault (profile : Profile) (limits : Limits) (bytes : List ℕ) (out : LeftOut) : Type 0 where
  pub front : List ℕ
  pub block : List ℕ
  pub back : List ℕ
  pub split : bytes ≡ front ++ (block ++ back)
  pub ended : IsRecordEnd front
  pub is_block : IsBlockOf limits.max_record out.path block
  pub stop : Stop
  pub stops : SnapStopOf profile (block_limits limits) block stop
  pub at : out.at ≡ length front + place_of stop
  pub cause_is : IsCause out.cause stop

-- So it is of each block that is told to be left out.
abbrev pub OwnFaults : Type 0
OwnFaults = (profile : Profile) (limits : Limits) (bytes : List ℕ) (before : List Told) (out : LeftOut) (behind : List Told) →
    AreToldOf profile limits bytes (before ++ inr out ∷ behind) → IsOwnFault profile limits bytes out

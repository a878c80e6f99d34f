-- What the calls of a decoder promise, of the bytes that it consumed and the entries that it gave.
use Rattle.std.specs.Prelude.{◌≡◌, ℕ, ◌+◌, List, ◌++◌, length, Option, Some, None, option_to_list, Result, Ok, Err}
use Rattle.std.specs.List.{AllZip}
use Rattle.cg_text.specs.Texts.{Viable}
use Rattle.cg_value.specs.Entry.{EntryData}
use Rattle.cg_value.specs.declared.profile.Profile.{Profile}
use Rattle.cg_line.specs.Reads as reader
use Rattle.cg_line.specs.Upgrading.{IsBefore, IsUp}
use Rattle.cg_snap.specs.Streams.{snap_stream}
use Rattle.cg_snap.specs.Closed.{Closed}
use Rattle.cg_snap.specs.Pulled.{StandsFor, WhatCame}
use Rattle.cg_snap.specs.Snap.{Snap, SnapText}
use Rattle.cg_snap.specs.SnapStop.{IsSnapUnstopped}
use Rattle.cg_snap.specs.declared.event.Event.{Event}
use Rattle.cg_snap.specs.declared.decoder.Decoder.{Decoder}
use Rattle.cg_snap.specs.declared.limits.Limits.{Limits}
use Rattle.cg_snap.specs.declared.present.CurrentEntry.{CurrentEntry}
use Rattle.cg_snap.specs.declared.snapshot_records.SnapshotRecords.{SnapshotRecords}
use Rattle.cg_snap.specs.declared.stop.Stop.{Stop}
use Rattle.cg_snap.specs.declared.stop.Stop.TheVariants as stops

abbrev pub SnapshotDecoder : Type 0
SnapshotDecoder = Decoder SnapshotRecords

abbrev pub profile_of : SnapshotDecoder → Profile
profile_of d = d.records.profile

abbrev pub limits_of : SnapshotDecoder → Limits
limits_of d = d.meter.limits

-- How many bytes were consumed.
abbrev pub offset_of : SnapshotDecoder → ℕ
offset_of d = d.meter.offset

-- The stop that came, if one did.
abbrev pub stop_of : SnapshotDecoder → Option Stop
stop_of d = d.stop

-- The sum of the lengths of its vectors.
abbrev pub held_in : Option CurrentEntry → ℕ
held_in None = 0
held_in (Some x) = length x.path.items + reader.held_by x.reader

abbrev pub held_by_records : SnapshotRecords → ℕ
held_by_records s = length s.begun.items + held_in s.present

abbrev pub held_by : SnapshotDecoder → ℕ
held_by d = held_by_records d.records

-- The decoder consumed the bytes p, of which none stops a stream, and gave the entries es.
abbrev pub Stands : SnapshotDecoder → List ℕ → List EntryData → Type 0
Stands d = StandsFor (snap_stream (profile_of d)) d

-- What a decoder consumed closes what it gave, can be gone on from, and has no byte that stops it.
abbrev pub PulledIsClosed : Type 0
PulledIsClosed = (d : SnapshotDecoder) (p : List ℕ) (es : List EntryData) → Stands d p es →
    Closed (profile_of d) p es × Viable (Snap (profile_of d)) p × IsSnapUnstopped (profile_of d) (limits_of d) p

-- Where decoders of two profiles consumed the same bytes, the entries that the later one's gave are those of the earlier one's,
-- upgraded.
abbrev pub PulledIsUpgraded : Type 0
PulledIsUpgraded = (c d : SnapshotDecoder) (p : List ℕ) (es fs : List EntryData) → IsBefore (profile_of c) (profile_of d) → Stands c p es → Stands d p fs → AllZip (IsUp (profile_of d)) es fs

-- What a call of next leaves that consumed so many bytes of the piece, and what it found.
abbrev pub WhatIs : SnapshotDecoder → List ℕ → List EntryData → List ℕ → ℕ → Event EntryData → Type 0
WhatIs new = WhatCame (snap_stream (profile_of new)) new

-- What finish answers of a decoder that didn't stop: the bytes are a snapshot, with one entry more or none, or they aren't.
abbrev pub FinishIs : Profile → List ℕ → List EntryData → Result (Option EntryData) Stop → Type 0
FinishIs profile p es (Ok last) = SnapText profile (es ++ option_to_list last) p
FinishIs profile p es (Err (stops.Cut at)) = (at ≡ length p) × (Snap profile p → ⊥)
FinishIs profile p es (Err (stops.Refused at why)) = ⊥
FinishIs profile p es (Err (stops.TooLong at)) = ⊥
FinishIs profile p es (Err (stops.TooMany at)) = ⊥
FinishIs profile p es (Err (stops.TooMuch at)) = ⊥

-- What the calls of a decoder that goes on promise, of the bytes that it consumed and what it found.

use Rattle.std.specs.Prelude.{◌≡◌, ℕ, ◌+◌, ◌≤◌, ◌⊎◌, List, [], ◌++◌, length, Option, Some, None, Result, Ok, Err}
use Rattle.cg_value.specs.Entry.{EntryData}
use Rattle.cg_value.specs.declared.profile.Profile.{Profile}
use Rattle.cg_snap.specs.Begun.{IsRecordEnd}
use Rattle.cg_snap.specs.Closed.{IsHeldFor}
use Rattle.cg_snap.specs.Decode.{IsStreamFault}
use Rattle.cg_snap.specs.Decoder.{held_by_records}
use Rattle.cg_snap.specs.GoingOn.{AreAllTold, AreTold, EndsLeftOut, Told, stream_limits, told_by, told_entry}
use Rattle.cg_snap.specs.GoingOnState.{AreLines, HaveFaults, breaks_none, form_of, going_stream, many_of_none}
use Rattle.cg_snap.specs.Pulled.{StandsFor}
use Rattle.cg_snap.specs.declared.decode.StreamFault.{StreamFault}
use Rattle.cg_snap.specs.declared.decoder.Decoder.{Decoder}
use Rattle.cg_snap.specs.declared.going_on.Found.{Found}
use Rattle.cg_snap.specs.declared.going_on_records.GoingOnRecords.{GoingOnRecords}
use Rattle.cg_snap.specs.declared.limits.Limits.{Limits}
use Rattle.cg_snap.specs.declared.stop.Stop.{Stop}
use Rattle.cg_snap.specs.declared.stop.Stop.TheVariants as stops

abbrev pub GoingOnDecoder : Type 0
GoingOnDecoder = Decoder GoingOnRecords

-- The profile and the limits of a record and of the records of a path.
abbrev pub going_form_of : GoingOnDecoder → (Profile × Limits)
going_form_of d = form_of d.records

abbrev pub going_stop_of : GoingOnDecoder → Option Stop
going_stop_of d = d.stop

-- The limit of the whole stream.
abbrev pub going_limits_of : GoingOnDecoder → Limits
going_limits_of d = d.meter.limits

-- The decoder consumed the bytes p, and found this.
abbrev pub StandsOn : GoingOnDecoder → List ℕ → List Found → Type 0
StandsOn d = StandsFor (going_stream (going_form_of d)) d

-- The sum of the lengths of its vectors.
abbrev pub held_by_path : Option (List ℕ) → ℕ
held_by_path None = 0
held_by_path (Some path) = length path

abbrev pub going_held_by : GoingOnDecoder → ℕ
going_held_by d = held_by_records d.records.block + held_by_path d.records.left_out

-- So much may be held behind blocks: what is held for the block that is read, as though no other came; and where the last of
-- those blocks is left out, its path.
pub record IsHeldOn (profile : Profile) (limits : Limits) (bytes : List ℕ) (held : ℕ) : Type 0 where
  pub front : List ℕ
  pub block : List ℕ
  pub path : Option (List ℕ)
  pub split : bytes ≡ front ++ block
  pub of_block : ℕ
  pub for_block : IsHeldFor profile block [] of_block
  pub most : held ≤ of_block + held_by_path path
  pub left_out : (path ≡ None) ⊎ ((found : List Told) × AreTold profile limits front path found × EndsLeftOut profile limits found)

-- What finish answers of a decoder that didn't stop: the stream is whole lines, and all is told of it with one entry more or none; or
-- a line is begun.
abbrev pub GoingFinishIs : Profile → Limits → List ℕ → List Found → Result (Option EntryData) Stop → Type 0
GoingFinishIs profile limits p found (Ok last) = AreAllTold profile limits p (told_by found ++ told_entry last)
GoingFinishIs profile limits p found (Err (stops.Cut at)) = (at ≡ length p) × (IsRecordEnd p → ⊥)
GoingFinishIs profile limits p found (Err (stops.Refused at why)) = ⊥
GoingFinishIs profile limits p found (Err (stops.TooLong at)) = ⊥
GoingFinishIs profile limits p found (Err (stops.TooMany at)) = ⊥
GoingFinishIs profile limits p found (Err (stops.TooMuch at)) = ⊥

-- All is told of the bytes, which are whole lines and no more than the stream may have, with what came before each byte at fault.
pub record IsGoneOn (profile : Profile) (limits : Limits) (bytes : List ℕ) (found : List Found) : Type 0 where
  pub all : AreAllTold profile limits bytes (told_by found)
  pub faults : HaveFaults profile limits bytes [] found
  pub short : length bytes ≤ limits.max_stream

-- What is at fault with a whole stream that is gone on with: the limit of the whole, or that it ends within a line; or memory.
abbrev pub IsGoingFault : Limits → List ℕ → StreamFault → Type 0
IsGoingFault limits = IsStreamFault AreLines breaks_none many_of_none (stream_limits limits)

-- What a reader of a snapshot stands for of which what is at fault is left out.
use Rattle.std.proofs.Common.{◌≡◌, ℕ, ◌<◌, ◌≤◌, Bool, List, [], ◌∷◌, ◌++◌, length, inl, inr, Option, Some, None, is_some, sym, subst, ap, arith}
use Rattle.std.specs.List.{AllByRecursion, flat_map}
use Rattle.cg_value.specs.Entry.{EntryData}
use Rattle.cg_value.specs.declared.profile.Profile.{Profile}
use Rattle.cg_snap.specs.Begun.{IsRecordEnd}
use Rattle.cg_snap.specs.GoingOn.{AreAllTold, AreToldBy, IsAtFault, Told, stream_limits, told_by, told_entry}
use Rattle.cg_snap.specs.GoingOnDecoder.{GoingOnDecoder}
use Rattle.cg_snap.specs.GoingOnState.{IsBefore, form_of, going_stream}
use Rattle.cg_snap.specs.Pulled.{HasPulled}
use Rattle.cg_snap.specs.declared.decode.StreamFault.{StreamFault}
use Rattle.cg_snap.specs.declared.decode.StreamFault.TheVariants as faults
use Rattle.cg_snap.specs.declared.event.Event.{Event}
use Rattle.cg_snap.specs.declared.event.Event.TheVariants as events
use Rattle.cg_snap.specs.declared.fault.Fault.{Fault}
use Rattle.cg_snap.specs.declared.going_on.Found.{Found}
use Rattle.cg_snap.specs.declared.going_on.LeftOut.{LeftOut}
use Rattle.cg_snap.specs.declared.limits.Limits.{Limits}
use Rattle.cg_snap.specs.declared.stop.Stop.TheVariants as stops
use Rattle.cg_run.specs.GoneOn.{ExplainsTold, GoingStopOf, IsGoingUnstopped, Telling, TellsParts, explained_part, left_out_of, told_of}
use Rattle.cg_outcome.specs.Lines.{AreBehind}
use Rattle.cg_outcome.specs.Wrote.{joined}
use Rattle.cg_run.specs.Stood.{HasStood}
use Rattle.cg_run.specs.Streaming.{FoundIs}
use Rattle.cg_run.specs.Taken.{taken_closed, taken_counted, taken_unstopped}
use Rattle.cg_run.specs.declared.going_on.Ended.{Ended}
use Rattle.cg_run.specs.declared.going_on.GoingOnReader.{GoingOnReader}

-- The decoder, which has this profile and these limits, consumed the bytes and found this; and no stop came.
abbrev pub HasTakenOn : GoingOnDecoder → Profile × Limits → List ℕ → List Found → Type 0
HasTakenOn d form = HasPulled going_stream form_of d form (stream_limits (form.1))

-- ... also where the next byte stopped it.
abbrev pub HasStoodOn : GoingOnDecoder → Profile × Limits → List ℕ → Type 0
HasStoodOn d form = HasStood going_stream form_of d form (stream_limits (form.1))

-- The stream goes on with a byte more, or memory was refused.
abbrev pub GoesOn : ℕ → Event (Unit {0}) → Type 0
GoesOn used events.NeedMore = 0 < used
GoesOn used (events.Given u) = 0 < used
GoesOn used (events.Stopped stop) = ⊥
GoesOn used events.OutOfMemory = Unit {0}

-- What is left out with the byte behind q, if something is: what came of its block before that byte.
abbrev pub IsFaultAt : Profile → Limits → List ℕ → ℕ → Option LeftOut → Option Fault → Type 0
IsFaultAt profile limits q byte None fault = Unit {0}
IsFaultAt profile limits q byte (Some out) None = ⊥
IsFaultAt profile limits q byte (Some out) (Some fault) =
    (before : List Told) × (block : List ℕ) × (h : IsAtFault profile limits (q ++ byte ∷ []) before out block byte) × (h.front ++ block ≡ q) × IsBefore fault profile block

-- The lines that explain what is left out, if something is.
abbrev pub ExplainsOut : (explain : Bool) → Profile → Limits → List ℕ → Option LeftOut → List (List ℕ) → Type 0
ExplainsOut explain profile limits bytes None lines = lines ≡ []
ExplainsOut explain profile limits bytes (Some out) lines = ExplainsTold profile limits explain bytes (inr out) lines

module _ {T : Type 0} (parts : Told → List (List ℕ)) (Keeps : T → List Told → Type 0) where
  -- Its decoder took the bytes, and the parts are those of what it found, each explained so, which is what the teller keeps; the blocks
  -- that were left out are counted, and the lines, where something is explained.
  pub record HasGoneOn (s : GoingOnReader T) (form : Profile × Limits) (explain : Bool) (p : List ℕ) (all : List (List ℕ)) : Type 0 where
    pub found : List Found
    pub taken : HasTakenOn s.decoder form p found
    pub tellings : List Telling
    pub told_are : told_of tellings ≡ told_by found
    pub explained : AllByRecursion (λ t. ExplainsTold (form.0) (form.1) explain p t.told t.lines) tellings
    pub parts_are : all ≡ flat_map (explained_part parts) tellings
    pub counts : s.left_out ≡ left_out_of (told_by found)
    pub keeps : Keeps s.teller (told_by found)
    pub lines : AreBehind s.lines p
    pub explain_is : is_some s.lines ≡ explain

  -- What a call of next came to that left this reader.
  abbrev pub FoundOn : GoingOnReader T → Profile × Limits → (explain : Bool) → List ℕ → List (List ℕ) → List ℕ → ℕ → List ℕ → List ℕ → Event (Unit {0}) → Type 0
  FoundOn s form explain p all piece used old new what =
      FoundIs (TellsParts parts explain (form.0) (form.1)) (IsGoingUnstopped (form.1)) (HasGoneOn s form explain) (GoingStopOf (form.1)) p all piece used old new what

  module _ (s : GoingOnReader T) (form : Profile × Limits) (explain : Bool) (p : List ℕ) (all : List (List ℕ)) (h : HasGoneOn s form explain p all) where
    pub going_stands : HasStoodOn s.decoder form p
    going_stands = record { parts = h.found; stands = h.taken.stands; form_is = h.taken.form_is; limits_is = h.taken.limits_is }

    pub going_closed : TellsParts parts explain (form.0) (form.1) p all
    going_closed = (
      h.tellings,
      record { told = subst (AreToldBy (form.0) (form.1) p) (sym h.told_are) (taken_closed s.decoder form (stream_limits (form.1)) p h.found h.taken); explained = h.explained },
      h.parts_are,
    )

    pub going_passed : IsGoingUnstopped (form.1) p
    going_passed = taken_unstopped s.decoder form (stream_limits (form.1)) p h.found h.taken

    pub going_counted : (s.decoder.meter.offset ≡ length p) × (length p ≤ form.1.max_stream)
    going_counted = taken_counted s.decoder form (stream_limits (form.1)) p h.found h.taken

  -- The end of the bytes told the last entry, if there is one, of which this is the text; and with it all is told.
  pub record HasEndedOn (e : Ended T) (form : Profile × Limits) (explain : Bool) (p : List ℕ) (all : List (List ℕ)) : Type 0 where
    pub before : List Telling
    pub last : Option EntryData
    pub whole : AreAllTold (form.0) (form.1) p (told_of before ++ told_entry last)
    pub explained : AllByRecursion (λ t. ExplainsTold (form.0) (form.1) explain p t.told t.lines) before
    pub parts_are : all ≡ flat_map (explained_part parts) before
    pub text_is : e.text.items ≡ joined (flat_map parts (told_entry last))
    pub counts : e.left_out ≡ left_out_of (told_of before ++ told_entry last)
    pub keeps : Keeps e.teller (told_of before ++ told_entry last)

  -- Why it didn't: a line is begun, or memory was refused for the last entry.
  pub record IsUntold (p : List ℕ) (form : Profile × Limits) (explain : Bool) (all : List (List ℕ)) : Type 0 where
    pub before : List Telling
    pub entry : EntryData
    pub whole : AreAllTold (form.0) (form.1) p (told_of before ++ inl entry ∷ [])
    pub explained : AllByRecursion (λ t. ExplainsTold (form.0) (form.1) explain p t.told t.lines) before
    pub parts_are : all ≡ flat_map (explained_part parts) before

  abbrev pub EndsOnBy : Profile × Limits → (explain : Bool) → List ℕ → List (List ℕ) → StreamFault → Type 0
  EndsOnBy form explain p all (faults.Stopped (stops.Cut at)) = (at ≡ length p) × (IsRecordEnd p → ⊥)
  EndsOnBy form explain p all (faults.Stopped s) = ⊥
  EndsOnBy form explain p all faults.OutOfMemory = IsUntold p form explain all

pub going_within : (d : GoingOnDecoder) (form : Profile × Limits) (p : List ℕ) → HasStoodOn d form p → length p ≤ form.1.max_stream
going_within d form p h = omega (arith, h.stands.counted.within, ap (λ (l : Limits). l.max_stream) h.limits_is)

abbrev pub going_offset : {T : Type 0} → GoingOnReader T → ℕ
going_offset s = s.decoder.meter.offset

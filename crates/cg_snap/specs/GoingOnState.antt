-- What the state of records that go on says of the bytes that came.
use Rattle.std.proofs.Common.{inr, refl, arith}
use Rattle.std.specs.Prelude.{◌≡◌, ◌≢◌, ℕ, ◌<◌, List, [], ◌∷◌, ◌++◌, ◌⊎◌, length, Option, Some, None, Bool, true, false, MatchOption}
use Rattle.std.specs.Bool.{MatchBool}
use Rattle.std.specs.List.{AllByRecursion}
use Rattle.cg_text.specs.Texts.{Lacks, Viable}
use Rattle.cg_value.specs.Entry.{EntryData, IsPath}
use Rattle.cg_value.specs.Records.{records}
use Rattle.cg_value.specs.declared.profile.Profile.{Profile}
use Rattle.cg_snap.specs.Begun.{IsRecordEnd}
use Rattle.cg_snap.specs.Course.{HasProgressed, Stream}
use Rattle.cg_snap.specs.DecoderState.{HasConsumedInPath, HasTakenRecords}
use Rattle.cg_snap.specs.GoingOn.{AreTold, AreToldBy, Block, EndsLeftOut, Follows, IsAtFault, IsLeftOut, Told, block_limits, told_by, told_entry, told_out}
use Rattle.cg_snap.specs.Snap.{AreEntryLines}
use Rattle.cg_snap.specs.SnapStop.{IsNameless}
use Rattle.cg_snap.specs.Streams.{snap_stream}
use Rattle.cg_snap.specs.declared.event.Event.{Event}
use Rattle.cg_snap.specs.declared.event.Event.TheVariants as events
use Rattle.cg_snap.specs.declared.fault.Fault.{Fault}
use Rattle.cg_snap.specs.declared.going_on.Found.{Found}
use Rattle.cg_snap.specs.declared.going_on.LeftOut.{LeftOut}
use Rattle.cg_snap.specs.declared.going_on_records.GoingOnRecords.{GoingOnRecords}
use Rattle.cg_snap.specs.declared.limits.Limits.{Limits}
use Rattle.cg_snap.specs.declared.present.CurrentEntry.{CurrentEntry}
use Rattle.cg_snap.specs.declared.snapshot_records.SnapshotRecords.{SnapshotRecords}
use Rattle.cg_snap.specs.declared.stop.Stop.{Stop}
use Rattle.cg_snap.specs.declared.stop.Stop.TheVariants as stops
use Rattle.cg_snap.specs.declared.stop.Why.{Why}

-- The bytes of a block of this path end within a line.
abbrev pub EndsInLine : Option (List ℕ) → List ℕ → Type 0
EndsInLine None bytes = Lacks 10 bytes
EndsInLine (Some path) bytes = (lines : List (List ℕ)) × (line : List ℕ) × AllByRecursion (Lacks 10) lines × Lacks 10 line × (bytes ≡ records path lines ++ (path ++ 0 ∷ line))

module _ (s : GoingOnRecords) (profile : Profile) (limits : Limits) (bytes : List ℕ) (told : List Told) where
  -- The block that is read has this path, which isn't that of the block before it.
  pub record HasOther (path : Option (List ℕ)) (block : List ℕ) : Type 0 where
    pub own : List ℕ
    pub good : IsPath own
    pub rest : List ℕ
    pub split : block ≡ own ++ 0 ∷ rest
    pub other : path ≡ Some own → ⊥
    pub none : s.left_out ≡ None

  -- No NUL came yet behind a block that is left out.
  pub record IsFirst (path : Option (List ℕ)) (block : List ℕ) : Type 0 where
    pub no_nul : Lacks 0 block
    pub left_out : EndsLeftOut profile limits told
    pub kept : s.left_out ≡ path

  -- Behind blocks of which all is told a block is read, as though no other came.
  pub record IsReading : Type 0 where
    pub front : List ℕ
    pub path : Option (List ℕ)
    pub blocks : AreTold profile limits front path told
    pub ended : IsRecordEnd front
    pub block : List ℕ
    pub split : bytes ≡ front ++ block
    pub along : HasProgressed (snap_stream profile) s.block s.meter block []
    pub state : IsFirst path block ⊎ HasOther path block

  -- The rest of a line of a block that is left out is passed over.
  pub record IsPassingOver : Type 0 where
    pub front : List ℕ
    pub last : Option (List ℕ)
    pub before : List Told
    pub blocks : AreTold profile limits front last before
    pub block : Block
    pub follows : Follows limits.max_record front last block
    pub out : LeftOut
    pub at_fault : IsLeftOut profile limits (length front) block out
    pub split : bytes ≡ front ++ block.bytes
    pub told_is : told ≡ before ++ inr out ∷ []
    pub in_line : EndsInLine block.path block.bytes
    pub kept : s.left_out ≡ block.path
    pub along : HasProgressed (snap_stream profile) s.block s.meter [] []

-- The records, which are of this profile and have these limits, took the bytes, and this is told.
pub record HasTold (s : GoingOnRecords) (profile : Profile) (limits : Limits) (bytes : List ℕ) (told : List Told) : Type 0 where
  pub profile_is : s.block.profile ≡ profile
  pub limits_is : s.limits ≡ limits
  pub meter_is : s.meter.limits ≡ block_limits limits
  pub state : MatchBool s.is_passing (IsPassingOver s profile limits bytes told) (IsReading s profile limits bytes told)

-- ---- What is said of a byte at fault

-- The byte is of the present entry: it is in a line of it, or begins one more.
abbrev pub IsOfPresent : List ℕ → ℕ → Option CurrentEntry → Type 0
IsOfPresent begun byte None = ⊥
IsOfPresent begun byte (Some x) = (x.in_line ≡ true) ⊎ ((byte ≡ 0) × (x.path.items ≡ begun))

abbrev pub IsOfEntry : SnapshotRecords → ℕ → Type 0
IsOfEntry s byte = IsOfPresent s.begun.items byte s.present

-- The path of a line of which this is begun, whose next byte is this; a record has room for the byte or not.
abbrev pub IsPathBegun : List ℕ → ℕ → Bool → Option (List ℕ) → Type 0
IsPathBegun begun byte room (Some path) = (path ≡ begun) × (byte ≡ 0) × (room ≡ true) × (IsNameless begun → ⊥)
IsPathBegun begun byte room None = byte ≡ 0 → room ≡ true → (IsNameless begun → ⊥) → ⊥

-- The path of the line that the byte is of.
abbrev pub IsPathAt : List ℕ → ℕ → Bool → Option CurrentEntry → Bool → Option (List ℕ) → Type 0
IsPathAt begun byte room None of path = IsPathBegun begun byte room path
IsPathAt begun byte room (Some x) true path = path ≡ Some x.path.items
IsPathAt begun byte room (Some x) false path = IsPathBegun begun byte room path

-- The entry of the records of the present one.
abbrev pub IsEnded : Option CurrentEntry → Option EntryData → Type 0
IsEnded None e = e ≡ None
IsEnded (Some x) e = (profile : Profile) (begun p : List ℕ) (es : List EntryData) (h : HasConsumedInPath profile begun x p es) →
    MatchOption e ⊥ (λ f. (f.path ≡ x.path.items) × AreEntryLines profile f h.lines)

-- Whether the present path is that of a block that was left out.
abbrev pub IsAgain : Option (List ℕ) → Option CurrentEntry → Option Bool → Type 0
IsAgain out o None = (out ≡ None) ⊎ (o ≡ None)
IsAgain out o (Some true) = (path : List ℕ) × (x : CurrentEntry) × (out ≡ Some path) × (o ≡ Some x) × (path ≡ x.path.items)
IsAgain out o (Some false) = (path : List ℕ) × (x : CurrentEntry) × (out ≡ Some path) × (o ≡ Some x) × (path ≢ x.path.items)

-- Only the whole stream has such a stop.
abbrev pub IsWholeStop : Stop → Type 0
IsWholeStop (stops.Refused at why) = ⊥
IsWholeStop (stops.TooLong at) = ⊥
IsWholeStop (stops.TooMany at) = ⊥
IsWholeStop (stops.TooMuch at) = Unit {0}
IsWholeStop (stops.Cut at) = Unit {0}

-- This came of a block before its byte at fault.
abbrev pub IsBefore : Fault → Profile → List ℕ → Type 0
IsBefore fault profile block = HasTakenRecords fault.records profile block []

-- What came of the block that is left out before its byte at fault, where one is, behind blocks of which this is told.
abbrev pub IsFaultOf : Profile → Limits → List ℕ → List Told → Option LeftOut → Option Fault → Type 0
IsFaultOf profile limits bytes before None None = Unit {0}
IsFaultOf profile limits bytes before None (Some fault) = ⊥
IsFaultOf profile limits bytes before (Some out) None = ⊥
IsFaultOf profile limits bytes before (Some out) (Some fault) = (block : List ℕ) × (byte : ℕ) × IsAtFault profile limits bytes before out block byte × IsBefore fault profile block

-- The same of each thing that is found, where this is told before.
abbrev pub HaveFaults : Profile → Limits → List ℕ → List Told → List Found → Type 0
HaveFaults profile limits bytes told [] = Unit {0}
HaveFaults profile limits bytes told (f ∷ found) =
    IsFaultOf profile limits bytes (told ++ told_entry f.entry) f.left_out f.fault × HaveFaults profile limits bytes (told ++ (told_entry f.entry ++ told_out f.left_out)) found

-- One thing more is found and told.
abbrev pub HasFoundMore : GoingOnRecords → Profile → Limits → List ℕ → List Told → Found → Type 0
HasFoundMore new profile limits bytes told found = HasTold new profile limits bytes (told ++ (told_entry found.entry ++ told_out found.left_out)) × IsFaultOf profile limits bytes (told ++ told_entry found.entry) found.left_out found.fault

-- What leaving out the block at whose byte something is at fault leaves: nothing more is told, where it was left out before.
abbrev pub IsLeft : GoingOnRecords → Profile → Limits → List ℕ → List Told → Option Found → Type 0
IsLeft new profile limits bytes told None = HasTold new profile limits bytes told
IsLeft new profile limits bytes told (Some found) = HasFoundMore new profile limits bytes told found

-- What taking the byte at fault leaves, of which so many were taken.
abbrev pub FaultLeaves : GoingOnRecords → GoingOnRecords → Profile → Limits → List ℕ → List Told → Stop → ℕ → Event Found → Type 0
FaultLeaves old new profile limits bytes told stop used events.NeedMore = (used ≡ 1) × HasTold new profile limits bytes told
FaultLeaves old new profile limits bytes told stop used (events.Given found) = (used ≡ 1) × HasFoundMore new profile limits bytes told found
FaultLeaves old new profile limits bytes told stop used (events.Stopped other) = IsWholeStop stop
FaultLeaves old new profile limits bytes told stop used events.OutOfMemory = (used ≡ 0) × (new ≡ old)

-- Bytes were read behind a block that is left out; of a path that is that of the block no more than its NUL.
pub record IsUnsettled (s : GoingOnRecords) (profile : Profile) (limits : Limits) (bytes : List ℕ) (told : List Told) : Type 0 where
  pub front : List ℕ
  pub path : Option (List ℕ)
  pub blocks : AreTold profile limits front path told
  pub ended : IsRecordEnd front
  pub block : List ℕ
  pub split : bytes ≡ front ++ block
  pub along : HasProgressed (snap_stream profile) s.block s.meter block []
  pub left_out : EndsLeftOut profile limits told
  pub kept : s.left_out ≡ path
  pub byte : (path ≡ None) ⊎ ((begun : List ℕ) × (last : ℕ) × Lacks 0 begun × (block ≡ begun ++ last ∷ []))

-- ---- Snapshots that are gone on with, as streams of records

-- Whole lines, of any bytes.
abbrev pub AreLines : List ℕ → Type 0
AreLines text = IsRecordEnd text × AllByRecursion (λ b. b < 256) text

-- The records took the bytes, and this is found, which is all that they tell, with what came before each byte at fault.
pub record HasFound (s : GoingOnRecords) (form : Profile × Limits) (p : List ℕ) (found : List Found) : Type 0 where
  pub told : HasTold s (form.0) (form.1) p (told_by found)
  pub closed : AreToldBy (form.0) (form.1) p (told_by found)
  pub faults : HaveFaults (form.0) (form.1) p [] found
  pub bytes : AllByRecursion (λ b. b < 256) p

-- No byte breaks a rule.
abbrev pub breaks_none : List ℕ → ℕ → Why → Type 0
breaks_none begun byte why = ⊥

abbrev pub many_of_none : ℕ → List ℕ → ℕ → Type 0
many_of_none max text place = ⊥

abbrev pub going_stream : (Profile × Limits) → Stream GoingOnRecords Found
going_stream form = record {
  language = AreLines;
  breaks = breaks_none;
  many = many_of_none;
  closes = λ p found. AreToldBy (form.0) (form.1) p (told_by found);
  at = λ s. HasFound s form;
}

abbrev pub form_of : GoingOnRecords → (Profile × Limits)
form_of s = (s.block.profile, s.limits)

pub going_closed : (s : GoingOnRecords) (form : Profile × Limits) (p : List ℕ) (found : List Found) → HasFound s form p found → AreToldBy (form.0) (form.1) p (told_by found)
going_closed s form p found h = h.closed

all_push : (p : List ℕ) → AllByRecursion (λ b. b < 256) p → AllByRecursion (λ b. b < 256) (p ++ 10 ∷ [])
all_push [] h = (omega arith, tt)
all_push (b ∷ p) h = (h.0, all_push p h.1)

pub going_goes_on : (s : GoingOnRecords) (form : Profile × Limits) (p : List ℕ) (found : List Found) → HasFound s form p found → Viable AreLines p
going_goes_on s form p found h = record { rest = 10 ∷ []; whole = (inr (p, refl), all_push p h.bytes) }

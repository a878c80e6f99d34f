-- What a run over a snapshot writes that goes on past what is at fault.
use Rattle.std.proofs.Common.{inl, inr}
use Rattle.std.specs.Prelude.{◌≡◌, ◌≢◌, ◌⊎◌, ℕ, suc, Bool, true, false, List, [], ◌∷◌, ◌++◌, codes, decimal, length, map, Option, Some, None}
use Rattle.std.specs.List.{AllByRecursion, flat_map}
use Rattle.cg_text.specs.Token.{saturated}
use Rattle.cg_value.specs.Entry.{EntryData}
use Rattle.cg_value.specs.declared.profile.Profile.{Profile}
use Rattle.cg_json.specs.Entry.{left_out_line as json_line}
use Rattle.cg_snap.specs.GoingOn.{AreAllTold, AreToldBy, IsAtFault, IsPassed, IsWanted, Told, stream_limits, told_entry, told_out}
use Rattle.cg_snap.specs.GoingOnState.{AreLines, breaks_none, many_of_none}
use Rattle.cg_snap.specs.Snap.{Snap}
use Rattle.cg_snap.specs.StreamStop.{IsStreamUnstopped, StreamStopOf}
use Rattle.cg_snap.specs.declared.going_on.Cause.{Cause}
use Rattle.cg_snap.specs.declared.going_on.Cause.TheVariants as causes
use Rattle.cg_snap.specs.declared.going_on.Found.{Found}
use Rattle.cg_snap.specs.declared.going_on.LeftOut.{LeftOut}
use Rattle.cg_snap.specs.declared.limits.Limits.{Limits}
use Rattle.cg_snap.specs.declared.stop.Stop.{Stop}
use Rattle.cg_tree.specs.Ruled.{ruled}
use Rattle.cg_run.specs.Check.{IsCheckRight, finding_lines}
use Rattle.cg_outcome.specs.Explain.{AreNext, Explains, IsInRecord}
use Rattle.cg_outcome.specs.Input.{Reading}
use Rattle.cg_outcome.specs.Outcome.{checked, gone_on, why_words}
use Rattle.cg_run.specs.Stream.{IsStreamRight, PartsOfAll, WholeOf, json_part, shown_part}
use Rattle.cg_outcome.specs.declared.outcome.Outcome.{Outcome}
use Rattle.cg_run.specs.declared.teller.KeptTeller.{KeptTeller}

-- ---- The lines of a block that is left out

abbrev pub cause_words : Cause → List ℕ
cause_words (causes.Refused why) = why_words why
cause_words causes.TooLong = codes "record too long"
cause_words causes.TooMany = codes "too many lines"

abbrev pub path_words : Option (List ℕ) → List ℕ
path_words None = []
path_words (Some path) = codes ": " ++ path

abbrev pub left_out_line : LeftOut → List ℕ
left_out_line out = codes "cgfile: left out at " ++ decimal out.at ++ codes ": " ++ cause_words out.cause ++ path_words out.path ++ codes "\n"

abbrev pub json_left_out : LeftOut → List ℕ
json_left_out out = json_line out.at out.path (cause_words out.cause)

-- ---- What is told of the blocks, one after another

-- The parts where each entry is shown, where each is a line of JSON, and where the entries are checked at the end.
abbrev pub shown_told : Told → List (List ℕ)
shown_told (inl e) = shown_part e ∷ []
shown_told (inr out) = left_out_line out ∷ []

abbrev pub json_told : Told → List (List ℕ)
json_told (inl e) = json_part e ∷ []
json_told (inr out) = json_left_out out ∷ []

abbrev pub checked_told : Told → List (List ℕ)
checked_told (inl e) = []
checked_told (inr out) = left_out_line out ∷ []

-- What is told of one thing that was found.
abbrev pub told_found : Found → List Told
told_found f = told_entry f.entry ++ told_out f.left_out

-- The entries, and how many blocks are left out.
abbrev pub entry_of : Told → List EntryData
entry_of (inl e) = e ∷ []
entry_of (inr out) = []

abbrev pub entries_of : List Told → List EntryData
entries_of told = flat_map entry_of told

abbrev pub how_many : List Told → ℕ
how_many [] = 0
how_many (inl e ∷ told) = how_many told
how_many (inr out ∷ told) = suc (how_many told)

abbrev pub left_out_of : List Told → ℕ
left_out_of told = saturated (how_many told)

-- The outcome of a run that tells each block; and of one that checks.
abbrev pub told_outcome : List Told → Outcome
told_outcome told = gone_on (left_out_of told)

abbrev pub checked_outcome : List Told → Outcome
checked_outcome told = checked (length (finding_lines (entries_of told))) (left_out_of told)

pub some_entry : (part : List ℕ) → part ∷ [] ≢ []
some_entry part e = absurd (cc)

-- ---- What is at fault, explained

module _ (profile : Profile) (limits : Limits) where
  -- The line that explains why a block is left out: it stands where it does in all bytes, and what may come is what may come in the
  -- block alone.
  pub record ExplainsFault (bytes : List ℕ) (out : LeftOut) (line : List ℕ) : Type 0 where
    pub before : List Told
    pub block : List ℕ
    pub byte : ℕ
    pub at_fault : IsAtFault profile limits bytes before out block byte
    pub explains : Explains (λ p set. AreNext (Snap profile) block set) IsInRecord (at_fault.front ++ block) (Some byte) line

  -- It is written where a byte is refused; a limit isn't explained.
  abbrev pub ExplainsCause : List ℕ → LeftOut → Cause → List (List ℕ) → Type 0
  ExplainsCause bytes out (causes.Refused why) lines = (line : List ℕ) × ExplainsFault bytes out line × (lines ≡ line ∷ [])
  ExplainsCause bytes out causes.TooLong lines = lines ≡ []
  ExplainsCause bytes out causes.TooMany lines = lines ≡ []

  -- The lines behind those of what is told, with the option and without it.
  abbrev pub ExplainsTold : (explain : Bool) → List ℕ → Told → List (List ℕ) → Type 0
  ExplainsTold false bytes t lines = lines ≡ []
  ExplainsTold true bytes (inl e) lines = lines ≡ []
  ExplainsTold true bytes (inr out) lines = ExplainsCause bytes out out.cause lines

  -- The line that explains why the input ended too early; none is written in the rest of a line without a path that is passed over,
  -- since nothing is held of it.
  abbrev pub ExplainsOn : List ℕ → Option ℕ → List ℕ → Type 0
  ExplainsOn p what text = Explains (IsWanted profile limits) IsInRecord p what text ⊎ (IsPassed profile limits p None × (text ≡ []))

-- What is told, and the lines that explain it.
pub record Telling : Type 0 where
  pub told : Told
  pub lines : List (List ℕ)

abbrev pub told_of : List Telling → List Told
told_of ts = map (λ (t : Telling). t.told) ts

abbrev pub explained_part : (Told → List (List ℕ)) → Telling → List (List ℕ)
explained_part part t = part t.told ++ t.lines

-- These things are told by the bytes, or by a whole stream of them, each explained so.
pub record AreExplained (Tell : List ℕ → List Told → Type 0) (explain : Bool) (profile : Profile) (limits : Limits) (bytes : List ℕ) (ts : List Telling) : Type 0 where
  pub told : Tell bytes (told_of ts)
  pub explained : AllByRecursion (λ t. ExplainsTold profile limits explain bytes t.told t.lines) ts

-- What a run that checks writes: the line of each block that is left out, and at the end a line for each finding.
abbrev pub checked_lines : List Telling → List (List ℕ)
checked_lines ts = flat_map (explained_part checked_told) ts ++ finding_lines (entries_of (told_of ts))

-- ---- What is right

-- Only the limit of the whole stops the stream.
abbrev pub IsGoingUnstopped : Limits → List ℕ → Type 0
IsGoingUnstopped limits = IsStreamUnstopped AreLines breaks_none many_of_none (stream_limits limits)

abbrev pub GoingStopOf : Limits → List ℕ → Stop → Type 0
GoingStopOf limits = StreamStopOf AreLines breaks_none many_of_none (stream_limits limits)

-- The parts of what the first bytes of a stream tell, and of what a whole one does.
abbrev pub TellsParts : (Told → List (List ℕ)) → (explain : Bool) → Profile → Limits → List ℕ → List (List ℕ) → Type 0
TellsParts part explain profile limits = PartsOfAll (flat_map (explained_part part)) (λ bytes ts. AreExplained (AreToldBy profile limits) explain profile limits bytes ts)

abbrev pub AllOf : (List Telling → List (List ℕ)) → (List Told → Outcome) → (explain : Bool) → Profile → Limits → List ℕ → List (List ℕ) → Outcome → Type 0
AllOf all outcome explain profile limits = WholeOf all (λ ts. outcome (told_of ts)) (λ bytes ts. AreExplained (AreAllTold profile limits) explain profile limits bytes ts)

-- A part for each entry and each block that is left out, as soon as the bytes tell it.
abbrev pub IsGoneOnRight : (Told → List (List ℕ)) → (explain : Bool) → Profile → Limits → Reading → Outcome → List (List ℕ) → Type 0
IsGoneOnRight part explain profile limits =
    IsStreamRight (AllOf (flat_map (explained_part part)) told_outcome explain profile limits) (TellsParts part explain profile limits) (IsGoingUnstopped limits) (GoingStopOf limits)

-- A snapshot that is checked.
abbrev pub IsGoneOnChecked : (explain : Bool) → Profile → Limits → Reading → Outcome → List (List ℕ) → Type 0
IsGoneOnChecked explain profile limits =
    IsCheckRight (AllOf checked_lines checked_outcome explain profile limits) (TellsParts checked_told explain profile limits) (IsGoingUnstopped limits) (GoingStopOf limits)

-- ---- What a teller keeps of what was told: nothing, or the entries that the rules speak of

abbrev pub keeps_none : {T : Type 0} → T → List Told → Type 0
keeps_none t told = Unit {0}

abbrev pub keeps_ruled : KeptTeller → List Told → Type 0
keeps_ruled t told = t.entries.items ≡ ruled (entries_of told)

-- Each entry is shown, and nothing is kept of it.
abbrev pub ShowsEntries : {T : Type 0} → (Told → List (List ℕ)) → (T → List Told → Type 0) → T → Type 0
ShowsEntries part Keeps t = (told : List Told) (e : EntryData) → (part (inl e) ≡ shown_part e ∷ []) × (Keeps t told → Keeps t (told ++ inl e ∷ []))

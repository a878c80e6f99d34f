-- What a run wrote for what it read.
use Rattle.std.specs.Prelude.{◌≡◌, ℕ, ◌+◌, ◌<◌, ◌⊎◌, Bool, true, false, List, [], ◌∷◌, ◌++◌, length, take, Option, Some, None}
use Rattle.std.specs.Io.KnownBytes.{Consumes}
use Rattle.cg_text.specs.Texts.{TextOf}
use Rattle.cg_value.specs.Entry.{EntryData, ItemData}
use Rattle.cg_value.specs.Files.{KindText}
use Rattle.cg_value.specs.Print.{print_of, print_setting_of}
use Rattle.cg_value.specs.Settings.{WriteText}
use Rattle.cg_value.specs.Table.{read_form_of, write_form_of}
use Rattle.cg_value.specs.declared.kind.ReadForm.{ReadForm}
use Rattle.cg_value.specs.declared.kind.WriteForm.{WriteForm}
use Rattle.cg_value.specs.declared.profile.Profile.{Profile}
use Rattle.cg_snap.specs.Closed.{Closed}
use Rattle.cg_snap.specs.Plan.{ClosedPlan, Plan, PlanText}
use Rattle.cg_snap.specs.PlanStop.{IsPlanUnstopped, PlanStopOf}
use Rattle.cg_snap.specs.Snap.{Snap, SnapText}
use Rattle.cg_snap.specs.SnapStop.{IsSnapUnstopped, SnapStopOf}
use Rattle.cg_snap.specs.Stop.{IsTextUnstopped, TextStopOf}
use Rattle.cg_snap.specs.declared.limits.Limits.{Limits}
use Rattle.cg_snap.specs.declared.stop.Stop.{Stop}
use Rattle.cg_snap.specs.declared.stop.Stop.TheVariants as stop
use Rattle.cg_run.specs.Check.{HasNoParts, IsCheckRight, finding_lines, found_outcome}
use Rattle.cg_outcome.specs.Explain.{ExplainsNext, IsInRecord, IsInText, Tells}
use Rattle.cg_run.specs.GoneOn.{ExplainsOn, IsGoneOnChecked, IsGoneOnRight, json_told, shown_told}
use Rattle.cg_outcome.specs.Input.{Reading, IsEnded}
use Rattle.cg_outcome.specs.Kinds.{kinds_lines}
use Rattle.cg_outcome.specs.Outcome.{last_line}
use Rattle.cg_outcome.specs.Wrote.{Wrote, joined}
use Rattle.cg_source.specs.Reading.{IsTextStarved}
use Rattle.cg_run.specs.Stream.{DoneOf, IsStreamRight, PartsOf, WholeOf, item_part, json_part, shown_part}
use Rattle.cg_run.specs.declared.options.Options.{Options}
use Rattle.cg_outcome.specs.declared.outcome.Outcome.{Outcome}
use Rattle.cg_outcome.specs.declared.outcome.Outcome.TheVariants as out
use Rattle.cg_run.specs.declared.command.Command.{Command}
use Rattle.cg_run.specs.declared.command.Command.TheVariants as command

-- The texts are a relation to the values that they spell, and a value's canonical text is printed.
module _ {V : Type 0} (Text : List ℕ → V → Type 0) (print : V → List ℕ) (max : ℕ) where
  -- A whole text was read, and the part is its canonical text.
  pub record IsTextPart (r : Reading) (part : List ℕ) : Type 0 where
    pub ended : IsEnded r
    pub unstopped : IsTextUnstopped (TextOf Text) max r.bytes
    pub value : V
    pub spelled : Text r.bytes value
    pub part_is : part ≡ print value

  -- The input ended before a text did.
  pub record IsTextCut (r : Reading) (at : ℕ) : Type 0 where
    pub ended : IsEnded r
    pub unstopped : IsTextUnstopped (TextOf Text) max r.bytes
    pub not_whole : TextOf Text r.bytes → ⊥
    pub at_end : at ≡ length r.bytes

  -- A read failed, and no byte before it stopped the run.
  pub record IsTextFault (r : Reading) : Type 0 where
    pub unstopped : IsTextUnstopped (TextOf Text) max r.bytes
    pub failed : r.failed ≡ true

  -- The input stopped so: by its first byte at fault, or by its end.
  abbrev pub IsTextStop : Reading → Stop → Type 0
  IsTextStop r (stop.Cut at) = IsTextCut r at
  IsTextStop r s = TextStopOf (TextOf Text) max r.bytes s

  -- The outcome that is right for such a text, and the parts that are written before the last line.
  abbrev pub IsTextEnding : Reading → Outcome → List (List ℕ) → Type 0
  IsTextEnding r out.Done parts = (part : List ℕ) × IsTextPart r part × (parts ≡ part ∷ [])
  IsTextEnding r (out.Findings n) parts = ⊥
  IsTextEnding r (out.LeftOut n) parts = ⊥
  IsTextEnding r (out.Stopped s) parts = IsTextStop r s × (parts ≡ [])
  IsTextEnding r out.NotReadable parts = ⊥
  IsTextEnding r out.NotWritable parts = ⊥
  IsTextEnding r out.ReadFault parts = IsTextFault r × (parts ≡ [])
  IsTextEnding r (out.WriteFault n) parts = ⊥
  IsTextEnding r out.OutOfMemory parts = ⊥

  -- The first parts of a run over one text: none, or its one part.
  abbrev pub AreTextParts : Reading → List (List ℕ) → Type 0
  AreTextParts r [] = Unit {0}
  AreTextParts r (part ∷ []) = IsTextPart r part
  AreTextParts r (part ∷ other ∷ parts) = ⊥

  -- Memory was refused for one of the bytes, before any of them stopped the run; or for the part of a whole text.
  abbrev pub WantsMemory : Reading → Type 0
  WantsMemory r = IsTextStarved (TextOf Text) max r.bytes ⊎ ((part : List ℕ) × IsTextPart r part)

  -- Where memory was refused, some first parts, each whole; else the outcome that is right, with its parts.
  abbrev pub IsTextRight : Reading → Outcome → List (List ℕ) → Type 0
  IsTextRight r out.OutOfMemory parts = AreTextParts r parts × WantsMemory r
  IsTextRight r o parts = IsTextEnding r o parts

-- Nothing was read, and nothing is written but the last line of this outcome.
pub record IsIdleRight (wanted : Outcome) (r : Reading) (o : Outcome) (parts : List (List ℕ)) : Type 0 where
  pub outcome : o ≡ wanted
  pub unread : r.bytes ≡ []
  pub none : parts ≡ []

-- By the form that the file's name has in the table. Where it has none, the outcome is the wanted one, before any read.
abbrev pub IsFormRight : {F : Type 0} → Outcome → (F → Reading → Outcome → List (List ℕ) → Type 0) → Option F → Reading → Outcome → List (List ℕ) → Type 0
IsFormRight wanted Right None r o parts = IsIdleRight wanted r o parts
IsFormRight wanted Right (Some form) r o parts = Right form r o parts

-- One file, and one write.
abbrev pub IsFileRight : Option ReadForm → ℕ → Reading → Outcome → List (List ℕ) → Type 0
IsFileRight form max = IsFormRight out.NotReadable (λ kind. IsTextRight (λ text v. KindText kind v text) print_of max) form

abbrev pub IsWriteRight : Option WriteForm → ℕ → Reading → Outcome → List (List ℕ) → Type 0
IsWriteRight form max = IsFormRight out.NotWritable (λ kind. IsTextRight (λ text s. WriteText kind s text) print_setting_of max) form

-- The list of the kinds, for which nothing is read.
pub record IsListRight (profile : Profile) (r : Reading) (o : Outcome) (parts : List (List ℕ)) : Type 0 where
  pub outcome : o ≡ out.Done
  pub unread : r.bytes ≡ []
  pub lines : parts ≡ kinds_lines profile

-- A snapshot: a part for each entry that the bytes close, and at the end for each of the whole.
abbrev pub IsSnapshotRight : (EntryData → List ℕ) → Profile → Limits → Reading → Outcome → List (List ℕ) → Type 0
IsSnapshotRight part profile limits = IsStreamRight
    (DoneOf part (λ bytes es. SnapText profile es bytes)) (PartsOf part (λ bytes es. Closed profile bytes es))
    (IsSnapUnstopped profile limits) (SnapStopOf profile limits)

-- A snapshot that is checked: at its end a line for each finding, and nothing before.
abbrev pub IsFoundRight : Profile → Limits → Reading → Outcome → List (List ℕ) → Type 0
IsFoundRight profile limits = IsCheckRight
    (WholeOf finding_lines found_outcome (λ bytes es. SnapText profile es bytes)) HasNoParts (IsSnapUnstopped profile limits) (SnapStopOf profile limits)

-- By whether what is at fault is left out, and the rest is gone on with; and then by whether what is at fault is explained, behind
-- the line of what is left out, but no line of JSON.
abbrev pub IsShowRight : (keep_going explain : Bool) → Profile → Limits → Reading → Outcome → List (List ℕ) → Type 0
IsShowRight false explain = IsSnapshotRight shown_part
IsShowRight true explain = IsGoneOnRight shown_told explain

abbrev pub IsJsonRight : (keep_going : Bool) → Profile → Limits → Reading → Outcome → List (List ℕ) → Type 0
IsJsonRight false = IsSnapshotRight json_part
IsJsonRight true = IsGoneOnRight json_told false

abbrev pub IsCheckedRight : (keep_going explain : Bool) → Profile → Limits → Reading → Outcome → List (List ℕ) → Type 0
IsCheckedRight false explain = IsFoundRight
IsCheckedRight true explain = IsGoneOnChecked explain

-- A plan: a part for each item, once its record has ended.
abbrev pub IsPlanRight : (ItemData → List ℕ) → Profile → Limits → Reading → Outcome → List (List ℕ) → Type 0
IsPlanRight part profile limits = IsStreamRight
    (DoneOf part (λ bytes items. PlanText profile items bytes)) (PartsOf part (λ bytes items. ClosedPlan profile bytes items))
    (IsPlanUnstopped profile limits) (PlanStopOf profile limits)

-- The outcome that is right for what was read, with the parts that are written before the last line.
abbrev pub IsRightOf : Options → Profile → Command → Limits → Reading → Outcome → List (List ℕ) → Type 0
IsRightOf options profile (command.File name) limits r o parts = IsFileRight (read_form_of profile name.items) limits.max_stream r o parts
IsRightOf options profile (command.Setting name) limits r o parts = IsWriteRight (write_form_of profile name.items) limits.max_stream r o parts
IsRightOf options profile command.Kinds limits r o parts = IsListRight profile r o parts
IsRightOf options profile command.Show limits r o parts = IsShowRight options.keep_going options.explain profile limits r o parts
IsRightOf options profile command.Json limits r o parts = IsJsonRight options.keep_going profile limits r o parts
IsRightOf options profile command.Check limits r o parts = IsCheckedRight options.keep_going options.explain profile limits r o parts
IsRightOf options profile command.Plan limits r o parts = IsPlanRight item_part profile limits r o parts

-- ... without an option.
abbrev pub IsRight : Profile → Command → Limits → Reading → Outcome → List (List ℕ) → Type 0
IsRight = IsRightOf (record { explain = false; keep_going = false })

-- What a run did: the bytes that it read, the outcome that is right for them with its parts, and what it wrote of these
-- and the last line. Right says which outcome is, of a reading.
pub record DidRun (Right : Reading → Outcome → List (List ℕ) → Type 0) (coming left : Option (List ℕ)) (read_failed : Bool)
    (taken now : Option (List ℕ)) (write_failed : Bool) (o : Outcome) : Type 0 where
  pub read : List ℕ
  pub consumed : Consumes coming left read
  pub wanted : Outcome
  pub parts : List (List ℕ)
  pub right : Right (record { bytes = read; left = left; failed = read_failed }) wanted parts
  pub wrote : Wrote taken now write_failed (joined parts ++ last_line wanted) wanted o

-- The same, where Tells says what is written behind the last line.
pub record DidRunWith (Right : Reading → Outcome → List (List ℕ) → Type 0) (Tells : Reading → Outcome → List ℕ → Type 0) (coming left : Option (List ℕ)) (read_failed : Bool)
    (taken now : Option (List ℕ)) (write_failed : Bool) (o : Outcome) : Type 0 where
  pub read : List ℕ
  pub consumed : Consumes coming left read
  pub wanted : Outcome
  pub parts : List (List ℕ)
  pub right : Right (record { bytes = read; left = left; failed = read_failed }) wanted parts
  pub more : List ℕ
  pub tells : Tells (record { bytes = read; left = left; failed = read_failed }) wanted more
  pub wrote : Wrote taken now write_failed (joined parts ++ (last_line wanted ++ more)) wanted o

-- What is written behind the last line of a command's run: of a file and of a write, by the form that the name has.
abbrev pub TellsOfForm : {F : Type 0} → (F → Reading → Outcome → List ℕ → Type 0) → Option F → Reading → Outcome → List ℕ → Type 0
TellsOfForm Tells None r o more = more ≡ []
TellsOfForm Tells (Some form) r o more = Tells form r o more

abbrev pub TellsOfFile : (explain : Bool) (name : List ℕ) → Option ReadForm → Reading → Outcome → List ℕ → Type 0
TellsOfFile explain name = TellsOfForm (λ kind. Tells (ExplainsNext (TextOf (λ text v. KindText kind v text)) (IsInText name)) explain)

abbrev pub TellsOfWrite : (explain : Bool) (name : List ℕ) → Option WriteForm → Reading → Outcome → List ℕ → Type 0
TellsOfWrite explain name = TellsOfForm (λ kind. Tells (ExplainsNext (TextOf (λ text s. WriteText kind s text)) (IsInText name)) explain)

-- ... and of a snapshot.
abbrev pub TellsOfSnapshot : (keep_going : Bool) → Profile → Limits → (explain : Bool) → Reading → Outcome → List ℕ → Type 0
TellsOfSnapshot false profile limits = Tells (ExplainsNext (Snap profile) IsInRecord)
TellsOfSnapshot true profile limits = Tells (ExplainsOn profile limits)

abbrev pub TellsOf : Profile → Command → Limits → Options → Reading → Outcome → List ℕ → Type 0
TellsOf profile (command.File name) limits options r o more = TellsOfFile options.explain name.items (read_form_of profile name.items) r o more
TellsOf profile (command.Setting name) limits options r o more = TellsOfWrite options.explain name.items (write_form_of profile name.items) r o more
TellsOf profile command.Kinds limits options r o more = more ≡ []
TellsOf profile command.Show limits options r o more = TellsOfSnapshot options.keep_going profile limits options.explain r o more
TellsOf profile command.Json limits options r o more = TellsOfSnapshot options.keep_going profile limits options.explain r o more
TellsOf profile command.Check limits options r o more = TellsOfSnapshot options.keep_going profile limits options.explain r o more
TellsOf profile command.Plan limits options r o more = Tells (ExplainsNext (Plan profile) IsInRecord) options.explain r o more

-- A whole run of a command.
abbrev pub Ran : Profile → Command → Limits → Option (List ℕ) → Option (List ℕ) → Bool → Option (List ℕ) → Option (List ℕ) → Bool → Outcome → Type 0
Ran profile c limits = DidRun (IsRight profile c limits)

-- ... with the options.
abbrev pub RanWith : Profile → Command → Limits → Options → Option (List ℕ) → Option (List ℕ) → Bool → Option (List ℕ) → Option (List ℕ) → Bool → Outcome → Type 0
RanWith profile c limits options = DidRunWith (IsRightOf options profile c limits) (TellsOf profile c limits options)

-- A command that reads nothing and takes no memory: the list of the kinds, and one that names a file without the form.
abbrev pub IsIdle : Profile → Command → Type 0
IsIdle profile (command.File name) = read_form_of profile name.items ≡ None
IsIdle profile (command.Setting name) = write_form_of profile name.items ≡ None
IsIdle profile command.Show = ⊥
IsIdle profile command.Json = ⊥
IsIdle profile command.Check = ⊥
IsIdle profile command.Plan = ⊥
IsIdle profile command.Kinds = Unit {0}

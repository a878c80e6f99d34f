-- What a decoder's state stands for: the bytes that it consumed, and the entries that it gave.
use Rattle.std.specs.Prelude.{◌≡◌, ◌≢◌, ℕ, List, [], ◌∷◌, ◌++◌, length, Option, Some, None, Result, Ok, Err, Bool, false}
use Rattle.std.specs.Bool.{MatchBool}
use Rattle.std.specs.List.{AllByRecursion}
use Rattle.cg_text.specs.Texts.{Lacks, Viable}
use Rattle.cg_text.specs.Token.{saturated}
use Rattle.cg_value.specs.Entry.{EntryData, IsPath, ReadsAt}
use Rattle.cg_value.specs.Files.{KindFile}
use Rattle.cg_value.specs.Lines.{unlines}
use Rattle.cg_value.specs.Records.{records}
use Rattle.cg_value.specs.declared.kind.ReadForm.{ReadForm}
use Rattle.cg_value.specs.declared.profile.Profile.{Profile}
use Rattle.cg_line.specs.Place.{TakesLine}
use Rattle.cg_line.specs.Reads.{Reads}
use Rattle.cg_snap.specs.Closed.{Closed, EndsOther}
use Rattle.cg_snap.specs.Course.{BreaksAfter, RefusedBy}
use Rattle.cg_snap.specs.PathBytes.{ArePathBytes}
use Rattle.cg_snap.specs.Snap.{Snap, SnapText}
use Rattle.cg_snap.specs.SnapStop.{IsNameless, IsRecordWhy}
use Rattle.cg_snap.specs.declared.present.CurrentEntry.{CurrentEntry}
use Rattle.cg_snap.specs.declared.snapshot_records.SnapshotRecords.{SnapshotRecords}
use Rattle.cg_snap.specs.declared.stop.Why.{Why}
use Rattle.cg_snap.specs.declared.stop.Why.TheVariants as whys

-- The path has a name, and a file there is of this kind.
abbrev pub IsOfKind : Profile → List ℕ → ReadForm → Type 0
IsOfKind profile path kind = (IsNameless path → ⊥) × ReadsAt profile path (Some kind)

-- The kind of the file that a path names to a reader, or why there is none.
abbrev pub IsClass : Profile → List ℕ → Result ReadForm Why → Type 0
IsClass profile path (Ok kind) = IsOfKind profile path kind
IsClass profile path (Err whys.PathByte) = ⊥
IsClass profile path (Err whys.NoName) = IsNameless path
IsClass profile path (Err whys.NotReadable) = (IsNameless path → ⊥) × ReadsAt profile path None
IsClass profile path (Err whys.NotWritable) = ⊥
IsClass profile path (Err whys.NoMoreLines) = ⊥
IsClass profile path (Err whys.Line) = ⊥

-- The line that is begun can be ended so that a file of the kind goes on.
abbrev pub CanEndLine : ReadForm → List (List ℕ) → List ℕ → Type 0
CanEndLine kind lines line = (more : List ℕ) × Lacks 10 more × Viable (KindFile kind) (unlines lines ++ (line ++ (more ++ 10 ∷ [])))

-- No record has ended: all that came is the front of a path.
pub record HasConsumedAPath (begun p : List ℕ) (es : List EntryData) : Type 0 where
  pub none : es ≡ []
  pub bytes : p ≡ begun
  pub begun_path : ArePathBytes begun

-- After the entries that were given came whole records of the present one, and then the front of a path.
pub record HasConsumedInPath (profile : Profile) (begun : List ℕ) (x : CurrentEntry) (p : List ℕ) (es : List EntryData) : Type 0 where
  pub given : List ℕ
  pub lines : List (List ℕ)
  pub kind : ReadForm
  pub split : p ≡ given ++ (records x.path.items lines ++ begun)
  pub entries : SnapText profile es given
  pub other : EndsOther es x.path.items
  pub good : IsPath x.path.items
  pub reads_at : ReadsAt profile x.path.items (Some kind)
  pub some : lines ≢ []
  pub plain : AllByRecursion (Lacks 10) lines
  pub reads : Reads x.reader kind (unlines lines)
  pub begun_path : ArePathBytes begun
  pub count : x.lines ≡ saturated (length lines)

-- After the entries that were given came whole records of the present one, also none, and then its path, a NUL, and the
-- front of a line.
pub record HasConsumedInLine (profile : Profile) (begun : List ℕ) (x : CurrentEntry) (p : List ℕ) (es : List EntryData) : Type 0 where
  pub given : List ℕ
  pub lines : List (List ℕ)
  pub line : List ℕ
  pub kind : ReadForm
  pub split : p ≡ given ++ (records x.path.items lines ++ (x.path.items ++ 0 ∷ line))
  pub entries : SnapText profile es given
  pub other : EndsOther es x.path.items
  pub good : IsPath x.path.items
  pub reads_at : ReadsAt profile x.path.items (Some kind)
  pub plain : AllByRecursion (Lacks 10) lines
  pub plain_line : Lacks 10 line
  pub reads : Reads x.reader kind (unlines lines ++ line)
  pub goes : CanEndLine kind lines line
  pub nothing_begun : begun ≡ []
  pub count : x.lines ≡ saturated (length lines)

-- The bytes p came, and the entries es were given.
abbrev pub HasConsumed : Profile → List ℕ → Option CurrentEntry → List ℕ → List EntryData → Type 0
HasConsumed profile begun None p es = HasConsumedAPath begun p es
HasConsumed profile begun (Some x) p es = MatchBool x.in_line (HasConsumedInLine profile begun x p es) (HasConsumedInPath profile begun x p es)

-- The same where no line is begun.
abbrev pub HasConsumedBetween : Profile → List ℕ → Option CurrentEntry → List ℕ → List EntryData → Type 0
HasConsumedBetween profile begun None p es = HasConsumedAPath begun p es
HasConsumedBetween profile begun (Some x) p es = HasConsumedInPath profile begun x p es

-- No line is begun.
abbrev pub IsBetween : Option CurrentEntry → Type 0
IsBetween None = Unit {0}
IsBetween (Some x) = x.in_line ≡ false

abbrev pub IsLineFlag : Option CurrentEntry → Bool → Type 0
IsLineFlag None flag = flag ≡ false
IsLineFlag (Some x) flag = flag ≡ x.in_line

-- How many records have ended of the entry of the path that is begun.
abbrev pub IsLineCount : List ℕ → Option CurrentEntry → ℕ → Type 0
IsLineCount begun None n = n ≡ 0
IsLineCount begun (Some x) n = (x.path.items ≡ begun → n ≡ x.lines) × ((x.path.items ≡ begun → ⊥) → n ≡ 0)

-- The rule that a byte breaks after p.
abbrev pub IsWhyAfter : Profile → List ℕ → ℕ → Why → Type 0
IsWhyAfter profile = BreaksAfter (IsRecordWhy profile)

-- Why the byte can't come after p, none where it can.
abbrev pub RefusalIs : Profile → List ℕ → ℕ → Option Why → Type 0
RefusalIs profile = RefusedBy (Snap profile) (IsRecordWhy profile)

-- The path that is begun is that of the present entry, whose file takes no further line; and otherwise, where it is, it takes one.
abbrev pub IsOver : List ℕ → Option CurrentEntry → Type 0
IsOver begun None = ⊥
IsOver begun (Some x) = (x.path.items ≡ begun) × ((kind : ReadForm) (taken : List ℕ) → Reads x.reader kind taken → TakesLine kind taken → ⊥)

abbrev pub TakesMore : List ℕ → Option CurrentEntry → Type 0
TakesMore begun None = Unit {0}
TakesMore begun (Some x) = x.path.items ≡ begun → (kind : ReadForm) (taken : List ℕ) → Reads x.reader kind taken → TakesLine kind taken

-- The records are of this profile, consumed the bytes p and gave the entries es; so these are closed, and some snapshot goes on.
pub record HasTakenRecords (s : SnapshotRecords) (profile : Profile) (p : List ℕ) (es : List EntryData) : Type 0 where
  pub profile_is : s.profile ≡ profile
  pub at : HasConsumed profile s.begun.items s.present p es
  pub closed : Closed profile p es
  pub goes_on : Viable (Snap profile) p

pub records_closed : (s : SnapshotRecords) (profile : Profile) (p : List ℕ) (es : List EntryData) → HasTakenRecords s profile p es → Closed profile p es
records_closed s profile p es h = h.closed

pub records_go_on : (s : SnapshotRecords) (profile : Profile) (p : List ℕ) (es : List EntryData) → HasTakenRecords s profile p es → Viable (Snap profile) p
records_go_on s profile p es h = h.goes_on

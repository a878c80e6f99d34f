-- The stop of a snapshot: which rule a byte breaks, and which limits end a stream.
use Rattle.std.specs.Prelude.{◌≡◌, ℕ, ◌≤◌, ◌⊎◌, List, [], ◌∷◌, ◌++◌, length, Some, None}
use Rattle.std.specs.List.{AllByRecursion}
use Rattle.cg_text.specs.Texts.{Lacks}
use Rattle.cg_value.specs.Entry.{EntryData, IsPath, ReadsAt}
use Rattle.cg_value.specs.Records.{records}
use Rattle.cg_value.specs.declared.kind.ReadForm.{ReadForm}
use Rattle.cg_value.specs.declared.profile.Profile.{Profile}
use Rattle.cg_snap.specs.Closed.{EndsOther}
use Rattle.cg_snap.specs.Snap.{Snap, SnapText}
use Rattle.cg_snap.specs.StreamStop.{IsStreamUnstopped, StreamStopOf}
use Rattle.cg_snap.specs.declared.limits.Limits.{Limits}
use Rattle.cg_snap.specs.declared.stop.Stop.{Stop}
use Rattle.cg_snap.specs.declared.stop.Why.{Why}
use Rattle.cg_snap.specs.declared.stop.Why.TheVariants.{PathByte, NoName, NotReadable, NotWritable, NoMoreLines, Line}

-- A path without a name: it is empty or ends with '/'.
abbrev pub IsNameless : List ℕ → Type 0
IsNameless path = (path ≡ []) ⊎ ((front : List ℕ) × (path ≡ front ++ 47 ∷ []))

-- What is wrong with a byte after what came of its record: a newline in a path; a NUL after a path without a name, or
-- after that of a file that can't be read, or after one that can; or a byte after the record's NUL.
abbrev pub IsRecordWhy : Profile → List ℕ → ℕ → Why → Type 0
IsRecordWhy profile begun byte PathByte = Lacks 0 begun × (byte ≡ 10)
IsRecordWhy profile begun byte NoName = Lacks 0 begun × (byte ≡ 0) × IsNameless begun
IsRecordWhy profile begun byte NotReadable = Lacks 0 begun × (byte ≡ 0) × (IsNameless begun → ⊥) × ReadsAt profile begun None
IsRecordWhy profile begun byte NotWritable = ⊥
IsRecordWhy profile begun byte NoMoreLines = Lacks 0 begun × (byte ≡ 0) × (IsNameless begun → ⊥) × ((kind : ReadForm) × ReadsAt profile begun (Some kind))
IsRecordWhy profile begun byte Line = (path : List ℕ) × (line : List ℕ) × (begun ≡ path ++ 0 ∷ line)

-- The last byte is a NUL with which its entry has more records than the limit.
pub record IsManyRecords (profile : Profile) (max : ℕ) (text : List ℕ) (place : ℕ) : Type 0 where
  pub es : List EntryData
  pub given : List ℕ
  pub path : List ℕ
  pub lines : List (List ℕ)
  pub whole : text ≡ given ++ (records path lines ++ (path ++ 0 ∷ []))
  pub entries : SnapText profile es given
  pub good : IsPath path
  pub other : EndsOther es path
  pub plain : AllByRecursion (Lacks 10) lines
  pub many : max ≤ length lines

-- No byte of the stream stops it; and the first that does stops it so.
abbrev pub IsSnapUnstopped : Profile → Limits → List ℕ → Type 0
IsSnapUnstopped profile limits text = IsStreamUnstopped (Snap profile) (IsRecordWhy profile) (IsManyRecords profile) limits text

abbrev pub SnapStopOf : Profile → Limits → List ℕ → Stop → Type 0
SnapStopOf profile limits text stop = StreamStopOf (Snap profile) (IsRecordWhy profile) (IsManyRecords profile) limits text stop

-- An entry as another profile reads it: raw lines are read there by the kind of their file.
use Rattle.std.specs.Prelude.{◌≡◌, ◌≢◌, ℕ, ◌+◌, ◌<◌, ◌≤◌, List, [], ◌∷◌, ◌++◌, length, take, get_or, Some, Result, Ok, Err}
use Rattle.cg_text.specs.Texts.{FirstBad}
use Rattle.cg_value.specs.Entry.{EntryData, ReadsAt}
use Rattle.cg_value.specs.Files.{KindFile, ReadLines}
use Rattle.cg_value.specs.Lines.{unlines}
use Rattle.cg_value.specs.declared.kind.ReadForm.{ReadForm}
use Rattle.cg_value.specs.declared.kind.ReadForm.TheVariants.{Raw as RawForm}
use Rattle.cg_value.specs.declared.profile.Profile.{Profile}
use Rattle.cg_value.specs.declared.profile.Profile.TheVariants.{One, Two, Kernel}
use Rattle.cg_value.specs.declared.value.Value.{Value}
use Rattle.cg_value.specs.declared.value.Value.TheVariants.{Raw}
use Rattle.cg_line.specs.Decode.{IsStarved}
use Rattle.cg_line.specs.Reads.{Reads}
use Rattle.cg_line.specs.declared.push.PushFault.{PushFault}
use Rattle.cg_line.specs.declared.push.PushFault.TheVariants as push
use Rattle.cg_line.specs.declared.reader.ValueReader.{ValueReader}
use Rattle.cg_line.specs.declared.upgrading.UpgradeFault.{UpgradeFault}
use Rattle.cg_line.specs.declared.upgrading.UpgradeFault.TheVariants.{Line, OutOfMemory}

-- The profile is the other, or comes before it.
abbrev pub IsBefore : Profile → Profile → Type 0
IsBefore One to = Unit {0}
IsBefore Two One = ⊥
IsBefore Two Two = Unit {0}
IsBefore Two Kernel = Unit {0}
IsBefore Kernel One = ⊥
IsBefore Kernel Two = ⊥
IsBefore Kernel Kernel = Unit {0}

-- The entry has these raw lines, and a file of its path is of this kind in the profile, which isn't raw.
pub record AreToRead (to : Profile) (e : EntryData) (kind : ReadForm) (lines : List (List ℕ)) : Type 0 where
  pub reads : ReadsAt to e.path (Some kind)
  pub typed : kind ≢ RawForm
  pub raw : e.value ≡ Raw lines

-- The entry in the profile: there these lines are read by the kind; every other entry is itself.
pub record IsUp (to : Profile) (e f : EntryData) : Type 0 where
  pub read : (kind : ReadForm) (lines : List (List ℕ)) → AreToRead to e kind lines → (f.path ≡ e.path) × ReadLines kind f.value lines
  pub same : ((kind : ReadForm) (lines : List (List ℕ)) → AreToRead to e kind lines → ⊥) → f ≡ e

-- Of these lines, each with its newline, the first byte after which no text of the set goes on stands at this place in this
-- line. The place of a newline is its line's length.
pub record IsBadIn (L : List ℕ → Type 0) (lines : List (List ℕ)) (line at : ℕ) : Type 0 where
  pub within : line < length lines
  pub in_line : at ≤ length (get_or lines line [])
  pub bad : FirstBad L (unlines lines) (length (unlines (take line lines)) + at)

-- The entry is none of the profile: of its raw lines this is the first bad byte.
pub record IsLineFault (to : Profile) (e : EntryData) (line at : ℕ) : Type 0 where
  pub kind : ReadForm
  pub lines : List (List ℕ)
  pub read : AreToRead to e kind lines
  pub bad : IsBadIn (KindFile kind) lines line at
  pub no_up : (f : EntryData) → IsUp to e f → ⊥

-- The entry in the profile, which is the only one; or the first bad byte of its raw lines; or memory was refused, where the entry
-- has raw lines to be read at a byte with which some file goes on.
abbrev pub IsUpgraded : Profile → EntryData → Result EntryData UpgradeFault → Type 0
IsUpgraded to e (Ok f) = IsUp to e f × ((g : EntryData) → IsUp to e g → g ≡ f)
IsUpgraded to e (Err (Line line at)) = IsLineFault to e line at
IsUpgraded to e (Err OutOfMemory) = (kind : ReadForm) (lines : List (List ℕ)) → AreToRead to e kind lines → IsStarved (KindFile kind) (unlines lines)

-- ---- The raw lines read

-- Why the byte at a place of a line was not taken.
abbrev pub fault_in : PushFault → ℕ → ℕ → UpgradeFault
fault_in push.Refused line at = Line line at
fault_in push.OutOfMemory line at = OutOfMemory

-- After these bytes the line of this number was taken with its newline; or the first bad byte of them is told; or memory was
-- refused before it.
abbrev pub IsLineTaken : ReadForm → ValueReader → List ℕ → ℕ → List ℕ → Result (Unit {0}) UpgradeFault → Type 0
IsLineTaken kind r before number line (Ok u) = Reads r kind (before ++ (line ++ 10 ∷ []))
IsLineTaken kind r before number line (Err (Line n at)) = (n ≡ number) × (at ≤ length line) × FirstBad (KindFile kind) (before ++ (line ++ 10 ∷ [])) (length before + at)
IsLineTaken kind r before number line (Err OutOfMemory) = IsStarved (KindFile kind) (before ++ (line ++ 10 ∷ []))

-- Why not all lines were taken.
abbrev pub IsLinesFault : ReadForm → List (List ℕ) → UpgradeFault → Type 0
IsLinesFault kind lines (Line line at) = IsBadIn (KindFile kind) lines line at
IsLinesFault kind lines OutOfMemory = IsStarved (KindFile kind) (unlines lines)

abbrev pub AreLinesTaken : ReadForm → ValueReader → List (List ℕ) → Result (Unit {0}) UpgradeFault → Type 0
AreLinesTaken kind r lines (Ok u) = Reads r kind (unlines lines)
AreLinesTaken kind r lines (Err fault) = IsLinesFault kind lines fault

-- The value that they spell, or why they spell none.
abbrev pub AreLinesRead : ReadForm → List (List ℕ) → Result Value UpgradeFault → Type 0
AreLinesRead kind lines (Ok v) = ReadLines kind v lines
AreLinesRead kind lines (Err fault) = IsLinesFault kind lines fault

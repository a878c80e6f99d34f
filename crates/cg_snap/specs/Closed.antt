-- The entries that the bytes of a snapshot close, what is begun after them, and how much of that may be held.
use Rattle.std.specs.Prelude.{◌≡◌, ◌≢◌, ℕ, ◌+◌, ◌≤◌, ◌⊎◌, List, [], ◌∷◌, ◌++◌, length, Some}
use Rattle.std.specs.List.{AllByRecursion}
use Rattle.cg_text.specs.Texts.{Lacks}
use Rattle.cg_value.specs.Entry.{EntryData, IsPath, ReadsAt}
use Rattle.cg_value.specs.Files.{ReadLines}
use Rattle.cg_value.specs.Held.{held_of_lines}
use Rattle.cg_value.specs.Records.{records}
use Rattle.cg_value.specs.declared.kind.ReadForm.{ReadForm}
use Rattle.cg_value.specs.declared.profile.Profile.{Profile}
use Rattle.cg_value.specs.declared.value.Value.{Value}
use Rattle.cg_snap.specs.Begun.{IsBegun}
use Rattle.cg_snap.specs.Snap.{SnapText}

-- Whole records of one path, and then what came of another record, which has this path where its NUL came.
pub record AreOfPath (path bytes : List ℕ) : Type 0 where
  pub lines : List (List ℕ)
  pub begun : List ℕ
  pub split : bytes ≡ records path lines ++ begun
  pub plain : AllByRecursion (Lacks 10) lines
  pub last : (Lacks 0 begun × Lacks 10 begun) ⊎ ((line : List ℕ) × Lacks 10 line × (begun ≡ path ++ 0 ∷ line))

-- The last entry, if there is one, has another path.
abbrev pub EndsOther : List EntryData → List ℕ → Type 0
EndsOther [] path = Unit {0}
EndsOther (e ∷ []) path = e.path ≢ path
EndsOther (e ∷ f ∷ es) path = EndsOther (f ∷ es) path

-- The bytes are the text of these entries, and then bytes of one path. Where there are such entries its NUL came, and it
-- differs from the path of the last.
pub record Closed (profile : Profile) (bytes : List ℕ) (es : List EntryData) : Type 0 where
  pub given : List ℕ
  pub present : List ℕ
  pub path : List ℕ
  pub split : bytes ≡ given ++ present
  pub entries : SnapText profile es given
  pub good : IsPath path
  pub of_path : AreOfPath path present
  pub begun : es ≢ [] → (back : List ℕ) × (present ≡ path ++ 0 ∷ back)
  pub other : EndsOther es path

-- What the whole records of the present entry may hold: nothing where there are none, else its path and its lines.
abbrev pub MayHold : Profile → List ℕ → List (List ℕ) → ℕ → Type 0
MayHold profile path [] n = n ≡ 0
MayHold profile path (line ∷ lines) n = (kind : ReadForm) × (v : Value)
    × ReadsAt profile path (Some kind) × ReadLines kind v (line ∷ lines) × (n ≡ length path + held_of_lines v (line ∷ lines))

-- So much may be held after the bytes: the record that is begun, and the whole records of the present entry.
abbrev pub IsHeldFor : Profile → List ℕ → List EntryData → ℕ → Type 0
IsHeldFor profile bytes es n = (c : Closed profile bytes es) × (begun : List ℕ) × (whole : ℕ)
    × IsBegun bytes begun × MayHold profile c.path c.of_path.lines whole × (n ≤ length begun + whole)

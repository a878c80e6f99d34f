-- What a snapshot is: entries one after another, and for each of an entry's lines a record (grep manual, "-r" and "-Z": the
-- file's name, a NUL and a line that matched; cgroup-v2.rst, "Interface Files", for the lines).
use Rattle.std.specs.Prelude.{◌≡◌, ◌≢◌, ℕ, List, [], ◌∷◌, ◌++◌, Some}
use Rattle.cg_text.specs.Texts.{TextOf}
use Rattle.cg_value.specs.Entry.{EntryData, ReadsAt}
use Rattle.cg_value.specs.Files.{ReadLines}
use Rattle.cg_value.specs.Records.{records}
use Rattle.cg_value.specs.declared.kind.ReadForm.{ReadForm}
use Rattle.cg_value.specs.declared.profile.Profile.{Profile}

-- The lines, at least one, spell the entry's value as a file at the entry's path. (The path of an entry is good.)
pub record AreEntryLines (profile : Profile) (e : EntryData) (lines : List (List ℕ)) : Type 0 where
  pub kind : ReadForm
  pub reads : ReadsAt profile e.path (Some kind)
  pub some : lines ≢ []
  pub spelled : ReadLines kind e.value lines

-- The first entry, if there is one, has another path.
abbrev pub StartsOther : List ℕ → List EntryData → Type 0
StartsOther path [] = Unit {0}
StartsOther path (e ∷ es) = e.path ≢ path

-- The text is the snapshot of these entries: the records of each, in order, and no two adjacent paths are the same.
abbrev pub SnapText : Profile → List EntryData → List ℕ → Type 0
SnapText profile [] text = text ≡ []
SnapText profile (e ∷ es) text = (lines : List (List ℕ)) × (rest : List ℕ)
    × AreEntryLines profile e lines × StartsOther e.path es × (text ≡ records e.path lines ++ rest) × SnapText profile es rest

-- The snapshots of a profile.
abbrev pub Snap : Profile → List ℕ → Type 0
Snap profile = TextOf (λ text es. SnapText profile es text)

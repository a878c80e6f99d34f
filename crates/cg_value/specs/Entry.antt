-- Entries of a snapshot and items of a plan: a path with what its file holds, or with what is to be written to it.
use Rattle.std.specs.Prelude.{◌≡◌, ◌≢◌, ℕ, ◌<◌, List, [], ◌∷◌, ◌++◌, All, Option, Some}
use Rattle.cg_value.specs.Files.{Fits}
use Rattle.cg_value.specs.Path.{IsNameOf}
use Rattle.cg_value.specs.Print.{print_lines}
use Rattle.cg_value.specs.Settings.{FitsWrite}
use Rattle.cg_value.specs.Table.{read_form_of, write_form_of}
use Rattle.cg_value.specs.declared.kind.ReadForm.{ReadForm}
use Rattle.cg_value.specs.declared.kind.WriteForm.{WriteForm}
use Rattle.cg_value.specs.declared.profile.Profile.{Profile}
use Rattle.cg_value.specs.declared.setting.Setting.{Setting}
use Rattle.cg_value.specs.declared.value.Value.{Value}

-- A byte that is neither NUL nor a newline.
abbrev pub IsPathByte : ℕ → Type 0
IsPathByte byte = (0 < byte) × (byte < 256) × (byte ≢ 10)

-- One or more such bytes, the last of them no '/'.
pub record IsPath (path : List ℕ) : Type 0 where
  pub bytes : All IsPathByte path
  pub front : List ℕ
  pub last : ℕ
  pub ends : path ≡ front ++ last ∷ []
  pub named : last ≢ 47

-- What a file at the path holds when it is read, none where it can't be.
pub record ReadsAt (profile : Profile) (path : List ℕ) (form : Option ReadForm) : Type 0 where
  pub name : List ℕ
  pub name_is : IsNameOf path name
  pub form_is : read_form_of profile name ≡ form

pub record WritesAt (profile : Profile) (path : List ℕ) (form : Option WriteForm) : Type 0 where
  pub name : List ℕ
  pub name_is : IsNameOf path name
  pub form_is : write_form_of profile name ≡ form

-- The path is good, and the file there can hold the value, with at least one line.
pub record IsEntry (profile : Profile) (path : List ℕ) (v : Value) : Type 0 where
  pub good : IsPath path
  pub kind : ReadForm
  pub reads : ReadsAt profile path (Some kind)
  pub fits : Fits kind v
  pub some_line : print_lines v ≢ []

-- The path is good, and a write of the file there can hold the setting.
pub record IsItem (profile : Profile) (path : List ℕ) (s : Setting) : Type 0 where
  pub good : IsPath path
  pub kind : WriteForm
  pub writes : WritesAt profile path (Some kind)
  pub fits : FitsWrite kind s

-- The parts are an entry, or an item, of some profile. Its truncation says that there is one.
abbrev pub IsSomeEntry : List ℕ → Value → Type 0
IsSomeEntry path v = ∥ ((profile : Profile) × IsEntry profile path v) ∥₁

abbrev pub IsSomeItem : List ℕ → Setting → Type 0
IsSomeItem path s = ∥ ((profile : Profile) × IsItem profile path s) ∥₁

-- What contracts see of an entry and of an item: their parts, and that these fit, whoever made it.
pub record EntryData : Type 0 where
  pub path : List ℕ
  pub value : Value
  pub fits : IsSomeEntry path value

pub record ItemData : Type 0 where
  pub path : List ℕ
  pub setting : Setting
  pub fits : IsSomeItem path setting

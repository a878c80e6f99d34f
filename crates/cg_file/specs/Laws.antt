-- The laws of files and their values, over their definitions alone.
use Rattle.std.specs.Prelude.{◌≡◌, ℕ, ◌↔◌, List, Some}
use Rattle.cg_value.specs.Files.{FileText, Fits, KindText}
use Rattle.cg_value.specs.Kind.{IsReadForm}
use Rattle.cg_value.specs.Print.{print_of}
use Rattle.cg_value.specs.Table.{read_form_of}
use Rattle.cg_value.specs.declared.kind.ReadForm.{ReadForm}
use Rattle.cg_value.specs.declared.profile.Profile.{Profile}
use Rattle.cg_value.specs.declared.value.Value.{Value}

-- A text has one value, as a file of whatever kind.
abbrev pub OneValue : Type 0
OneValue = (form : ReadForm) (text : List ℕ) (v w : Value) → KindText form v text → KindText form w text → v ≡ w

-- The same, as the file of whatever name.
abbrev pub OneValueOfName : Type 0
OneValueOfName = (profile : Profile) (name text : List ℕ) (v w : Value) → FileText profile name v text → FileText profile name w text → v ≡ w

-- The canonical text of a value that fits a kind has this value as a file of the kind, and no other.
abbrev pub ReadBack : Type 0
ReadBack = (form : ReadForm) (v w : Value) → IsReadForm form → Fits form v → KindText form w (print_of v) ↔ (w ≡ v)

-- The same, as the file of a name.
abbrev pub ReadBackOfName : Type 0
ReadBackOfName = (profile : Profile) (name : List ℕ) (form : ReadForm) (v w : Value) → read_form_of profile name ≡ Some form → Fits form v → FileText profile name w (print_of v) ↔ (w ≡ v)

-- The laws of writes and their settings, over their definitions alone.
use Rattle.std.specs.Prelude.{◌≡◌, ℕ, ◌↔◌, List, Some}
use Rattle.cg_value.specs.Kind.{IsWriteForm}
use Rattle.cg_value.specs.Print.{print_setting_of}
use Rattle.cg_value.specs.Settings.{FitsWrite, SettingText, WriteText}
use Rattle.cg_value.specs.Table.{write_form_of}
use Rattle.cg_value.specs.declared.kind.WriteForm.{WriteForm}
use Rattle.cg_value.specs.declared.profile.Profile.{Profile}
use Rattle.cg_value.specs.declared.setting.Setting.{Setting}

-- A text has one setting, as a write of whatever kind.
abbrev pub OneSetting : Type 0
OneSetting = (form : WriteForm) (text : List ℕ) (s t : Setting) → WriteText form s text → WriteText form t text → s ≡ t

-- The same, as a write of a file of whatever name.
abbrev pub OneSettingOfName : Type 0
OneSettingOfName = (profile : Profile) (name text : List ℕ) (s t : Setting) → SettingText profile name s text → SettingText profile name t text → s ≡ t

-- The canonical text of a setting that fits a kind has this setting as a write of the kind, and no other.
abbrev pub ReadBack : Type 0
ReadBack = (form : WriteForm) (s t : Setting) → IsWriteForm form → FitsWrite form s → WriteText form t (print_setting_of s) ↔ (t ≡ s)

-- The same, as a write of a file of a name.
abbrev pub ReadBackOfName : Type 0
ReadBackOfName = (profile : Profile) (name : List ℕ) (form : WriteForm) (s t : Setting) →
    write_form_of profile name ≡ Some form → FitsWrite form s → SettingText profile name t (print_setting_of s) ↔ (t ≡ s)

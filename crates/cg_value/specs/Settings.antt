-- What one write is: a line that spells its setting, and a newline (cgroup-v2.rst, "Interface Files").
use Rattle.std.specs.Prelude.{◌≡◌, ℕ, List, [], ◌∷◌, ◌++◌, Some}
use Rattle.cg_text.specs.Texts.{TextOf}
use Rattle.cg_value.specs.Table.{write_form_of}
use Rattle.cg_value.specs.WriteLine.{WriteLine}
use Rattle.cg_value.specs.declared.kind.WriteForm.{WriteForm}
use Rattle.cg_value.specs.declared.profile.Profile.{Profile}
use Rattle.cg_value.specs.declared.setting.Setting.{Setting}

-- A write of this kind can hold the setting.
pub record FitsWrite (kind : WriteForm) (s : Setting) : Type 0 where
  pub line : List ℕ
  pub spelled : WriteLine kind s line

-- The text is a write of this kind with the setting.
pub record WriteText (kind : WriteForm) (s : Setting) (text : List ℕ) : Type 0 where
  pub line : List ℕ
  pub spelled : WriteLine kind s line
  pub text_is : text ≡ line ++ 10 ∷ []

-- The writes of this kind.
abbrev pub KindWrite : WriteForm → List ℕ → Type 0
KindWrite kind = TextOf (λ text s. WriteText kind s text)

-- The text is the write of a file of this name with the setting.
pub record SettingText (profile : Profile) (name : List ℕ) (s : Setting) (text : List ℕ) : Type 0 where
  pub kind : WriteForm
  pub kind_is : write_form_of profile name ≡ Some kind
  pub spelled : WriteText kind s text

-- The writes of files of this name.
abbrev pub Write : Profile → List ℕ → List ℕ → Type 0
Write profile name = TextOf (λ text s. SettingText profile name s text)

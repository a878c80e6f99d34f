-- What holds of every setting and its writes.
use Rattle.std.specs.Prelude.{ℕ, List}
use Rattle.cg_text.specs.Raw.{IsRawLine}
use Rattle.cg_value.specs.Kind.{IsWriteForm}
use Rattle.cg_value.specs.Print.{print_setting_of}
use Rattle.cg_value.specs.Settings.{FitsWrite, WriteText}
use Rattle.cg_value.specs.WriteLine.{WriteLine}
use Rattle.cg_value.specs.declared.kind.WriteForm.{WriteForm}
use Rattle.cg_value.specs.declared.setting.Setting.{Setting}

-- The canonical text of a setting is a write of each kind that can hold the setting, with this setting.
abbrev pub CanonicalInGrammar : Type 0
CanonicalInGrammar = (kind : WriteForm) (s : Setting) → IsWriteForm kind → FitsWrite kind s → WriteText kind s (print_setting_of s)

-- A written line is of bytes 1 to 255, none a newline.
abbrev pub PlainWrites : Type 0
PlainWrites = (kind : WriteForm) (s : Setting) (line : List ℕ) → WriteLine kind s line → IsRawLine line

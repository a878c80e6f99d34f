-- What holds of the lines of modes.
use Rattle.std.proofs.Common.{ℕ, ◌↔◌, List}
use Rattle.cg_text.specs.Keyword.{text_of}
use Rattle.cg_text.specs.declared.keyword.Keyword.TheVariants as word
use Rattle.cg_join.specs.TextBytes.{IsFixed}
use Rattle.cg_value.specs.Lines.{IsLineOf}
use Rattle.cg_value.specs.WriteLine.{WriteLine}
use Rattle.cg_value.specs.declared.kind.WriteForm.TheVariants as form
use Rattle.cg_value.specs.declared.setting.Setting.{Setting}
use Rattle.cg_value.specs.declared.setting.Setting.TheVariants as setting

pub mode_is : (s : Setting) (line : List ℕ) → WriteLine form.Mode s line ↔ IsLineOf (λ v l. IsFixed (text_of word.Threaded) l v) (λ _. setting.Threaded) s line
mode_is s line = (λ h. record { x = tt; value = h.0; spelled = h.1 }, λ h. (h.value, h.spelled))

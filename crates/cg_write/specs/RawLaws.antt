-- What holds of raw lines.
use Rattle.std.proofs.Common.{ℕ, ◌↔◌, List, sym}
use Rattle.cg_value.specs.Lines.{IsLineOf}
use Rattle.cg_value.specs.WriteLine.{WriteLine}
use Rattle.cg_value.specs.declared.kind.WriteForm.TheVariants as form
use Rattle.cg_value.specs.declared.setting.Setting.{Setting}
use Rattle.cg_value.specs.declared.setting.Setting.TheVariants as setting
use Rattle.cg_write.specs.Texts.{IsOwnLine}

pub raw_is : (s : Setting) (line : List ℕ) → WriteLine form.Raw s line ↔ IsLineOf (λ v l. IsOwnLine l v) setting.Raw s line
raw_is s line = (
  λ h. record { x = h.x; value = h.value; spelled = (let k = h.spelled in (sym k.0, rw k.0 k.1)) },
  λ h. record { x = h.x; value = h.value; spelled = (let k = h.spelled in (sym k.0, rw k.0 k.1)) },
)

-- What a reader of one file kept is the text that its value is printed as.
use Rattle.std.proofs.Common.{◌≡◌, List, ℕ, [], inl, inr, ◌∙◌}
use Rattle.cg_value.specs.Files.{KindText}
use Rattle.cg_value.specs.Kind.{IsReadForm}
use Rattle.cg_value.specs.Print.{print_of}
use Rattle.cg_value.specs.PrintLaws.{text_is_print}
use Rattle.cg_value.specs.declared.kind.ReadForm.{ReadForm}
use Rattle.cg_value.specs.declared.value.Value.{Value}

pub kept_printed : (kind : ReadForm) (v : Value) (taken text : List ℕ) → IsReadForm kind → KindText kind v taken → text ≡ taken → (text ≡ [] → ⊥) → text ≡ print_of v
kept_printed kind v taken text form spelled same some = elim (text_is_print kind v taken form spelled) [
  | inl e ↦ same ∙ e
  | inr e ↦ absurd (some (same ∙ e.no_bytes))
]

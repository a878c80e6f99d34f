-- What holds of the tokens over whole files.
use Rattle.std.proofs.Common.{ℕ, ◌↔◌, List, [], ◌∷◌, refl, sym, ◌∙◌, ap}
use Rattle.cg_join.specs.Line.{IsLine}
use Rattle.cg_join.specs.Spelling.{IsMappedText}
use Rattle.cg_value.specs.Files.{ReadLines, KindText}
use Rattle.cg_value.specs.Lines.{unlines, IsOneLine}
use Rattle.cg_value.specs.declared.kind.ReadForm.{ReadForm}
use Rattle.cg_value.specs.declared.value.Value.{Value}

-- A line by P and its newline, turned into a value, are a file of a kind whose value is one such line.
pub one_is : {X : Type 0} (kind : ReadForm) (P : X → List ℕ → Type 0) (make : X → Value) →
    ((v : Value) (lines : List (List ℕ)) → ReadLines kind v lines ↔ IsOneLine P make v lines) →
    (text : List ℕ) (v : Value) → IsMappedText (IsLine (λ t x. P x t)) (λ x. make x.0) text v ↔ KindText kind v text
one_is kind P make reads text v = (
  λ h. record {
    lines = h.1.front ∷ [];
    spelled = (reads v (h.1.front ∷ [])).1 (record { x = h.0.0; line = h.1.front; value = sym h.2; lines_are = refl; spelled = h.1.spells });
    text_is = h.1.whole;
  },
  λ h. (let one = (reads v h.lines).0 h.spelled in
      ((one.x, tt), record { front = one.line; whole = h.text_is ∙ ap unlines one.lines_are; spells = one.spelled }, sym one.value)),
)

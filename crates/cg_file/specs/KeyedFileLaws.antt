-- What holds of the tokens over files of keyed lines.
use Rattle.std.proofs.Common.{ℕ, ◌↔◌, List, [], ◌∷◌, map, sym, ◌∙◌, append_assoc, false}
use Rattle.std.specs.List.{AllZip}
use Rattle.cg_join.specs.Distinct.{AreDistinct}
use Rattle.cg_join.specs.Keyed.{AreKeyedLines}
use Rattle.cg_join.specs.Pairs.{IsPairText}
use Rattle.cg_join.specs.Spelling.{IsMappedText}
use Rattle.cg_join.specs.WordStartLaws.{SpellsWord}
use Rattle.cg_value.specs.Files.{ReadLines, KindText, IsMadeOf}
use Rattle.cg_value.specs.Lines.{HasParts, IsKey}
use Rattle.cg_value.specs.declared.kind.ReadForm.{ReadForm}
use Rattle.cg_value.specs.declared.value.Value.{Value}
use Rattle.cg_file.specs.ManyFileLaws.{lines_to, lines_from}

-- A pair's text: its key, the delimiter and a text of its value.
module _ {W X : Type 0} (key : X → List ℕ) (value : X → W) (delimiter : ℕ) (Q : W → List ℕ → Type 0) where
  parts_to : (text : List ℕ) (p : X) → IsPairText key value (SpellsWord false) (λ t w. Q w t) delimiter text p → HasParts IsKey (delimiter ∷ []) Q (key p) (value p) text
  parts_to text p h = record {
    front = h.front;
    back = h.back;
    text_is = h.whole ∙ sym (append_assoc h.front (delimiter ∷ []) h.back);
    front_is = (sym h.begins.0, rw h.begins.0 h.begins.1);
    back_is = h.ends;
  }

  parts_from : (text : List ℕ) (p : X) → HasParts IsKey (delimiter ∷ []) Q (key p) (value p) text → IsPairText key value (SpellsWord false) (λ t w. Q w t) delimiter text p
  parts_from text p h = record {
    front = h.front;
    back = h.back;
    whole = h.text_is ∙ append_assoc h.front (delimiter ∷ []) h.back;
    begins = (sym h.front_is.0, rw h.front_is.0 h.front_is.1);
    ends = h.back_is;
  }

  pub key_parts : (text : List ℕ) (p : X) → IsPairText key value (SpellsWord false) (λ t w. Q w t) delimiter text p ↔ HasParts IsKey (delimiter ∷ []) Q (key p) (value p) text
  key_parts text p = (parts_to text p, parts_from text p)

-- Lines by P, no key twice, turned into a value, are a file of a kind whose value is made of such lines.
pub keyed_is : {X : Type 0} (kind : ReadForm) (P : X → List ℕ → Type 0) (key : X → List ℕ) (make : List X → Value) (M : List X → List (List ℕ) → Type 0) →
    ((xs : List X) (lines : List (List ℕ)) → M xs lines ↔ (AllZip P xs lines × AreDistinct (map key xs))) →
    ((v : Value) (lines : List (List ℕ)) → ReadLines kind v lines ↔ IsMadeOf M make v lines) →
    (text : List ℕ) (v : Value) → IsMappedText (AreKeyedLines key (λ t x. P x t) 10) make text v ↔ KindText kind v text
keyed_is kind P key make M made reads text v = (
  λ h. (let k = lines_to P text h.0 h.1.0 in
      record { lines = k.0; spelled = (reads v k.0).1 (record { x = h.0; value = sym h.2; spelled = (made h.0 k.0).1 (k.1, h.1.1) }); text_is = k.2 }),
  λ h. (let all = (reads v h.lines).0 h.spelled in
      let each = (made all.x h.lines).0 all.spelled in
      (all.x, (lines_from P text all.x h.lines each.0 h.text_is, each.1), sym all.value)),
)

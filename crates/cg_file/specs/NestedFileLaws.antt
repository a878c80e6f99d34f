-- What holds of the tokens over nested keyed files.
use Rattle.std.proofs.Common.{ℕ, ◌↔◌, List, [], ◌∷◌, ◌++◌, refl, sym, ◌∙◌, ap, append-nil, false}
use Rattle.cg_text.specs.Decimal.{IsDecimal}
use Rattle.cg_join.specs.Keyed.{AreKeyedLines, IsKeyThen}
use Rattle.cg_join.specs.Pairs.{ArePairs, IsPairText}
use Rattle.cg_join.specs.Pairs as joined
use Rattle.cg_join.specs.Spelling.{IsMappedText}
use Rattle.cg_join.specs.WordStartLaws.{SpellsWord}
use Rattle.cg_value.specs.Files.{KindText}
use Rattle.cg_value.specs.Kind.{any_u64}
use Rattle.cg_value.specs.Lines.{AreLed}
use Rattle.cg_value.specs.ReadLine.{AreNestedLines, IsNestedLine, IsNestedPair}
use Rattle.cg_value.specs.declared.kind.ReadForm.TheVariants.{Nested as NestedForm}
use Rattle.cg_value.specs.declared.value.NestedLine.{NestedLine}
use Rattle.cg_value.specs.declared.value.NestedPair.{NestedPair}
use Rattle.cg_value.specs.declared.value.Value.{Value}
use Rattle.cg_value.specs.declared.value.Value.TheVariants.{Nested}
use Rattle.cg_file.specs.KeyedFileLaws.{key_parts, keyed_is}

-- How lines are turned into a file's value.
abbrev pub nested_value : List NestedLine → Value
nested_value ls = Nested ls

-- Texts with a space before each.
module _ {X : Type 0} (P : X → List ℕ → Type 0) (R : List ℕ → X → Type 0) (is : (text : List ℕ) (x : X) → R text x ↔ P x text) where
  pub led_to : (text : List ℕ) (xs : List X) → joined.AreLed R 32 text xs → AreLed P xs text
  led_to text [] h = h
  led_to text (x ∷ []) h = (h.0, [], h.1 ∙ ap (λ t. 32 ∷ t) (sym (append-nil h.0)), (is h.0 x).0 h.2, refl)
  led_to text (x ∷ y ∷ xs) h = (h.2.0, 32 ∷ h.2.1, h.1 ∙ ap (λ t. 32 ∷ t) h.2.2, (is h.2.0 x).0 h.2.3, led_to (32 ∷ h.2.1) (y ∷ xs) (h.2.1, refl, h.2.4))

  pub led_from : (text : List ℕ) (xs : List X) → AreLed P xs text → joined.AreLed R 32 text xs
  led_from text [] h = h
  led_from text (x ∷ []) h = (h.0, h.2 ∙ ap (λ t. 32 ∷ t) (ap (λ t. h.0 ++ t) h.4 ∙ append-nil h.0), (is h.0 x).1 h.3)
  led_from text (x ∷ y ∷ xs) h =
      let k = led_from h.1 (y ∷ xs) h.4 in
      (h.0 ++ h.1, h.2, (h.0, k.0, ap (λ t. h.0 ++ t) k.1, (is h.0 x).1 h.3, k.2))

-- The text of a pair of a line, and of its pairs.
abbrev pub PairText : List ℕ → NestedPair → Type 0
PairText text p = IsPairText (λ q. q.key) (λ q. q.number) (SpellsWord false) (λ t n. IsDecimal 0 any_u64 n t) 61 text p

abbrev pub PairsText : List ℕ → List NestedPair → Type 0
PairsText text ps = ArePairs (λ q. q.key) PairText 32 text ps

pub pair_is : (text : List ℕ) (p : NestedPair) → PairText text p ↔ IsNestedPair p text
pair_is = key_parts (λ p. p.key) (λ p. p.number) 61 (IsDecimal 0 any_u64)

-- The text of a line.
abbrev pub LineText : List ℕ → NestedLine → Type 0
LineText text l = IsKeyThen (λ k. k.key) (λ k. k.pairs) (SpellsWord false) PairsText text l

line_to : (text : List ℕ) (l : NestedLine) → LineText text l → IsNestedLine l text
line_to text l h = record {
  pairs = h.back;
  line_is = h.whole ∙ ap (λ t. t ++ h.back) (sym h.begins.0);
  key_is = rw h.begins.0 h.begins.1;
  pairs_are = led_to IsNestedPair PairText pair_is h.back l.pairs h.ends.0;
  distinct = h.ends.1;
}

line_from : (text : List ℕ) (l : NestedLine) → IsNestedLine l text → LineText text l
line_from text l h = record {
  front = l.key;
  back = h.pairs;
  whole = h.line_is;
  begins = (refl, h.key_is);
  ends = (led_from IsNestedPair PairText pair_is h.pairs l.pairs h.pairs_are, h.distinct);
}

pub nested_line_is : (text : List ℕ) (l : NestedLine) → LineText text l ↔ IsNestedLine l text
nested_line_is text l = (line_to text l, line_from text l)

pub nested_file_is : (text : List ℕ) (v : Value) → IsMappedText (AreKeyedLines (λ l. l.key) (λ t l. IsNestedLine l t) 10) nested_value text v ↔ KindText NestedForm v text
nested_file_is = keyed_is NestedForm IsNestedLine (λ l. l.key) nested_value AreNestedLines
    (λ xs lines. (λ h. (h.each, h.distinct), λ h. record { each = h.0; distinct = h.1 })) (λ v lines. (λ h. h, λ h. h))

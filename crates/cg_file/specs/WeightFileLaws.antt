-- What holds of the token over files of weights: a line, and any number of others.
use Rattle.std.proofs.Common.{◌≡◌, ℕ, ◌↔◌, Bool, List, [], ◌∷◌, ◌++◌, refl, sym, ◌∙◌, ap, append_assoc, arith}
use Rattle.cg_text.specs.Keyword.{text_of}
use Rattle.cg_text.specs.declared.keyword.Keyword.TheVariants.{Default}
use Rattle.cg_join.specs.CutLaws.{label_is}
use Rattle.cg_join.specs.LackingLaws.{concat_lacking, keyword_lacking, fixed_lacking, decimal_lacking}
use Rattle.cg_join.specs.Lines.{AreLines}
use Rattle.cg_join.specs.Spelling.{IsConcat, IsMappedText, Apart}
use Rattle.cg_join.specs.TextBytes.{IsFixed, Lacking}
use Rattle.cg_value.specs.Files.{KindText}
use Rattle.cg_value.specs.ReadLine.{IsDefaultLine, IsWeightLine}
use Rattle.cg_value.specs.declared.kind.ReadForm.TheVariants.{DeviceWeights as WeightsForm}
use Rattle.cg_value.specs.declared.value.Value.{Value}
use Rattle.cg_value.specs.declared.value.Value.TheVariants.{DeviceWeights}
use Rattle.cg_value.specs.declared.value.WeightLine.{WeightLine}
use Rattle.cg_file.specs.DeviceLineLaws.{NumberText}
use Rattle.cg_file.specs.ManyFileLaws.{lines_to, lines_from}

pub not_empty : (front more : List ℕ) (b : ℕ) → front ++ b ∷ more ≡ [] → ⊥
not_empty [] more b e = cc
not_empty (c ∷ front) more b e = cc

before_end : (front back more : List ℕ) (byte : ℕ) → front ++ 10 ∷ byte ∷ more ≡ back ++ 10 ∷ [] → (m : List ℕ) × (back ≡ front ++ 10 ∷ m)
before_end [] [] more byte e = absurd (cc)
before_end [] (c ∷ back) more byte e = (back, (let s : c ≡ 10 = cc in cc))
before_end (x ∷ front) [] more byte e = absurd (not_empty front (byte ∷ more) 10 (cc))
before_end (x ∷ front) (c ∷ back) more byte e =
    let s : c ≡ x = cc in
    let k = before_end front back more byte (cc) in
    let t : back ≡ front ++ 10 ∷ k.0 = k.1 in
    (k.0, cc)

-- A line goes on with nothing.
pub ended_apart : {V W : Type 0} {R : List ℕ → V → Type 0} (Q : List ℕ → W → Type 0) → Lacking R 10 → Apart (IsConcat R (IsFixed (10 ∷ []))) Q
ended_apart Q lacks front more back byte v u w h k l =
    let one : front ≡ h.front ++ 10 ∷ [] = rw h.ends at h.whole in
    let two : front ++ byte ∷ more ≡ k.front ++ 10 ∷ [] = rw k.ends at k.whole in
    let cut : h.front ++ 10 ∷ byte ∷ more ≡ k.front ++ 10 ∷ [] = sym (append_assoc h.front (10 ∷ []) (byte ∷ more)) ∙ ap (λ t. t ++ byte ∷ more) (sym one) ∙ two in
    let m = before_end h.front k.front more byte cut in
    lacks.is h.front m.0 (u.0) (rw m.1 at k.begins)

pub line_and_rest : (text front back line rest : List ℕ) → text ≡ front ++ back → front ≡ line ++ 10 ∷ [] → back ≡ rest → text ≡ line ++ 10 ∷ rest
line_and_rest text front back line rest e f g = e ∙ rw (f, g) (append_assoc line (10 ∷ []) rest)

-- ---- Weights

abbrev pub DefaultLine : ℕ → List ℕ → Unit {0} × (Unit {0} × ℕ) → Type 0
DefaultLine most = IsConcat (IsFixed (text_of Default)) (IsConcat (IsFixed (32 ∷ [])) (NumberText 1 most))

abbrev pub DefaultEnded : ℕ → List ℕ → (Unit {0} × (Unit {0} × ℕ)) × Unit {0} → Type 0
DefaultEnded most = IsConcat (DefaultLine most) (IsFixed (10 ∷ []))

abbrev pub WeightLines : ℕ → Bool → List ℕ → List WeightLine → Type 0
WeightLines most kernel = AreLines (λ text line. IsWeightLine most kernel line text) 10

abbrev pub weights_value : ((Unit {0} × (Unit {0} × ℕ)) × Unit {0}) × List WeightLine → Value
weights_value v = DeviceWeights v.0.0.1.1 v.1

pub default_lacks : (most : ℕ) → Lacking (DefaultLine most) 10
default_lacks most = concat_lacking (keyword_lacking Default) (concat_lacking (fixed_lacking 10 (32 ∷ []) refl) (decimal_lacking 10 1 most (omega arith)))

default_to : (most : ℕ) (text : List ℕ) (v : Unit {0} × (Unit {0} × ℕ)) → DefaultLine most text v → IsDefaultLine most v.1.1 text
default_to most text v h =
    let a = (label_is (text_of Default) (IsConcat (IsFixed (32 ∷ [])) (NumberText 1 most)) text v).0 h in
    let b = (label_is (32 ∷ []) (NumberText 1 most) a.0 (v.1)).0 a.2 in
    (b.0, a.1 ∙ ap (λ t. text_of Default ++ t) b.1, b.2)

default_from : (most : ℕ) (text : List ℕ) (n : ℕ) → IsDefaultLine most n text → DefaultLine most text (tt, (tt, n))
default_from most text n h =
    (label_is (text_of Default) (IsConcat (IsFixed (32 ∷ [])) (NumberText 1 most)) text (tt, (tt, n))).1
    (32 ∷ h.0, h.1, (label_is (32 ∷ []) (NumberText 1 most) (32 ∷ h.0) (tt, n)).1 (h.0, refl, h.2))

-- The line of the default, and lines of devices, turned into a value, are a file of weights.
pub weights_are : (most : ℕ) (kernel : Bool) (text : List ℕ) (v : Value) → IsMappedText (IsConcat (DefaultEnded most) (WeightLines most kernel)) weights_value text v ↔ KindText (WeightsForm most kernel) v text
weights_are most kernel text v = (
  λ h. (let ended = h.1.begins in
      let k = lines_to (IsWeightLine most kernel) h.1.back (h.0.1) h.1.ends in
      let front : h.1.front ≡ ended.front ++ 10 ∷ [] = rw ended.ends at ended.whole in
      record {
        lines = ended.front ∷ k.0;
        spelled = record { default = h.0.0.0.1.1; devices = h.0.1; first = ended.front; others = k.0; value = sym h.2; lines_are = refl; first_is = default_to most ended.front (h.0.0.0) ended.begins; others_are = k.1 };
        text_is = line_and_rest text h.1.front h.1.back ended.front _ h.1.whole front k.2;
      }),
  λ h. (let a = h.spelled in
      ((
        (((tt, (tt, a.default)), tt), a.devices),
        record {
          front = a.first ++ 10 ∷ [];
          back = _;
          whole = h.text_is ∙ rw a.lines_are (sym (append_assoc a.first (10 ∷ []) _));
          begins = record { front = a.first; back = 10 ∷ []; whole = refl; begins = default_from most a.first a.default a.first_is; ends = refl };
          ends = lines_from (IsWeightLine most kernel) _ a.devices a.others a.others_are refl;
        },
        sym a.value,
      ))),
)

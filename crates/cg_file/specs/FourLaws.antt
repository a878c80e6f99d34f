-- What holds of four texts in a row, each after a label that begins with a space.
use Rattle.std.proofs.Common.{◌≡◌, ℕ, List, ◌∷◌, ◌++◌, ◌∙◌, refl, sym, append_assoc, arith}
use Rattle.cg_text.specs.Token.{AreBytes}
use Rattle.cg_join.specs.ApartLaws.{fixed_apart, labelled_apart, lacking_apart}
use Rattle.cg_join.specs.BeginsLaws.{concat_begins, label_begins}
use Rattle.cg_join.specs.CutLaws.{lead_is, label_is}
use Rattle.cg_join.specs.FilledLaws.{first_filled, fixed_filled}
use Rattle.cg_join.specs.Spelling.{IsConcat, Apart}
use Rattle.cg_join.specs.TextBytes.{IsFixed, Lacking}
use Rattle.cg_file.specs.StartableLaws.{Startable, concat_startable, fixed_startable}

-- A label and a text.
abbrev pub IsLabelled : {V : Type 0} → List ℕ → (List ℕ → V → Type 0) → List ℕ → Unit {0} × V → Type 0
IsLabelled label R = IsConcat (IsFixed label) R

labelled_startable : {V : Type 0} (label : List ℕ) → AreBytes label → (R : List ℕ → V → Type 0) → Startable R → Startable (IsLabelled (32 ∷ label) R)
labelled_startable label bytes R a = concat_startable (fixed_apart (32 ∷ label) R) (fixed_startable (32 ∷ label) (omega arith, bytes)) a

-- Four labels p, q, r and s, each with a text.
module _ (p q r s a b c d : List ℕ) where
  all_row : (p ++ a) ++ ((q ++ b) ++ ((r ++ c) ++ (s ++ d))) ≡ p ++ a ++ q ++ b ++ r ++ c ++ s ++ d
  all_row = simp append_assoc

  in_row : (text two three four : List ℕ) → text ≡ p ++ a ++ two → two ≡ q ++ b ++ three → three ≡ r ++ c ++ four → four ≡ s ++ d → text ≡ p ++ a ++ q ++ b ++ r ++ c ++ s ++ d
  in_row text two three four e f g h = e ∙ rw (f, g, h) all_row

module _ {A B C D : Type 0} (P : List ℕ → A → Type 0) (Q : List ℕ → B → Type 0) (R : List ℕ → C → Type 0) (S : List ℕ → D → Type 0) (p q r s : List ℕ) where
  abbrev pub AreTwo : List ℕ → (Unit {0} × C) × (Unit {0} × D) → Type 0
  AreTwo = IsConcat (IsLabelled (32 ∷ r) R) (IsLabelled (32 ∷ s) S)

  abbrev pub AreThree : List ℕ → (Unit {0} × B) × ((Unit {0} × C) × (Unit {0} × D)) → Type 0
  AreThree = IsConcat (IsLabelled (32 ∷ q) Q) AreTwo

  abbrev pub AreFour : List ℕ → (Unit {0} × A) × ((Unit {0} × B) × ((Unit {0} × C) × (Unit {0} × D))) → Type 0
  AreFour = IsConcat (IsLabelled (32 ∷ p) P) AreThree

  -- Where the four are cut.
  pub record AreCut (text : List ℕ) (x : A) (y : B) (z : C) (w : D) : Type 0 where
    pub first : List ℕ
    pub second : List ℕ
    pub third : List ℕ
    pub fourth : List ℕ
    pub text_is : text ≡ (32 ∷ p) ++ first ++ (32 ∷ q) ++ second ++ (32 ∷ r) ++ third ++ (32 ∷ s) ++ fourth
    pub first_is : P first x
    pub second_is : Q second y
    pub third_is : R third z
    pub fourth_is : S fourth w

  pub four_to : (text : List ℕ) (v : (Unit {0} × A) × ((Unit {0} × B) × ((Unit {0} × C) × (Unit {0} × D)))) → AreFour text v → AreCut text (v.0.1) (v.1.0.1) (v.1.1.0.1) (v.1.1.1.1)
  four_to text v h =
      let a = (lead_is (32 ∷ p) P AreThree text v).0 h in
      let b = (lead_is (32 ∷ q) Q AreTwo a.1 (v.1)).0 a.4 in
      let c = (lead_is (32 ∷ r) R (IsLabelled (32 ∷ s) S) b.1 (v.1.1)).0 b.4 in
      let d = (label_is (32 ∷ s) S c.1 (v.1.1.1)).0 c.4 in
      record {
        first = a.0;
        second = b.0;
        third = c.0;
        fourth = d.0;
        text_is = in_row (32 ∷ p) (32 ∷ q) (32 ∷ r) (32 ∷ s) a.0 b.0 c.0 d.0 text a.1 b.1 c.1 a.2 b.2 c.2 d.1;
        first_is = a.3;
        second_is = b.3;
        third_is = c.3;
        fourth_is = d.2;
      }

  pub four_from : (text : List ℕ) (x : A) (y : B) (z : C) (w : D) → AreCut text x y z w → AreFour text ((tt, x), ((tt, y), ((tt, z), (tt, w))))
  four_from text x y z w h =
      let three = (32 ∷ s) ++ h.fourth in
      let two = (32 ∷ r) ++ h.third ++ three in
      let one = (32 ∷ q) ++ h.second ++ two in
      let d = (label_is (32 ∷ s) S three (tt, w)).1 (h.fourth, refl, h.fourth_is) in
      let c = (lead_is (32 ∷ r) R (IsLabelled (32 ∷ s) S) two ((tt, z), (tt, w))).1 (h.third, three, refl, h.third_is, d) in
      let b = (lead_is (32 ∷ q) Q AreTwo one ((tt, y), ((tt, z), (tt, w)))).1 (h.second, two, refl, h.second_is, c) in
      (lead_is (32 ∷ p) P AreThree text ((tt, x), ((tt, y), ((tt, z), (tt, w))))).1 (h.first, one, h.text_is ∙ sym (all_row (32 ∷ p) (32 ∷ q) (32 ∷ r) (32 ∷ s) h.first h.second h.third h.fourth), h.first_is, b)

  -- Each stands before the next.
  pub third_apart : Lacking R 32 → Apart (IsLabelled (32 ∷ r) R) (IsLabelled (32 ∷ s) S)
  third_apart lacks = labelled_apart lacks (label_begins 32 s)

  pub second_apart : Lacking Q 32 → Apart (IsLabelled (32 ∷ q) Q) AreTwo
  second_apart lacks = labelled_apart lacks (concat_begins (first_filled (fixed_filled 32 r)) (label_begins 32 r))

  pub first_apart : Lacking P 32 → Apart (IsLabelled (32 ∷ p) P) AreThree
  first_apart lacks = labelled_apart lacks (concat_begins (first_filled (fixed_filled 32 q)) (label_begins 32 q))

  -- A text without a space may stand before them.
  pub before_apart : {V : Type 0} {O : List ℕ → V → Type 0} → Lacking O 32 → Apart O AreFour
  before_apart lacks = lacking_apart lacks (concat_begins (first_filled (fixed_filled 32 p)) (label_begins 32 p))

  module _ (is_p : AreBytes p) (is_q : AreBytes q) (is_r : AreBytes r) (is_s : AreBytes s) where
    pub four_startable : Lacking P 32 → Lacking Q 32 → Lacking R 32 → Startable P → Startable Q → Startable R → Startable S → Startable AreFour
    four_startable f g h a b c d =
        concat_startable (first_apart f) (labelled_startable p is_p P a) (concat_startable (second_apart g) (labelled_startable q is_q Q b) (concat_startable (third_apart h) (labelled_startable r is_r R c) (labelled_startable s is_s S d)))

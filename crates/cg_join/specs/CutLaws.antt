-- Joined texts by relations that hold alike, and where they are cut.
use Rattle.std.proofs.Common.{◌≡◌, ℕ, ◌↔◌, List, [], ◌++◌, Some, None, refl, sym, ◌∙◌, ap, append_assoc}
use Rattle.std.proofs.lemmas.List.{append-nil}
use Rattle.cg_text.specs.Token.{Spells}
use Rattle.cg_join.specs.Maybe.{IsMaybe}
use Rattle.cg_join.specs.Spelling.{IsConcat, IsEither, spells_as}
use Rattle.cg_join.specs.TextBytes.{IsFixed}
use Rattle.cg_join.specs.declared.choice.Either.{Either}
use Rattle.cg_join.specs.declared.choice.Either.TheVariants.{Left, Right}

module _ {V W : Type 0} {P R : List ℕ → V → Type 0} {O Q : List ℕ → W → Type 0} where
  pub concat_as : ((text : List ℕ) (v : V) → P text v ↔ R text v) → ((text : List ℕ) (w : W) → O text w ↔ Q text w) → (text : List ℕ) (v : V × W) → IsConcat P O text v ↔ IsConcat R Q text v
  concat_as e f text v = (
    λ h. record { front = h.front; back = h.back; whole = h.whole; begins = (e h.front v.0).0 h.begins; ends = (f h.back v.1).0 h.ends },
    λ h. record { front = h.front; back = h.back; whole = h.whole; begins = (e h.front v.0).1 h.begins; ends = (f h.back v.1).1 h.ends },
  )

  pub either_as : ((text : List ℕ) (v : V) → P text v ↔ R text v) → ((text : List ℕ) (w : W) → O text w ↔ Q text w) → (text : List ℕ) (v : Either V W) → IsEither P O text v ↔ IsEither R Q text v
  either_as e f text (Left v) = e text v
  either_as e f text (Right w) = f text w

-- A fixed text and a text that a relation gives.
pub label_spells : {S X V : Type 0} {A : S → List ℕ → V → Type 0} {s : S} {R : List ℕ → V → Type 0} {M : X → List ℕ → Unit {0} × V → Type 0} {x : X} {fixed : List ℕ} →
    Spells A s R → Spells M x (IsConcat (IsFixed fixed) (A s)) → Spells M x (IsConcat (IsFixed fixed) R)
label_spells a m = spells_as m (concat_as (λ text u. (λ h. h, λ h. h)) a.is)

-- A fixed text stands before a text.
module _ {W : Type 0} (delimiter : List ℕ) (Q : List ℕ → W → Type 0) where
  pub label_is : (text : List ℕ) (v : Unit {0} × W) → IsConcat (IsFixed delimiter) Q text v ↔ ((back : List ℕ) × (text ≡ delimiter ++ back) × Q back v.1)
  label_is text v = (
    λ h. (h.back, (rw h.begins at h.whole), h.ends),
    λ h. record { front = delimiter; back = h.0; whole = h.1; begins = refl; ends = h.2 },
  )

  -- The same between two texts.
  pub parts_is : {V : Type 0} (R : List ℕ → V → Type 0) (text : List ℕ) (v : V × (Unit {0} × W)) →
      IsConcat R (IsConcat (IsFixed delimiter) Q) text v ↔
      ((front : List ℕ) × (back : List ℕ) × (text ≡ front ++ delimiter ++ back) × R front v.0 × Q back v.1.1)
  parts_is R text v = (
    λ h. (let k = (label_is h.back v.1).0 h.ends in (h.front, k.0, h.whole ∙ ap (λ x. h.front ++ x) k.1 ∙ sym (append_assoc h.front delimiter k.0), h.begins, k.2)),
    λ h. record { front = h.0; back = delimiter ++ h.1; whole = h.2 ∙ append_assoc h.0 delimiter h.1; begins = h.3; ends = (label_is (delimiter ++ h.1) v.1).1 (h.1, refl, h.4) },
  )

  -- A fixed text and a text before a third.
  pub lead_is : {V : Type 0} (R : List ℕ → V → Type 0) (text : List ℕ) (v : (Unit {0} × W) × V) →
      IsConcat (IsConcat (IsFixed delimiter) Q) R text v ↔
      ((middle : List ℕ) × (back : List ℕ) × (text ≡ delimiter ++ middle ++ back) × Q middle v.0.1 × R back v.1)
  lead_is R text v = (
    λ h. (let k = (label_is h.front v.0).0 h.begins in (k.0, h.back, h.whole ∙ ap (λ x. x ++ h.back) k.1, k.2, h.ends)),
    λ h. record { front = delimiter ++ h.0; back = h.1; whole = h.2; begins = (label_is (delimiter ++ h.0) v.0).1 (h.0, refl, h.3); ends = h.4 },
  )

-- What may follow a text does, or doesn't.
module _ {V W : Type 0} (R : List ℕ → V → Type 0) (Q : List ℕ → W → Type 0) where
  pub alone_is : (text : List ℕ) (v : V) → IsConcat R (IsMaybe Q) text (v, None) ↔ R text v
  alone_is text v = (
    λ h. (let e : text ≡ h.front = h.whole ∙ ap (λ x. h.front ++ x) h.ends ∙ append-nil h.front in rw e h.begins),
    λ h. record { front = text; back = []; whole = sym (append-nil text); begins = h; ends = refl },
  )

  pub followed_is : (text : List ℕ) (v : V) (w : W) → IsConcat R (IsMaybe Q) text (v, Some w) ↔ IsConcat R Q text (v, w)
  followed_is text v w = (
    λ h. record { front = h.front; back = h.back; whole = h.whole; begins = h.begins; ends = h.ends },
    λ h. record { front = h.front; back = h.back; whole = h.whole; begins = h.begins; ends = h.ends },
  )

-- Four texts, each with a fixed one before it.
pub record HasFour {V W X Y : Type 0} (A : List ℕ → V → Type 0) (B : List ℕ → W → Type 0) (C : List ℕ → X → Type 0) (D : List ℕ → Y → Type 0) (k l m n : List ℕ) (v : V) (w : W) (x : X) (y : Y) (text : List ℕ) : Type 0 where
  pub first : List ℕ
  pub second : List ℕ
  pub third : List ℕ
  pub fourth : List ℕ
  pub text_is : text ≡ k ++ first ++ l ++ second ++ m ++ third ++ n ++ fourth
  pub first_is : A first v
  pub second_is : B second w
  pub third_is : C third x
  pub fourth_is : D fourth y

four_joined : (k a l b m c n d : List ℕ) → k ++ a ++ (l ++ b ++ (m ++ c ++ (n ++ d))) ≡ k ++ a ++ l ++ b ++ m ++ c ++ n ++ d
four_joined k a l b m c n d = simp append_assoc refl

module _ {V W X Y : Type 0} (A : List ℕ → V → Type 0) (B : List ℕ → W → Type 0) (C : List ℕ → X → Type 0) (D : List ℕ → Y → Type 0) (k l m n : List ℕ) where
  pub four_is : (text : List ℕ) (v : (Unit {0} × V) × ((Unit {0} × W) × ((Unit {0} × X) × (Unit {0} × Y)))) →
      IsConcat (IsConcat (IsFixed k) A) (IsConcat (IsConcat (IsFixed l) B) (IsConcat (IsConcat (IsFixed m) C) (IsConcat (IsFixed n) D))) text v ↔ HasFour A B C D k l m n v.0.1 v.1.0.1 v.1.1.0.1 v.1.1.1.1 text
  four_is text v = (
    λ h. (let a = (lead_is k A (IsConcat (IsConcat (IsFixed l) B) (IsConcat (IsConcat (IsFixed m) C) (IsConcat (IsFixed n) D))) text v).0 h in
        let b = (lead_is l B (IsConcat (IsConcat (IsFixed m) C) (IsConcat (IsFixed n) D)) a.1 v.1).0 a.4 in
        let c = (lead_is m C (IsConcat (IsFixed n) D) b.1 v.1.1).0 b.4 in
        let d = (label_is n D c.1 v.1.1.1).0 c.4 in
        record {
          first = a.0;
          second = b.0;
          third = c.0;
          fourth = d.0;
          text_is = a.2 ∙ ap (λ x. k ++ a.0 ++ x) (b.2 ∙ ap (λ x. l ++ b.0 ++ x) (c.2 ∙ ap (λ x. m ++ c.0 ++ x) d.1)) ∙ four_joined k a.0 l b.0 m c.0 n d.0;
          first_is = a.3;
          second_is = b.3;
          third_is = c.3;
          fourth_is = d.2;
        }),
    λ h. (let d = (label_is n D (n ++ h.fourth) v.1.1.1).1 (h.fourth, refl, h.fourth_is) in
        let c = (lead_is m C (IsConcat (IsFixed n) D) (m ++ h.third ++ (n ++ h.fourth)) v.1.1).1 (h.third, n ++ h.fourth, refl, h.third_is, d) in
        let b = (lead_is l B (IsConcat (IsConcat (IsFixed m) C) (IsConcat (IsFixed n) D)) (l ++ h.second ++ (m ++ h.third ++ (n ++ h.fourth))) v.1).1 (h.second, m ++ h.third ++ (n ++ h.fourth), refl, h.second_is, c) in
        (lead_is k A (IsConcat (IsConcat (IsFixed l) B) (IsConcat (IsConcat (IsFixed m) C) (IsConcat (IsFixed n) D))) text v).1
        (h.first, l ++ h.second ++ (m ++ h.third ++ (n ++ h.fourth)), h.text_is ∙ sym (four_joined k h.first l h.second m h.third n h.fourth), h.first_is, b)),
  )

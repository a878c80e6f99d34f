-- Texts that are none of others.
use Rattle.std.proofs.Common.{◌≡◌, ◌≤◌, ℕ, Bool, true, false, ◌&&◌, nat_eq, List, [], ◌∷◌, ◌++◌, refl, sym, ◌∙◌, ap, append_assoc, eq-eqb}
use Rattle.std.proofs.lemmas.List.{append-nil}
use Rattle.cg_text.specs.Device.{IsDevice}
use Rattle.cg_join.specs.Spelling.{IsConcat, IsEither, IsAllowed, Disjoint}
use Rattle.cg_join.specs.TextBytes.{IsFixed, BeginsBy, HasByte, Lacking, Filled}
use Rattle.cg_join.specs.declared.choice.Either.{Either}
use Rattle.cg_join.specs.declared.choice.Either.TheVariants.{Left, Right}

-- Whether the second text begins with the first.
abbrev pub is_front : List ℕ → List ℕ → Bool
is_front [] ys = true
is_front (x ∷ xs) [] = false
is_front (x ∷ xs) (y ∷ ys) = nat_eq x y && is_front xs ys

front_of : (xs ys rest : List ℕ) → ys ≡ xs ++ rest → is_front xs ys ≡ true
front_of [] ys rest e = refl
front_of (x ∷ xs) [] rest e = absurd (cc)
front_of (x ∷ xs) (y ∷ ys) rest e =
    let same : nat_eq x y ≡ true = eq-eqb x y (cc) in
    let more : is_front xs ys ≡ true = front_of xs ys rest (cc) in
    cc

not_both : (b : Bool) → b ≡ true → b ≡ false → ⊥
not_both b e f = cc

-- Two fixed texts of which the second doesn't begin with the first.
pub fixed_disjoint : (xs ys : List ℕ) → is_front xs ys ≡ false → Disjoint (IsFixed xs) (IsFixed ys)
fixed_disjoint xs ys e text v w h k = not_both (is_front xs ys) (front_of xs ys [] (sym k ∙ h ∙ sym (append-nil xs))) e

module _ {V W : Type 0} {R : List ℕ → V → Type 0} {Q : List ℕ → W → Type 0} where
  -- The one lacks a byte that the other has.
  pub lacking_disjoint : {b : ℕ} → Lacking R b → HasByte Q b → Disjoint R Q
  lacking_disjoint lacks has text v w h k = let there = has.is text w k in lacks.is there.0 there.1 v (rw there.2 at h)

  at_first : {F G : ℕ → Type 0} → Filled R → BeginsBy F R → BeginsBy G Q → ((c : ℕ) → F c → G c → ⊥) → (text : List ℕ) (v : V) (w : W) → R text v → Q text w → ⊥
  at_first some f g none [] v w h k = some.is v h
  at_first some f g none (c ∷ cs) v w h k = none c (f.is c cs v h) (g.is c cs w k)

  -- They begin with different bytes, and the one isn't empty.
  pub begins_disjoint : {F G : ℕ → Type 0} → Filled R → BeginsBy F R → BeginsBy G Q → ((c : ℕ) → F c → G c → ⊥) → Disjoint R Q
  begins_disjoint some f g none text v w h k = at_first some f g none text v w h k

  -- The one begins with a byte that is no digit, and the other with a digit.
  pub digits_disjoint : {b : ℕ} → Filled R → BeginsBy (λ c. c ≡ b) R → BeginsBy (λ c. (48 ≤ c) × (c ≤ 57)) Q → (48 ≤ b → b ≤ 57 → ⊥) → Disjoint R Q
  digits_disjoint {b} some f g none text v w h k = at_first some f g (λ c e d. none (rw e at d.0) (rw e at d.1)) text v w h k

  -- The first part has the byte, or the second.
  pub first_has : {b : ℕ} → HasByte R b → HasByte (IsConcat R Q) b
  first_has {b} f = record {
    is = λ text v h.
        let there = f.is h.front v.0 h.begins in
        let first : h.front ++ h.back ≡ (there.0 ++ b ∷ there.1) ++ h.back = ap (λ x. x ++ h.back) there.2 in
        (there.0, there.1 ++ h.back, h.whole ∙ first ∙ append_assoc there.0 (b ∷ there.1) h.back);
  }

module _ {V W : Type 0} (R : List ℕ → V → Type 0) (Q : List ℕ → W → Type 0) where
  pub disjoint_swap : Disjoint R Q → Disjoint Q R
  disjoint_swap none text w v k h = none text v w h k

  pub either_disjoint : {X : Type 0} (P : List ℕ → X → Type 0) → Disjoint P R → Disjoint P Q → Disjoint P (IsEither R Q)
  either_disjoint {X} P f g text x v h k = at_either text x v h k
    where
      at_either : (text : List ℕ) (x : X) (v : Either V W) → P text x → IsEither R Q text v → ⊥
      at_either text x (Left v) h k = f text x v h k
      at_either text x (Right w) h k = g text x w h k

-- Where a text is allowed, or not.
pub allowed_disjoint : {V W : Type 0} (allowed : Bool) {R : List ℕ → V → Type 0} {Q : List ℕ → W → Type 0} → Disjoint R Q → Disjoint R (IsAllowed allowed Q)
allowed_disjoint allowed none text v w h k = none text v w h k.1

-- A device has a colon.
pub device_has : HasByte (λ text v. IsDevice v text) 58
device_has = record { is = λ text v h. (h.major, h.minor, h.text_is) }

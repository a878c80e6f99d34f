-- Texts that stand one after another in one way.
use Rattle.std.proofs.Common.{◌≡◌, ℕ, List, [], ◌∷◌, ◌++◌, sym, ◌∙◌, append_assoc}
use Rattle.std.proofs.lemmas.List.{append_cancel_left}
use Rattle.cg_text.specs.Texts.{Lacks}
use Rattle.cg_text.specs.TextsLaws.{only_at_end}
use Rattle.cg_join.specs.Line.{IsLine}
use Rattle.cg_text.specs.Token.{Spells}
use Rattle.cg_join.specs.Join.{AreApart}
use Rattle.cg_join.specs.Spelling.{IsConcat, IsMappedText, Apart, apart_spells}
use Rattle.cg_join.specs.TextBytes.{IsFixed, BeginsBy, Lacking}
use Rattle.cg_join.specs.BeginsLaws.{label_begins}

module _ {V W : Type 0} {R : List ℕ → V → Type 0} {Q : List ℕ → W → Type 0} where
  -- The one lacks the byte with which the other begins.
  pub lacking_apart : {b : ℕ} → Lacking R b → BeginsBy (λ c. c ≡ b) Q → Apart R Q
  lacking_apart {b} lacks first front more back byte v u w h k l = let e : byte ≡ b = first.is byte back w l in lacks.is front more u (rw e at k)

  -- A fixed text, and what it leads, lack no byte between: the other begins with a byte that the rest of the one lacks.
  pub labelled_apart : {b : ℕ} {fixed : List ℕ} → Lacking R b → BeginsBy (λ c. c ≡ b) Q → Apart (IsConcat (IsFixed fixed) R) Q
  labelled_apart {b} {fixed} lacks first front more back byte v u w h k l =
      let e : byte ≡ b = first.is byte back w l in
      let one : front ≡ fixed ++ h.back = rw h.begins at h.whole in
      let two : front ++ byte ∷ more ≡ fixed ++ k.back = rw k.begins at k.whole in
      let joined : (fixed ++ h.back) ++ byte ∷ more ≡ fixed ++ k.back = rw (← one) two in
      let both : fixed ++ (h.back ++ byte ∷ more) ≡ fixed ++ k.back = sym (append_assoc fixed h.back (byte ∷ more)) ∙ joined in
      let rest : h.back ++ byte ∷ more ≡ k.back = append_cancel_left fixed (h.back ++ byte ∷ more) k.back both in
      lacks.is h.back more u.1 (let t : h.back ++ b ∷ more ≡ k.back = rw (← e) rest in rw t k.ends)

-- The one lacks the byte with which a label begins.
pub label_apart : {V W : Type 0} {R : List ℕ → V → Type 0} {Q : List ℕ → W → Type 0} {b : ℕ} {more : List ℕ} → Lacking R b → Apart R (IsConcat (IsFixed (b ∷ more)) Q)
label_apart {b = b} {more = more} lacks = lacking_apart lacks (label_begins b more)

longer : (xs ys : List ℕ) (b : ℕ) → xs ++ b ∷ ys ≡ xs → ⊥
longer [] ys b e = cc
longer (x ∷ xs) ys b e = longer xs ys b (cc)

-- A fixed text goes on with nothing.
pub fixed_apart : {W : Type 0} (fixed : List ℕ) (Q : List ℕ → W → Type 0) → Apart (IsFixed fixed) Q
fixed_apart fixed Q front more back byte v u w h k l = longer front more byte (k ∙ sym h)

no_inside : (b : ℕ) (text : List ℕ) → ((front more : List ℕ) → text ≡ front ++ b ∷ more → ⊥) → Lacks b text
no_inside b [] f = tt
no_inside b (c ∷ cs) f = ((λ e. f [] cs (cc)), no_inside b cs (λ front more e. f (c ∷ front) more (cc)))

ends_there : (b byte : ℕ) (more : List ℕ) → byte ∷ more ≡ [] → ⊥
ends_there b byte more e = cc

-- A text that a byte ends, which it has nowhere else, goes on with nothing.
ended : {V : Type 0} {R : List ℕ → V → Type 0} {b : ℕ} → Lacking R b → (xs ys front more : List ℕ) (byte : ℕ) (u : V) → R ys u → front ≡ xs ++ b ∷ [] → front ++ byte ∷ more ≡ ys ++ b ∷ [] → ⊥
ended {b = b} lacks xs ys front more byte u h e f =
    let whole : (xs ++ b ∷ []) ++ byte ∷ more ≡ ys ++ b ∷ [] = rw (← e) f in
    let inside : ys ++ b ∷ [] ≡ xs ++ b ∷ byte ∷ more = sym whole ∙ append_assoc xs (b ∷ []) (byte ∷ more) in
    ends_there b byte more (only_at_end b ys xs (byte ∷ more) (no_inside b ys (λ front more s. lacks.is front more u (rw s at h))) inside)

pub ended_apart : {V W : Type 0} {R : List ℕ → V → Type 0} {b : ℕ} (Q : List ℕ → W → Type 0) → Lacking R b → Apart (IsConcat R (IsFixed (b ∷ []))) Q
ended_apart {b = b} Q lacks front more back byte v u w h k l =
    ended lacks h.front k.front front more byte u.0 k.begins (rw h.ends at h.whole) (rw k.ends at k.whole)

-- A line goes on with nothing.
pub lines_apart : {V W X : Type 0} {R : List ℕ → V → Type 0} (f : V × Unit {0} → X) (Q : List ℕ → W → Type 0) → Lacking R 10 → Apart (IsMappedText (IsLine R) f) Q
lines_apart f Q lacks front more back byte v u w h k l = ended lacks h.1.front k.1.front front more byte k.0.0 k.1.spells h.1.whole k.1.whole

pub fixed_spells : {S T W : Type 0} {A : S → List ℕ → Unit {0} → Type 0} {B : T → List ℕ → W → Type 0} {s : S} {t : T} {Q : List ℕ → W → Type 0} {fixed : List ℕ} → Spells A s (IsFixed fixed) → Spells B t Q → AreApart A B s t
fixed_spells {Q = Q} {fixed = fixed} a b = apart_spells a b (fixed_apart fixed Q)

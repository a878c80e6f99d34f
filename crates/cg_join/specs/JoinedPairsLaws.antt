-- What holds of pairs with a separator between.
use Rattle.std.proofs.Common.{◌≡◌, ℕ, ◌<◌, ◌↔◌, inl, inr, Some, List, [], ◌∷◌, ◌++◌, refl, sym, ◌∙◌, ap, append-nil}
use Rattle.cg_text.specs.Token.{AreBytes, HasOneText}
use Rattle.cg_join.specs.ByteLaws.{list_bytes}
use Rattle.cg_join.specs.Distinct.{LacksValue}
use Rattle.cg_join.specs.DistinctLaws.{with_distinct}
use Rattle.cg_join.specs.JoinedPairs.{AreJoinedPairs}
use Rattle.cg_join.specs.Keyed.{IsKeyed, IsKeyThen}
use Rattle.cg_join.specs.KeyedLaws.{pair_lacks, some_one}
use Rattle.cg_join.specs.Line.{LacksByte}
use Rattle.cg_join.specs.Pairs.{ArePairs, ArePairsAfter, IsPairText}
use Rattle.cg_join.specs.PairsLaws.{new_pair, pair_bytes, pair_one, pair_stops}
use Rattle.cg_join.specs.Repeat.{IsList, Stops, items_size}
use Rattle.cg_join.specs.RepeatLaws.{list_new, list_one}
use Rattle.cg_join.specs.SequenceLaws.{cuts}
use Rattle.cg_join.specs.declared.pairs.Stage.TheVariants.{InWord}

-- A new token of them.
pub joined_new : {V X : Type 0} (word : X → V) (separator : ℕ) (F R : List ℕ → X → Type 0) → ((rest : List ℕ) (p : X) → F rest p ↔ R rest p) → (rest : List ℕ) (all : List X) →
    ArePairsAfter word InWord [] F R separator rest all ↔ AreJoinedPairs word R separator rest all
joined_new word separator F R f rest all = with_distinct (list_new separator F R f rest all)

-- The texts of lists lack each byte other than the separator that the texts in them lack.
list_lacks : {X : Type 0} (P R : List ℕ → X → Type 0) (separator b : ℕ) → (separator ≡ b → ⊥) → LacksByte P b → LacksByte R b → (ps : List X) (front more : List ℕ) → IsList P R separator (front ++ b ∷ more) ps → ⊥
list_lacks P R separator b ne p r [] front more h = h
list_lacks P R separator b ne p r (x ∷ []) front more h = p front more x h
list_lacks P R separator b ne p r (x ∷ y ∷ ps) front more h =
    elim (cuts front (b ∷ more) h.0 (separator ∷ h.1) h.2) [
      | inl q ↦ ne (let e = q.1 in cc)
      | inr (inl q) ↦ (let s : q.0 ≡ b = (let e = q.3 in cc) in let m = rw (q.2, s) at h.3 in p front q.1 x m)
      | inr (inr q) ↦ (let t : h.1 ≡ q.1 ++ b ∷ more = (let e = q.3 in cc) in let m = rw t at h.4 in list_lacks R R separator b ne r r (y ∷ ps) q.1 more m)
    ]

module _ {V W X : Type 0} (word : X → V) (value : X → W) (K : List ℕ → V → Type 0) (D : List ℕ → W → Type 0) (delimiter separator : ℕ) where
  abbrev Joined : List ℕ → List X → Type 0
  Joined = AreJoinedPairs word (IsPairText word value K D delimiter) separator

  pub joined_lacks : (b : ℕ) → (delimiter ≡ b → ⊥) → (separator ≡ b → ⊥) → LacksByte K b → LacksByte D b → LacksByte Joined b
  joined_lacks b ne ne' k d front more ps h =
      let lacks = pair_lacks word value delimiter K D b ne k d in
      list_lacks (IsPairText word value K D delimiter) (IsPairText word value K D delimiter) separator b ne' lacks lacks ps front more h.0

  pub joined_one : (paired : V → W → X) → ((p : X) → paired (word p) (value p) ≡ p) → LacksByte K delimiter → Stops D separator → HasOneText K → HasOneText D → HasOneText Joined
  joined_one paired whole lacks stops one two text ps qs h k =
      let R : List ℕ → X → Type 0 = IsPairText word value K D delimiter in
      let apart = pair_stops word value delimiter K D separator lacks stops in
      let each = pair_one word value K delimiter paired whole D lacks one two in
      list_one separator R R apart apart each each text ps qs h.0 k.0

  pub joined_bytes : delimiter < 256 → separator < 256 → ((text : List ℕ) (v : V) → K text v → AreBytes text) → ((text : List ℕ) (w : W) → D text w → AreBytes text) → (text : List ℕ) (ps : List X) → Joined text ps → AreBytes text
  joined_bytes small small_separator f g text ps h =
      let R : List ℕ → X → Type 0 = IsPairText word value K D delimiter in
      let each = pair_bytes word value delimiter K D small f g in
      list_bytes R R separator small_separator each each text ps h.0

  pub joined_some : (paired : V → W → X) → ((v : V) (w : W) → word (paired v w) ≡ v) →
      ((v : V) (w : W) → value (paired v w) ≡ w) →
      ((vs : List V) → (text : List ℕ) × (v : V) × K text v × LacksValue v vs) →
      ((text : List ℕ) × (w : W) × D text w) →
      (text : List ℕ) × (ps : List X) × Joined text ps
  joined_some paired has_word has_value new some =
      let q = new_pair word value paired has_word has_value delimiter K D new some [] in
      (q.0, q.1 ∷ [], (q.2, (tt, tt)))

pub no_pairs : {X : Type 0} (f : X → ℕ) (ps : List X) → Some [] ≡ Some ps → items_size f ps ≡ 0
no_pairs f [] e = refl
no_pairs f (p ∷ ps) e = absurd (cc)

-- A key alone, or a key, the separator and joined pairs, are a key and pairs each with a separator before it.
module _ {V W X Y : Type 0} (key : X → V) (value : X → List W) (word : W → Y) (K : List ℕ → V → Type 0) (R : List ℕ → W → Type 0) (separator : ℕ) where
  led_from : (back : List ℕ) (ps : List W) → AreJoinedPairs word R separator back ps → ArePairs word R separator (separator ∷ back) ps
  led_from back [] h = absurd h.0
  led_from back (p ∷ ps) h = ((back, refl, h.0), h.1)

  pub nested_from : (text : List ℕ) (p : X) → IsKeyed key value K (AreJoinedPairs word R separator) (Some []) separator text p → IsKeyThen key value K (ArePairs word R separator) text p
  nested_from text p (inl h) = record { front = h.front; back = separator ∷ h.back; whole = h.whole; begins = h.begins; ends = led_from h.back (value p) h.ends }
  nested_from text p (inr h) = record { front = text; back = []; whole = sym (append-nil text); begins = h.0; ends = rw (some_one (value p) [] (sym h.1)) (refl, tt) }

  nested_at : (text : List ℕ) (p : X) (front back : List ℕ) (ps : List W) → value p ≡ ps → text ≡ front ++ back → K front (key p) → ArePairs word R separator back ps →
      IsKeyed key value K (AreJoinedPairs word R separator) (Some []) separator text p
  nested_at text p front back [] e whole k h = inr (let t : text ≡ front = whole ∙ ap (λ x. front ++ x) h.0 ∙ append-nil front in rw t k, ap Some (sym e))
  nested_at text p front back (q ∷ qs) e whole k h = inl (record { front = front; back = h.0.0; whole = whole ∙ ap (λ x. front ++ x) h.0.1; begins = k; ends = rw e (h.0.2, h.1) })

  pub nested_is : (text : List ℕ) (p : X) → IsKeyed key value K (AreJoinedPairs word R separator) (Some []) separator text p ↔ IsKeyThen key value K (ArePairs word R separator) text p
  nested_is text p = (nested_from text p, λ h. nested_at text p h.front h.back (value p) refl h.whole h.begins h.ends)

-- What holds of lists of texts.
use Rattle.std.proofs.Common.{◌≡◌, ℕ, ◌+◌, ◌≤◌, ◌↔◌, ◌⊎◌, inl, inr, Bool, true, false, ◌&&◌, ◌||◌, List, [], ◌∷◌, ◌++◌, ◌-◌, ◌<◌, length, get_or, take, map, refl, sym, ◌∙◌, ap, arith, append_assoc, IsTrue, min}
use Rattle.std.specs.List.{sum_by}
use Rattle.std.proofs.lemmas.List.{length-map, get_or-map, take_more}
use Rattle.std.proofs.lemmas.List.Sums.{sum_by_push, sum_by-cons}
use Rattle.std.specs.Prelude.{Result, Ok, Err, OnOk, OnErr, is_ok}
use Rattle.cg_index.specs.Keyed.{is_among, is_repeated}
use Rattle.cg_index.specs.KeyedLaws.{not_among}
use Rattle.cg_index.specs.declared.keyed.Refused.{Refused}
use Rattle.cg_join.specs.Distinct.{LacksValue}
use Rattle.cg_text.specs.Token.{HasOneText, saturated}
use Rattle.cg_join.specs.SequenceLaws.{cuts}
use Rattle.cg_join.specs.Repeat.{Stops, IsList, IsListAfter, items_size, out_size}

pub not_nil : (b : ℕ) (front back : List ℕ) → [] ≡ front ++ b ∷ back → ⊥
not_nil b [] back e = cc
not_nil b (x ∷ front) back e = cc

module _ {V : Type 0} (separator : ℕ) where
  -- Two texts that end before separators are one.
  pub same_front : (P : List ℕ → V → Type 0) → Stops P separator → (a b c d : List ℕ) (v u : V) → a ++ separator ∷ b ≡ c ++ separator ∷ d → P a v → P c u → (a ≡ c) × (b ≡ d)
  same_front P stops a b c d v u e h k =
      elim (cuts a (separator ∷ b) c (separator ∷ d) e) [
        | inl q ↦ (q.0, (let t = q.1 in cc))
        | inr (inl q) ↦ absurd (let s : q.0 ≡ separator = (let t = q.3 in cc) in let m = rw (q.2, s) at k in stops a q.1 v u h m)
        | inr (inr q) ↦ absurd (let s : q.0 ≡ separator = (let t = q.3 in cc) in let m = rw (q.2, s) at h in stops c q.1 u v k m)
      ]

  pub list_one : (P R : List ℕ → V → Type 0) → Stops P separator → Stops R separator → HasOneText P → HasOneText R →
      (text : List ℕ) (vs ws : List V) → IsList P R separator text vs → IsList P R separator text ws → vs ≡ ws
  list_one P R sp sr one_p one_r text [] ws h k = absurd h
  list_one P R sp sr one_p one_r text (v ∷ vs) [] h k = absurd k
  list_one P R sp sr one_p one_r text (v ∷ []) (w ∷ []) h k = ap (λ x. x ∷ []) (one_p text v w h k)
  list_one P R sp sr one_p one_r text (v ∷ []) (w ∷ w' ∷ ws) h k = absurd (sp k.0 k.1 w v k.3 (rw k.2 at h))
  list_one P R sp sr one_p one_r text (v ∷ v' ∷ vs) (w ∷ []) h k = absurd (sp h.0 h.1 v w h.3 (rw h.2 at k))
  list_one P R sp sr one_p one_r text (v ∷ v' ∷ vs) (w ∷ w' ∷ ws) h k =
      let s = same_front P sp h.0 h.1 k.0 k.1 v w (sym h.2 ∙ k.2) h.3 k.3 in
      let head : v ≡ w = one_p k.0 v w (rw s.0 at h.3) k.3 in
      let tail : v' ∷ vs ≡ w' ∷ ws = list_one R R sr sr one_r one_r k.1 (v' ∷ vs) (w' ∷ ws) (rw s.1 at h.4) k.4 in
      cc

  -- The first text by another relation.
  list_first : (P Q R : List ℕ → V → Type 0) → ((text : List ℕ) (v : V) → P text v → Q text v) → (text : List ℕ) (vs : List V) → IsList P R separator text vs → IsList Q R separator text vs
  list_first P Q R f text [] h = h
  list_first P Q R f text (v ∷ []) h = f text v h
  list_first P Q R f text (v ∷ w ∷ vs) h = (h.0, h.1, h.2, f h.0 v h.3, h.4)

  -- What is taken by the token at hand.
  list_take : (P P' R : List ℕ → V → Type 0) (b : ℕ) → Stops P separator → (c : (more : List ℕ) × (u : V) × P' more u) → ((rest : List ℕ) (v : V) → P' rest v ↔ P (b ∷ rest) v) →
      (rest : List ℕ) (v w : V) (vs : List V) (front back : List ℕ) → b ∷ rest ≡ front ++ separator ∷ back → P front v → IsList R R separator back (w ∷ vs) → IsList P' R separator rest (v ∷ w ∷ vs)
  list_take P P' R b stops c f rest v w vs [] back e h k =
      let s : b ≡ separator = cc in
      absurd (stops [] c.0 v c.1 h (rw s at ((f c.0 c.1).0 c.2)))
  list_take P P' R b stops c f rest v w vs (x ∷ front) back e h k =
      let s : x ≡ b = cc in
      (front, back, cc, (f front v).1 (rw s at h), k)

  list_taken_to : (P P' R : List ℕ → V → Type 0) (b : ℕ) → Stops P separator → ((more : List ℕ) × (u : V) × P' more u) → ((rest : List ℕ) (v : V) → P' rest v ↔ P (b ∷ rest) v) →
      (rest : List ℕ) (vs : List V) → IsList P R separator (b ∷ rest) vs → IsList P' R separator rest vs
  list_taken_to P P' R b stops c f rest [] h = h
  list_taken_to P P' R b stops c f rest (v ∷ []) h = (f rest v).1 h
  list_taken_to P P' R b stops c f rest (v ∷ w ∷ vs) h = list_take P P' R b stops c f rest v w vs h.0 h.1 h.2 h.3 h.4

  list_taken_from : (P P' R : List ℕ → V → Type 0) (b : ℕ) → ((rest : List ℕ) (v : V) → P' rest v ↔ P (b ∷ rest) v) →
      (rest : List ℕ) (vs : List V) → IsList P' R separator rest vs → IsList P R separator (b ∷ rest) vs
  list_taken_from P P' R b f rest [] h = h
  list_taken_from P P' R b f rest (v ∷ []) h = (f rest v).0 h
  list_taken_from P P' R b f rest (v ∷ w ∷ vs) h = (b ∷ h.0, h.1, ap (λ x. b ∷ x) h.2, (f h.0 v).0 h.3, h.4)

  pub list_taken : (P P' R : List ℕ → V → Type 0) (b : ℕ) → Stops P separator → ((more : List ℕ) × (u : V) × P' more u) → ((rest : List ℕ) (v : V) → P' rest v ↔ P (b ∷ rest) v) →
      (items : List V) (rest : List ℕ) (all : List V) → IsListAfter items P' R separator rest all ↔ IsListAfter items P R separator (b ∷ rest) all
  list_taken P P' R b stops c f items rest all =
      (λ h. (h.0, h.1, list_taken_from P P' R b f rest h.0 h.2), λ h. (h.0, h.1, list_taken_to P P' R b stops c f rest h.0 h.2))

  -- A separator, where the token at hand has ended and takes none.
  list_next_to : (P F R : List ℕ → V → Type 0) (v : V) → P [] v → HasOneText P → ((rest : List ℕ) (u : V) → P (separator ∷ rest) u → ⊥) → ((rest : List ℕ) (u : V) → R rest u → F rest u) →
      (items : List V) (rest : List ℕ) (u w : V) (vs : List V) (front back : List ℕ) → separator ∷ rest ≡ front ++ separator ∷ back → P front u → IsList R R separator back (w ∷ vs) →
      (us : List V) × (items ++ u ∷ w ∷ vs ≡ (items ++ v ∷ []) ++ us) × IsList F R separator rest us
  list_next_to P F R v ended one none f items rest u w vs [] back e h k =
      let same : u ≡ v = one [] u v h ended in
      let tail : back ≡ rest = cc in
      (w ∷ vs, rw (same, append_assoc items (v ∷ []) (w ∷ vs)) refl, list_first R F R f rest (w ∷ vs) (rw tail at k))
  list_next_to P F R v ended one none f items rest u w vs (x ∷ front) back e h k =
      let s : x ≡ separator = cc in
      absurd (none front u (rw s at h))

  list_next_some : (P F R : List ℕ → V → Type 0) (v : V) → P [] v → HasOneText P → ((rest : List ℕ) (u : V) → P (separator ∷ rest) u → ⊥) → ((rest : List ℕ) (u : V) → R rest u → F rest u) →
      (items : List V) (rest : List ℕ) (us : List V) → IsList P R separator (separator ∷ rest) us → (vs : List V) × (items ++ us ≡ (items ++ v ∷ []) ++ vs) × IsList F R separator rest vs
  list_next_some P F R v ended one none f items rest [] h = absurd h
  list_next_some P F R v ended one none f items rest (u ∷ []) h = absurd (none rest u h)
  list_next_some P F R v ended one none f items rest (u ∷ w ∷ vs) h = list_next_to P F R v ended one none f items rest u w vs h.0 h.1 h.2 h.3 h.4

  list_next_from : (P F R : List ℕ → V → Type 0) (v : V) → P [] v → ((rest : List ℕ) (u : V) → F rest u → R rest u) →
      (rest : List ℕ) (vs : List V) → IsList F R separator rest vs → IsList P R separator (separator ∷ rest) (v ∷ vs)
  list_next_from P F R v ended f rest [] h = absurd h
  list_next_from P F R v ended f rest (w ∷ vs) h = ([], rest, refl, ended, list_first F R R f rest (w ∷ vs) h)

  pub list_next : (P F R : List ℕ → V → Type 0) (v : V) → P [] v → HasOneText P → ((rest : List ℕ) (u : V) → P (separator ∷ rest) u → ⊥) → ((rest : List ℕ) (u : V) → F rest u ↔ R rest u) →
      (items : List V) (rest : List ℕ) (all : List V) → IsListAfter (items ++ v ∷ []) F R separator rest all ↔ IsListAfter items P R separator (separator ∷ rest) all
  list_next P F R v ended one none f items rest all = (
    λ h. (v ∷ h.0, h.1 ∙ append_assoc items (v ∷ []) h.0, list_next_from P F R v ended (λ r u. (f r u).0) rest h.0 h.2),
    λ h. (let k = list_next_some P F R v ended one none (λ r u. (f r u).1) items rest h.0 h.2 in (k.0, h.1 ∙ k.1, k.2)),
  )

  -- What is refused.
  list_none_at : (P R : List ℕ → V → Type 0) (b : ℕ) → ((rest : List ℕ) (u : V) → P (b ∷ rest) u → ⊥) → (b ≡ separator → (v : V) → P [] v → ⊥) →
      (rest : List ℕ) (v : V) (front back : List ℕ) → b ∷ rest ≡ front ++ separator ∷ back → P front v → ⊥
  list_none_at P R b none ended rest v [] back e h = ended (cc) v h
  list_none_at P R b none ended rest v (x ∷ front) back e h =
      let s : x ≡ b = cc in
      none front v (rw s at h)

  list_none_of : (P R : List ℕ → V → Type 0) (b : ℕ) → ((rest : List ℕ) (u : V) → P (b ∷ rest) u → ⊥) → (b ≡ separator → (v : V) → P [] v → ⊥) →
      (rest : List ℕ) (vs : List V) → IsList P R separator (b ∷ rest) vs → ⊥
  list_none_of P R b none ended rest [] h = h
  list_none_of P R b none ended rest (v ∷ []) h = none rest v h
  list_none_of P R b none ended rest (v ∷ w ∷ vs) h = list_none_at P R b none ended rest v h.0 h.1 h.2 h.3

  pub list_none : (P R : List ℕ → V → Type 0) (b : ℕ) → ((rest : List ℕ) (u : V) → P (b ∷ rest) u → ⊥) → (b ≡ separator → (v : V) → P [] v → ⊥) →
      (items : List V) (rest : List ℕ) (all : List V) → IsListAfter items P R separator (b ∷ rest) all → ⊥
  list_none P R b none ended items rest all h = list_none_of P R b none ended rest h.0 h.2

  pub list_same : (P P' R : List ℕ → V → Type 0) → ((rest : List ℕ) (v : V) → P' rest v ↔ P rest v) →
      (items : List V) (rest : List ℕ) (all : List V) → IsListAfter items P' R separator rest all ↔ IsListAfter items P R separator rest all
  list_same P P' R f items rest all =
      (λ h. (h.0, h.1, list_first P' P R (λ r v. (f r v).0) rest h.0 h.2), λ h. (h.0, h.1, list_first P P' R (λ r v. (f r v).1) rest h.0 h.2))

  -- The three laws.
  pub list_completes : (P R : List ℕ → V → Type 0) (items : List V) → ((rest : List ℕ) × (v : V) × P rest v) → (rest : List ℕ) × (all : List V) × IsListAfter items P R separator rest all
  list_completes P R items c = (c.0, items ++ c.1 ∷ [], (c.1 ∷ [], refl, c.2))

  nil_list : (P R : List ℕ → V → Type 0) (vs : List V) → IsList P R separator [] vs → (v : V) × P [] v
  nil_list P R [] h = absurd h
  nil_list P R (v ∷ []) h = (v, h)
  nil_list P R (v ∷ w ∷ vs) h = absurd (not_nil separator h.0 h.1 h.2)

  pub list_ends : (P R : List ℕ → V → Type 0) (items : List V) (e : Bool) → IsTrue e ↔ ((v : V) × P [] v) → IsTrue e ↔ ((all : List V) × IsListAfter items P R separator [] all)
  list_ends P R items e is =
      (λ h. (let v = is.0 h in (items ++ v.0 ∷ [], (v.0 ∷ [], refl, v.1))), λ h. is.1 (nil_list P R h.1.0 h.1.2))

  pub list_after_one : (P R : List ℕ → V → Type 0) (items : List V) → Stops P separator → Stops R separator → HasOneText P → HasOneText R →
      (rest : List ℕ) (v w : List V) → IsListAfter items P R separator rest v → IsListAfter items P R separator rest w → v ≡ w
  list_after_one P R items sp sr one_p one_r rest v w h k = h.1 ∙ ap (λ x. items ++ x) (list_one P R sp sr one_p one_r rest h.0 k.0 h.2 k.2) ∙ sym k.1

  list_begun_at : (P R : List ℕ → V → Type 0) (b : ℕ) (rest : List ℕ) (v : V) (front back : List ℕ) → b ∷ rest ≡ front ++ separator ∷ back → P front v →
      ((more : List ℕ) × (u : V) × P (b ∷ more) u) ⊎ ((b ≡ separator) × ((u : V) × P [] u))
  list_begun_at P R b rest v [] back e h = inr (cc, (v, h))
  list_begun_at P R b rest v (x ∷ front) back e h =
      let s : x ≡ b = cc in
      inl (front, v, rw s at h)

  pub list_begun : (P R : List ℕ → V → Type 0) (b : ℕ) (rest : List ℕ) (vs : List V) → IsList P R separator (b ∷ rest) vs →
      ((more : List ℕ) × (u : V) × P (b ∷ more) u) ⊎ ((b ≡ separator) × ((u : V) × P [] u))
  list_begun P R b rest [] h = absurd h
  list_begun P R b rest (v ∷ []) h = inl (rest, v, h)
  list_begun P R b rest (v ∷ w ∷ vs) h = list_begun_at P R b rest v h.0 h.1 h.2 h.3

  begun_true : (a f e : Bool) (P : List ℕ → V → Type 0) (b : ℕ) → IsTrue a ↔ ((more : List ℕ) × (u : V) × P (b ∷ more) u) → IsTrue f ↔ (b ≡ separator) → IsTrue e ↔ ((u : V) × P [] u) →
      ((more : List ℕ) × (u : V) × P (b ∷ more) u) ⊎ ((b ≡ separator) × ((u : V) × P [] u)) → IsTrue (a || (f && e))
  begun_true a f e P b is is_f is_e (inl h) = rw (is.1 h) refl
  begun_true true f e P b is is_f is_e (inr h) = refl
  begun_true false f e P b is is_f is_e (inr h) = rw (is_f.1 h.0, is_e.1 h.1) refl

  true_begun : (a f e : Bool) (P R : List ℕ → V → Type 0) (items : List V) (b : ℕ) →
      ((text : List ℕ) × (w : V) × R text w) → IsTrue a ↔ ((more : List ℕ) × (u : V) × P (b ∷ more) u) → IsTrue f ↔
      (b ≡ separator) → IsTrue e ↔ ((u : V) × P [] u) →
      IsTrue (a || (f && e)) → (rest : List ℕ) × (all : List V) × IsListAfter items P R separator (b ∷ rest) all
  true_begun true f e P R items b c is is_f is_e h = let k = is.0 refl in (k.0, items ++ k.1 ∷ [], (k.1 ∷ [], refl, k.2))
  true_begun false true e P R items b c is is_f is_e h =
      let k = is_e.0 h in
      let s : b ≡ separator = is_f.0 refl in
      (c.0, items ++ k.0 ∷ c.1 ∷ [], (k.0 ∷ c.1 ∷ [], refl, ([], c.0, ap (λ x. x ∷ c.0) s, k.1, c.2)))
  true_begun false false e P R items b c is is_f is_e h = absurd (cc)

  -- Which bytes begin a rest.
  pub list_begins : (a f e : Bool) (P R : List ℕ → V → Type 0) (items : List V) (b : ℕ) →
      ((text : List ℕ) × (w : V) × R text w) → IsTrue a ↔ ((more : List ℕ) × (u : V) × P (b ∷ more) u) → IsTrue f ↔
      (b ≡ separator) → IsTrue e ↔ ((u : V) × P [] u) →
      IsTrue (a || (f && e)) ↔ ((rest : List ℕ) × (all : List V) × IsListAfter items P R separator (b ∷ rest) all)
  list_begins a f e P R items b c is is_f is_e =
      (true_begun a f e P R items b c is is_f is_e, λ h. begun_true a f e P b is is_f is_e (list_begun P R b h.0 h.2.0 h.2.2))

  pub list_new : (F R : List ℕ → V → Type 0) → ((rest : List ℕ) (v : V) → F rest v ↔ R rest v) → (rest : List ℕ) (all : List V) → IsListAfter [] F R separator rest all ↔ IsList R R separator rest all
  list_new F R f rest all =
      (λ h. rw h.1 (list_first F R R (λ r v. (f r v).0) rest h.0 h.2), λ h. (all, refl, list_first R F R (λ r v. (f r v).1) rest all h))

  pub stops_taken : (P P' : List ℕ → V → Type 0) (b : ℕ) → ((rest : List ℕ) (v : V) → P' rest v ↔ P (b ∷ rest) v) → Stops P separator → Stops P' separator
  stops_taken P P' b f stops front more v u h k = stops (b ∷ front) more v u ((f front v).0 h) ((f (front ++ separator ∷ more) u).0 k)

  pub stops_same : (P P' : List ℕ → V → Type 0) → ((rest : List ℕ) (v : V) → P' rest v ↔ P rest v) → Stops P separator → Stops P' separator
  stops_same P P' f stops front more v u h k = stops front more v u ((f front v).0 h) ((f (front ++ separator ∷ more) u).0 k)

pub true_not_false : true ≡ false → ⊥
true_not_false e = cc

pub items_size_push : {V : Type 0} (f : V → ℕ) (vs : List V) (v : V) → items_size f (vs ++ v ∷ []) ≡ items_size f vs + 1 + f v
items_size_push f [] v = omega arith
items_size_push f (w ∷ vs) v = omega (arith, items_size_push f vs v)

pub out_size_push : {V : Type 0} (f : V → ℕ) (vs : List V) (v : V) → out_size f (vs ++ v ∷ []) ≡ items_size f vs + f v
out_size_push f [] v = omega arith
out_size_push f (w ∷ vs) v = omega (arith, items_size_push f vs v)

-- One more element is told.
pub saturated_more : (a b n kept one w more : ℕ) → kept ≡ saturated a → one ≡ min (kept + 1) 18446744073709551615 → w ≡ saturated b → more ≡ min (one + w) 18446744073709551615 → n ≡ a + 1 + b → more ≡ saturated n
saturated_more a b n kept one w more h k l m e = omega arith

pub saturated_sum : (a b n x y more : ℕ) → x ≡ saturated a → y ≡ saturated b → more ≡ min (x + y) 18446744073709551615 → n ≡ a + b → more ≡ saturated n
saturated_sum a b n x y more h k l e = omega arith

pub size_pushed : {V : Type 0} (f : V → ℕ) (new vs : List V) (v : V) → new ≡ vs ++ v ∷ [] → items_size f new ≡ items_size f vs + 1 + f v
size_pushed f new vs v e = rw e (items_size_push f vs v)

pub out_size_pushed : {V : Type 0} (f : V → ℕ) (new vs : List V) (v : V) → new ≡ vs ++ v ∷ [] → out_size f new ≡ items_size f vs + f v
out_size_pushed f new vs v e = rw e (out_size_push f vs v)

-- The places of values, and the vectors in them.
pub size_summed : {V : Type 0} (f : V → ℕ) (vs : List V) → items_size f vs ≡ length vs + sum_by f vs
size_summed f [] = refl
size_summed f (v ∷ vs) = omega (arith, size_summed f vs, sum_by-cons f v vs)

pub out_size_summed : {V : Type 0} (f : V → ℕ) (vs : List V) → out_size f vs ≡ (length vs - 1) + sum_by f vs
out_size_summed f [] = refl
out_size_summed f (v ∷ vs) = omega (arith, size_summed f vs, sum_by-cons f v vs)

-- What is told of the places and what the values hold.
pub saturated_size : {V : Type 0} (f : V → ℕ) (xs vs : List V) (places result : ℕ) → xs ≡ vs → places ≡ length vs → result ≡ saturated (places + sum_by f xs) → result ≡ saturated (items_size f vs)
saturated_size f xs vs places result same is told_is =
    let sum = ap (sum_by f) same in
    omega (arith, sum, is, told_is, size_summed f vs)

pub saturated_out_size : {V : Type 0} (f : V → ℕ) (xs vs : List V) (places result : ℕ) → xs ≡ vs → places ≡ length vs - 1 → result ≡ saturated (places + sum_by f xs) → result ≡ saturated (out_size f vs)
saturated_out_size f xs vs places result same is told_is =
    let sum = ap (sum_by f) same in
    omega (arith, sum, is, told_is, out_size_summed f vs)

-- One more item is told.
pub saturated_item : {V X : Type 0} (f : X → ℕ) (g : V → X) (vs : List V) (i : ℕ) (v : V) (places total size more : ℕ) → i < length vs → v ≡ get_or vs i v →
    total ≡ saturated (places + sum_by f (take i (map g vs))) → size ≡ saturated (f (g v)) → more ≡ min (total + size) 18446744073709551615 → more ≡ saturated (places + sum_by f (take (i + 1) (map g vs)))
saturated_item f g vs i v places total size more h is before one sum =
    let within : i < length (map g vs) = omega (arith, h, length-map vs g) in
    let read : get_or (map g vs) i (g v) ≡ g v = get_or-map g vs i v (g v) h ∙ sym (ap g is) in
    let grown : sum_by f (take (i + 1) (map g vs)) ≡ sum_by f (take i (map g vs)) + f (g v) =
    ap (sum_by f) (take_more (map g vs) i (g v) within ∙ ap (λ x. take i (map g vs) ++ x ∷ []) read) ∙ sum_by_push f (take i (map g vs)) (g v) in
    omega (arith, before, one, sum, grown)

-- An item that was added is new, and it alone adds to the size.
pub added_new : {U T : Type 0} (r : Result U (Refused T)) (key : List ℕ) (keys : List (List ℕ)) → is_repeated r ≡ is_among key keys → is_ok r ≡ true → LacksValue key keys
added_new (Ok u) key keys repeated ok = not_among key keys (sym repeated)
added_new (Err e) key keys repeated ok = cc

pub added_size : {U E V : Type 0} (f : V → ℕ) (r : Result U E) (old new : List V) (v : V) → OnOk r (new ≡ old ++ v ∷ []) → OnErr r (new ≡ old) → items_size f new ≤ items_size f old + (1 + f v)
added_size f (Ok u) old new v more same = omega (arith, size_pushed f new old v more)
added_size f (Err e) old new v more same = (let size = ap (items_size f) same in omega (arith, size))

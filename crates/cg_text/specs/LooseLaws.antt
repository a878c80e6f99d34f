-- What holds of lists of ranges in any order.
use Rattle.std.proofs.Common.{◌≡◌, ℕ, ◌≤◌, ◌↔◌, inl, inr, Bool, List, [], ◌∷◌, arith, IsTrue}
use Rattle.std.proofs.lemmas.List.Elements.{All-cons, All-head, All-nil, All-tail}
use Rattle.cg_text.specs.Numbers.{IsSet, AreRanges, Has}
use Rattle.cg_text.specs.NumbersLaws.{inserted, inserted_set, inserted_has, same_ranges}
use Rattle.cg_text.specs.List.{IsLooseRangeText, AreLooseTexts, IsLooseList}
use Rattle.cg_text.specs.LooseState.{IsLooseRest, Joins}

-- The set of the numbers of ranges in any order.
set_of : List (ℕ × ℕ) → List (ℕ × ℕ)
set_of [] = []
set_of (r ∷ rs) = inserted (r.0) (r.1) (set_of rs)

set_of_set : (rs : List (ℕ × ℕ)) → AreRanges rs → IsSet (set_of rs)
unfolding set_of
set_of_set [] a = tt
set_of_set (r ∷ rs) a = inserted_set 0 (r.0) (r.1) (set_of rs) (omega arith) (All-head (λ (x : ℕ × ℕ). x.0 ≤ x.1) r rs a) (set_of_set rs (All-tail (λ (x : ℕ × ℕ). x.0 ≤ x.1) r rs a))

set_of_has : (rs : List (ℕ × ℕ)) → AreRanges rs → (n : ℕ) → Has (set_of rs) n ↔ Has rs n
unfolding set_of
set_of_has [] a n = (λ h. h, λ h. h)
set_of_has (r ∷ rs) a n =
    let rest : AreRanges rs = All-tail (λ (x : ℕ × ℕ). x.0 ≤ x.1) r rs a in
    let more = set_of_has rs rest n in
    let one = inserted_has 0 (r.0) (r.1) n (set_of rs) (set_of_set rs rest) (All-head (λ (x : ℕ × ℕ). x.0 ≤ x.1) r rs a) in (
      λ h. elim (one.0 h) [ inl k ↦ inr (more.0 k) | inr k ↦ inl k ],
      λ h. elim h [ inl k ↦ one.1 (inr k) | inr k ↦ one.1 (inl (more.1 k)) ],
    )

joins_set : (rs : List (ℕ × ℕ)) → AreRanges rs → Joins rs (set_of rs)
joins_set rs a = (set_of_set rs a, set_of_has rs a)

joins_same : (rs v w : List (ℕ × ℕ)) → Joins rs v → Joins rs w → v ≡ w
joins_same rs v w h k = same_ranges 0 v w h.0 k.0 (λ n. (λ x. (k.1 n).1 ((h.1 n).0 x), λ x. (h.1 n).1 ((k.1 n).0 x)))

-- R tells the ranges of a rest.
module _ (R : List ℕ → List (ℕ × ℕ) → Type 0) where
  pub loose_completes : ((rest : List ℕ) (rs : List (ℕ × ℕ)) → R rest rs → AreRanges rs) → ((rest : List ℕ) × (rs : List (ℕ × ℕ)) × R rest rs) →
      (rest : List ℕ) × (set : List (ℕ × ℕ)) × IsLooseRest R rest set
  loose_completes sound h = (h.0, set_of h.1, (h.1, h.2, joins_set h.1 (sound h.0 h.1 h.2)))

  pub loose_ends : (e : Bool) → ((rest : List ℕ) (rs : List (ℕ × ℕ)) → R rest rs → AreRanges rs) → IsTrue e ↔ ((rs : List (ℕ × ℕ)) × R [] rs) →
      IsTrue e ↔ ((set : List (ℕ × ℕ)) × IsLooseRest R [] set)
  loose_ends e sound f = (λ h. (let k = f.0 h in (set_of k.0, (k.0, k.1, joins_set k.0 (sound [] k.0 k.1)))), λ h. f.1 (h.1.0, h.1.1))

  pub loose_one : ((rest : List ℕ) (rs qs : List (ℕ × ℕ)) → R rest rs → R rest qs → rs ≡ qs) → (rest : List ℕ) (v w : List (ℕ × ℕ)) →
      IsLooseRest R rest v → IsLooseRest R rest w → v ≡ w
  loose_one one rest v w h k = joins_same k.0 v w (rw (one rest h.0 k.0 h.1 k.1) at h.2) k.2

  pub loose_is : (most : ℕ) → ((rest : List ℕ) (rs : List (ℕ × ℕ)) → R rest rs ↔ AreLooseTexts most rs rest) → (rest : List ℕ) (set : List (ℕ × ℕ)) →
      IsLooseRest R rest set ↔ IsLooseList most set rest
  loose_is most f rest set = (λ h. (h.2.0, h.0, h.2.1, (f rest h.0).0 h.1), λ h. (h.1, (f rest h.1).1 h.3, (h.0, h.2)))

-- The ranges of texts are such.
range_ordered : (most : ℕ) (r : ℕ × ℕ) (text : List ℕ) → IsLooseRangeText most r text → r.0 ≤ r.1
range_ordered most r text (inl h) = omega (arith, h.0)
range_ordered most r text (inr h) = h.0

pub texts_ranges : (most : ℕ) (rs : List (ℕ × ℕ)) (text : List ℕ) → AreLooseTexts most rs text → AreRanges rs
texts_ranges most [] text h = All-nil (λ (x : ℕ × ℕ). x.0 ≤ x.1)
texts_ranges most (r ∷ []) text h = All-cons (λ (x : ℕ × ℕ). x.0 ≤ x.1) r [] (range_ordered most r text h) (All-nil (λ (x : ℕ × ℕ). x.0 ≤ x.1))
texts_ranges most (r ∷ q ∷ rs) text h = All-cons (λ (x : ℕ × ℕ). x.0 ≤ x.1) r (q ∷ rs) (range_ordered most r h.0 h.3) (texts_ranges most (q ∷ rs) h.1 h.4)

-- Ranges in the order of their first numbers, joined where they overlap or touch.
use Rattle.std.proofs.Common.{◌≡◌, ℕ, suc, ◌+◌, ◌≤◌, ◌<◌, ◌⊎◌, ◌↔◌, inl, inr, cond, ltb, List, [], ◌∷◌, ◌++◌, length, take, drop, get_or, refl, sym, ◌∙◌, ap, arith, max, append_assoc}
use Rattle.std.proofs.Math.ListN.{set}
use Rattle.std.proofs.lemmas.Bool.{lt-ltb, le-ltb}
use Rattle.std.proofs.lemmas.List.{drop-set-lt, drop_all, take_more_set}
use Rattle.std.proofs.lemmas.List.Elements.{All-head, All-tail}
use Rattle.std.proofs.lemmas.List.Sorted.{IsNonDecreasingBy-drop, IsPermutation-sym, Contains-permutation}
use Rattle.std.specs.List.{Contains}
use Rattle.std.specs.List.Sorted.{IsNonDecreasingBy, IsPermutation}
use native.Mathlib.Decide.{dec_lt}
use Prim.{yes, no}
use Rattle.cg_text.specs.Numbers.{IsSetFrom, IsSet, AreRanges, Has}
use Rattle.cg_text.specs.NumbersLaws.{cut_at, has_here}

-- A range and those after it.
unfoldable pub joined : ℕ → ℕ → List (ℕ × ℕ) → List (ℕ × ℕ)
joined low high [] = (low, high) ∷ []
joined low high (r ∷ rs) = cond (ltb (high + 1) (r.0)) ((low, high) ∷ joined (r.0) (r.1) rs) (joined low (max high (r.1)) rs)

pub joined_end : (low high : ℕ) → joined low high [] ≡ (low, high) ∷ []
unfolding joined
joined_end low high = refl

pub joined_apart : (low high : ℕ) (r : ℕ × ℕ) (rs : List (ℕ × ℕ)) → high + 1 < r.0 → joined low high (r ∷ rs) ≡ (low, high) ∷ joined (r.0) (r.1) rs
unfolding joined
joined_apart low high r rs h = rw (lt-ltb (high + 1) (r.0) h)

pub joined_more : (low high : ℕ) (r : ℕ × ℕ) (rs : List (ℕ × ℕ)) → r.0 ≤ high + 1 → joined low high (r ∷ rs) ≡ joined low (max high (r.1)) rs
unfolding joined
joined_more low high r rs h = rw (le-ltb (high + 1) (r.0) h)

-- Each range begins no lower than the one before.
abbrev AreInOrder : ℕ → List (ℕ × ℕ) → Type 0
AreInOrder least [] = Unit {0}
AreInOrder least (r ∷ rs) = (least ≤ r.0) × (r.0 ≤ r.1) × AreInOrder (r.0) rs

order_lower : (m least : ℕ) (rs : List (ℕ × ℕ)) → least ≤ m → AreInOrder m rs → AreInOrder least rs
order_lower m least [] le h = tt
order_lower m least (r ∷ rs) le h = (omega (arith, h.0), h.1, h.2)

order_tail : (r : ℕ × ℕ) (rs : List (ℕ × ℕ)) → AreRanges (r ∷ rs) → IsNonDecreasingBy (λ (x : ℕ × ℕ). x.0) (r ∷ rs) → AreInOrder (r.0) rs
order_tail r [] a o = tt
order_tail r (q ∷ rs) a o =
    let more : AreRanges (q ∷ rs) = All-tail (λ (x : ℕ × ℕ). x.0 ≤ x.1) r (q ∷ rs) a in
    (o 0 1 r (omega arith) (omega arith), All-head (λ (x : ℕ × ℕ). x.0 ≤ x.1) q rs more, order_tail q rs more (IsNonDecreasingBy-drop (λ (x : ℕ × ℕ). x.0) 1 (r ∷ q ∷ rs) o))

-- They are a set's.
joined_set : (least low high : ℕ) (rs : List (ℕ × ℕ)) → least ≤ low → low ≤ high → AreInOrder low rs → IsSetFrom least (joined low high rs)
joined_set least low high [] a b o = rw (joined_end low high) (a, b, tt)
joined_set least low high (r ∷ rs) a b o = elim (dec_lt (high + 1) (r.0)) [
  | yes h ↦ rw (joined_apart low high r rs h) (a, b, joined_set (high + 2) (r.0) (r.1) rs (omega arith) o.1 o.2)
  | no h ↦ rw (joined_more low high r rs (omega arith)) (joined_set least low (max high (r.1)) rs a (omega (arith, b)) (order_lower (r.0) low rs o.0 o.2))
]

-- They have the numbers of all.
both_in : (low high n : ℕ) (r : ℕ × ℕ) → low ≤ high → low ≤ r.0 → r.0 ≤ r.1 → r.0 ≤ high + 1 → ((low ≤ n) × (n ≤ max high (r.1))) ↔ (((low ≤ n) × (n ≤ high)) ⊎ ((r.0 ≤ n) × (n ≤ r.1)))
both_in low high n r a b c d = (
  λ h. elim (dec_lt high n) [ yes k ↦ inr (omega arith, omega (arith, h.1)) | no k ↦ inl (h.0, omega arith) ],
  λ h. elim h [ inl k ↦ (k.0, omega (arith, k.1)) | inr k ↦ (omega (arith, k.0), omega (arith, k.1)) ],
)

joined_has : (low high n : ℕ) (rs : List (ℕ × ℕ)) → low ≤ high → AreInOrder low rs → Has (joined low high rs) n ↔ (((low ≤ n) × (n ≤ high)) ⊎ Has rs n)
joined_has low high n [] b o = rw (joined_end low high) (λ h. h, λ h. h)
joined_has low high n (r ∷ rs) b o = elim (dec_lt (high + 1) (r.0)) [
  | yes h ↦ rw (joined_apart low high r rs h) (let more = joined_has (r.0) (r.1) n rs o.1 o.2 in (
    λ k. elim k [ inl z ↦ inl z | inr z ↦ inr (more.0 z) ],
    λ k. elim k [ inl z ↦ inl z | inr z ↦ inr (more.1 z) ],
  ))
  | no h ↦ rw (joined_more low high r rs (omega arith)) (
      let more = joined_has low (max high (r.1)) n rs (omega (arith, b)) (order_lower (r.0) low rs o.0 o.2) in
      let both = both_in low high n r b o.0 o.1 (omega arith) in (
        λ k. elim (more.0 k) [ inl z ↦ elim (both.0 z) [ inl w ↦ inl w | inr w ↦ inr (inl w) ] | inr z ↦ inr (inr z) ],
        λ k. elim k [ inl z ↦ more.1 (inl (both.1 (inl z))) | inr z ↦ elim z [ inl w ↦ more.1 (inl (both.1 (inr w))) | inr w ↦ more.1 (inr w) ] ],
      ))
]

-- The same of a whole list.
abbrev pub joined_all : List (ℕ × ℕ) → List (ℕ × ℕ)
joined_all [] = []
joined_all (r ∷ rs) = joined (r.0) (r.1) rs

pub joined_all_set : (rs : List (ℕ × ℕ)) → AreRanges rs → IsNonDecreasingBy (λ (x : ℕ × ℕ). x.0) rs → IsSet (joined_all rs)
joined_all_set [] a o = tt
joined_all_set (r ∷ rs) a o = joined_set 0 (r.0) (r.1) rs (omega arith) (All-head (λ (x : ℕ × ℕ). x.0 ≤ x.1) r rs a) (order_tail r rs a o)

pub joined_all_has : (rs : List (ℕ × ℕ)) → AreRanges rs → IsNonDecreasingBy (λ (x : ℕ × ℕ). x.0) rs → (n : ℕ) → Has (joined_all rs) n ↔ Has rs n
joined_all_has [] a o n = (λ h. h, λ h. h)
joined_all_has (r ∷ rs) a o n = joined_has (r.0) (r.1) n rs (All-head (λ (x : ℕ × ℕ). x.0 ≤ x.1) r rs a) (order_tail r rs a o)

-- Ranges in another order have the same numbers.
range_of : (rs : List (ℕ × ℕ)) (n : ℕ) → Has rs n → (r : ℕ × ℕ) × Contains rs r × ((r.0 ≤ n) × (n ≤ r.1))
range_of [] n h = absurd h
range_of (r ∷ rs) n (inl h) = (r, (0, omega arith, refl), h)
range_of (r ∷ rs) n (inr h) = let more = range_of rs n h in (more.0, (suc more.1.0, omega (arith, more.1.1), more.1.2), more.2)

has_moved : (xs ys : List (ℕ × ℕ)) (n : ℕ) → IsPermutation xs ys → Has xs n → Has ys n
has_moved xs ys n p h =
    let one = range_of xs n h in
    let there = Contains-permutation xs ys one.0 p one.1 in
    has_here ys one.0 one.0 there.0 n there.1 there.2 one.2

pub has_permuted : (xs ys : List (ℕ × ℕ)) (n : ℕ) → IsPermutation xs ys → Has ys n ↔ Has xs n
has_permuted xs ys n p = (has_moved ys xs n (IsPermutation-sym xs ys p), has_moved xs ys n p)

-- A step of the loop: the ranges that are done, and then those from place i on.
module _ (all rs : List (ℕ × ℕ)) (i done low high : ℕ) (r d : ℕ × ℕ) (whole : take done rs ++ joined low high (drop i rs) ≡ all) where
  pub next_apart : done < i → i < length rs → get_or rs i d ≡ r → high + 1 < r.0 →
      take (done + 1) (set rs done (low, high)) ++ joined (r.0) (r.1) (drop (i + 1) (set rs done (low, high))) ≡ all
  next_apart before within e apart =
      let here : drop i rs ≡ r ∷ drop (i + 1) rs = cut_at rs r d i within e in
      let first : take (done + 1) (set rs done (low, high)) ≡ take done rs ++ (low, high) ∷ [] = take_more_set rs done (low, high) (omega arith) in
      let last : drop (i + 1) (set rs done (low, high)) ≡ drop (i + 1) rs = drop-set-lt (i + 1) rs done (low, high) (omega arith) in
      rw (first, last) (
      append_assoc (take done rs) ((low, high) ∷ []) (joined (r.0) (r.1) (drop (i + 1) rs))
      ∙ ap (λ x. take done rs ++ x) (sym (ap (joined low high) here ∙ joined_apart low high r (drop (i + 1) rs) apart))
      ∙ whole)

  pub next_more : i < length rs → get_or rs i d ≡ r → r.0 ≤ high + 1 → take done rs ++ joined low (max high (r.1)) (drop (i + 1) rs) ≡ all
  next_more within e touch =
      let here : drop i rs ≡ r ∷ drop (i + 1) rs = cut_at rs r d i within e in
      ap (λ x. take done rs ++ x) (sym (ap (joined low high) here ∙ joined_more low high r (drop (i + 1) rs) touch)) ∙ whole

  pub next_none : done < length rs → length rs ≤ i → take (done + 1) (set rs done (low, high)) ≡ all
  next_none within past =
      let none : drop i rs ≡ [] = drop_all i rs past in
      take_more_set rs done (low, high) within ∙ ap (λ x. take done rs ++ x) (sym (ap (joined low high) none ∙ joined_end low high)) ∙ whole

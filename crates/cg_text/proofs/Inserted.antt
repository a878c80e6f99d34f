-- A range among those of a set, in the place of those that it overlaps or touches.
use Rattle.std.proofs.Common.{◌≡◌, ℕ, zero, suc, ◌+◌, ◌-◌, ◌≤◌, ◌<◌, ◌⊎◌, ◌↔◌, inl, inr, Bool, true, false, ltb, leb, not, IsTrue, List, [], ◌∷◌, ◌++◌, length, take, drop, get_or, refl, sym, ◌∙◌, arith, min, max, append_assoc}
use Rattle.std.proofs.Math.ListN.{set}
use Rattle.std.proofs.lemmas.Bool.{lt-ltb, le-ltb, lt-leb, le-leb, ltb-true, ltb-false, leb-true, leb-false, false≢true}
use Rattle.std.proofs.lemmas.List.{drop-set-lt, take_more_set, take-append-drop}
use Rattle.std.specs.List.{remove_range}
use Rattle.std.specs.List.Sorted.{IsNonDecreasingBy, IsPartitionPoint}
use native.Mathlib.Decide.{dec_lt}
use Prim.{yes, no}
use Rattle.cg_text.specs.Numbers.{IsSetFrom, IsSet, Has}
use Rattle.cg_text.specs.NumbersLaws.{inserted, inserted_set, inserted_has, same_ranges, has_append, has_here, set_at}

-- The ranges of a set rise.
rises : (least : ℕ) (rs : List (ℕ × ℕ)) (d : ℕ × ℕ) (i j : ℕ) → IsSetFrom least rs → i < j → j < length rs → (get_or rs i d).1 + 2 ≤ (get_or rs j d).0
rises least [] d i j s lt b = absurd (omega arith)
rises least (r ∷ rs) d i zero s lt b = absurd (omega arith)
rises least (r ∷ rs) d zero (suc j) s lt b = (set_at (r.1 + 2) rs d j s.2 (omega arith)).0
rises least (r ∷ rs) d (suc i) (suc j) s lt b = rises (r.1 + 2) rs d i j s.2 (omega arith) (omega arith)

pub firsts_rise : (rs : List (ℕ × ℕ)) → IsSet rs → IsNonDecreasingBy (λ (r : ℕ × ℕ). r.0) rs
firsts_rise rs s i j d le b = elim (dec_lt i j) [
  | yes lt ↦ omega (arith, rises 0 rs d i j s lt b, set_at 0 rs d i s (omega arith))
  | no h ↦ (let e : i ≡ j = omega arith in rw e (omega arith))
]

pub ends_rise : (rs : List (ℕ × ℕ)) → IsSet rs → IsNonDecreasingBy (λ (r : ℕ × ℕ). r.1 + 1) rs
ends_rise rs s i j d le b = elim (dec_lt i j) [
  | yes lt ↦ omega (arith, rises 0 rs d i j s lt b, set_at 0 rs d j s b)
  | no h ↦ (let e : i ≡ j = omega arith in rw e (omega arith))
]

-- So what the last range is bounds them all.
pub all_below : (rs : List (ℕ × ℕ)) (r : ℕ × ℕ) (first : ℕ) → IsSet rs → ((d : ℕ × ℕ) → r ≡ get_or rs (length rs - 1) d) → r.1 + 1 < first → IsPartitionPoint (λ (x : ℕ × ℕ). x.1 + 1 < first) (λ (x : ℕ × ℕ). first ≤ x.1 + 1) rs (length rs)
all_below rs r first s e h = (
  λ k d _ b. (
      let end : (get_or rs k d).1 + 1 ≤ r.1 + 1 = rw (e d) (ends_rise rs s k (length rs - 1) d (omega arith) (omega arith)) in
      omega (arith, end)),
  λ k d a b. absurd (omega arith),
)

pub all_up_to : (rs : List (ℕ × ℕ)) (r : ℕ × ℕ) (last : ℕ) → IsSet rs → ((d : ℕ × ℕ) → r ≡ get_or rs (length rs - 1) d) → r.0 ≤ last + 1 → IsPartitionPoint (λ (x : ℕ × ℕ). x.0 ≤ last + 1) (λ (x : ℕ × ℕ). last + 1 < x.0) rs (length rs)
all_up_to rs r last s e h = (
  λ k d _ b. (
      let begin : (get_or rs k d).0 ≤ r.0 = rw (e d) (firsts_rise rs s k (length rs - 1) d (omega arith) (omega arith)) in
      omega (arith, begin)),
  λ k d a b. absurd (omega arith),
)

-- The new ranges are a set's.
set_drop : (least m : ℕ) (rs : List (ℕ × ℕ)) (d : ℕ × ℕ) (i : ℕ) → IsSetFrom least rs → (i < length rs → m ≤ (get_or rs i d).0) → IsSetFrom m (drop i rs)
set_drop least m [] d zero s h = tt
set_drop least m [] d (suc i) s h = tt
set_drop least m (r ∷ rs) d zero s h = (h (omega arith), s.1, s.2)
set_drop least m (r ∷ rs) d (suc i) s h = set_drop (r.1 + 2) m rs d i s.2 (λ b. h (omega arith))

placed_set : (least low high : ℕ) (rs : List (ℕ × ℕ)) (d : ℕ × ℕ) (from to : ℕ) → IsSetFrom least rs → least ≤ low → low ≤ high → from ≤ to → to ≤ length rs →
    ((k : ℕ) → k < from → (get_or rs k d).1 + 2 ≤ low) → (to < length rs → high + 2 ≤ (get_or rs to d).0) →
    IsSetFrom least (take from rs ++ (low, high) ∷ drop to rs)
placed_set least low high rs d zero to s a b le le' below above = (a, b, set_drop least (high + 2) rs d to s above)
placed_set least low high [] d (suc from) to s a b le le' below above = absurd (omega arith)
placed_set least low high (r ∷ rs) d (suc from) zero s a b le le' below above = absurd (omega arith)
placed_set least low high (r ∷ rs) d (suc from) (suc to) s a b le le' below above = (
  s.0,
  s.1,
  placed_set (r.1 + 2) low high rs d from to s.2 (below 0 (omega arith)) b (omega arith) (omega arith) (λ k lt. below (suc k) (omega arith)) (λ lt. above (omega arith)),
)

-- They have the numbers of both.
range_at : (rs : List (ℕ × ℕ)) (d : ℕ × ℕ) (n : ℕ) → Has rs n → (k : ℕ) × (k < length rs) × (((get_or rs k d).0 ≤ n) × (n ≤ (get_or rs k d).1))
range_at [] d n h = absurd h
range_at (r ∷ rs) d n (inl h) = (0, omega arith, h)
range_at (r ∷ rs) d n (inr h) = let more = range_at rs d n h in (suc more.0, omega (arith, more.1), more.2)

has_taken : (rs : List (ℕ × ℕ)) (d : ℕ × ℕ) (i k n : ℕ) → k < i → k < length rs → ((get_or rs k d).0 ≤ n) × (n ≤ (get_or rs k d).1) → Has (take i rs) n
has_taken [] d i k n lt b h = absurd (omega arith)
has_taken (r ∷ rs) d zero k n lt b h = absurd (omega arith)
has_taken (r ∷ rs) d (suc i) zero n lt b h = inl h
has_taken (r ∷ rs) d (suc i) (suc k) n lt b h = inr (has_taken rs d i k n (omega arith) (omega arith) h)

has_dropped : (rs : List (ℕ × ℕ)) (d : ℕ × ℕ) (i k n : ℕ) → i ≤ k → k < length rs → ((get_or rs k d).0 ≤ n) × (n ≤ (get_or rs k d).1) → Has (drop i rs) n
has_dropped rs d zero k n le b h = has_here rs (get_or rs k d) d k n b refl h
has_dropped [] d (suc i) k n le b h = absurd (omega arith)
has_dropped (r ∷ rs) d (suc i) zero n le b h = absurd (omega arith)
has_dropped (r ∷ rs) d (suc i) (suc k) n le b h = has_dropped rs d i k n (omega arith) (omega arith) h

has_part : (rs : List (ℕ × ℕ)) (i n : ℕ) → Has (take i rs) n ⊎ Has (drop i rs) n → Has rs n
has_part rs i n h = let whole = (has_append (take i rs) (drop i rs) n).1 h in rw (take-append-drop i rs) at whole

placed_has : (low high first last n : ℕ) (rs : List (ℕ × ℕ)) (d : ℕ × ℕ) (from to : ℕ) → low ≤ first → last ≤ high →
    (low ≤ n → n ≤ high → Has rs n ⊎ ((first ≤ n) × (n ≤ last))) →
    ((k : ℕ) → from ≤ k → k < to → k < length rs → (low ≤ (get_or rs k d).0) × ((get_or rs k d).1 ≤ high)) →
    Has (take from rs ++ (low, high) ∷ drop to rs) n ↔ (Has rs n ⊎ ((first ≤ n) × (n ≤ last)))
placed_has low high first last n rs d from to a b mid cover =
    let parts = has_append (take from rs) ((low, high) ∷ drop to rs) n in (
      λ h. elim (parts.0 h) [ inl k ↦ inl (has_part rs from n (inl k)) | inr k ↦ elim k [ inl z ↦ mid z.0 z.1 | inr z ↦ inl (has_part rs to n (inr z)) ] ],
      λ h. parts.1 (elim h [
        | inl k ↦ (let one = range_at rs d n k in elim (dec_lt one.0 from) [
          | yes lt ↦ inl (has_taken rs d from one.0 n lt one.1 one.2)
          | no ge ↦ elim (dec_lt one.0 to) [
            | yes lt ↦ (let c = cover one.0 (omega arith) lt one.1 in inr (inl (omega (arith, c.0, one.2.0), omega (arith, c.1, one.2.1))))
            | no ge' ↦ inr (inr (has_dropped rs d to one.0 n (omega arith) one.1 one.2))
          ]
        ])
        | inr k ↦ inr (inl (omega (arith, k.0), omega (arith, k.1)))
      ]),
    )

-- Those before place from lie apart below, and those from place to on apart above.
module _ (rs : List (ℕ × ℕ)) (first last from to : ℕ) (set : IsSet rs) (order : first ≤ last) (from_in : from ≤ length rs) (to_in : to ≤ length rs)
    (below : IsPartitionPoint (λ (r : ℕ × ℕ). r.1 + 1 < first) (λ (r : ℕ × ℕ). first ≤ r.1 + 1) rs from)
    (above : IsPartitionPoint (λ (r : ℕ × ℕ). r.0 ≤ last + 1) (λ (r : ℕ × ℕ). last + 1 < r.0) rs to) where
  pub places_rise : from ≤ to
  places_rise = elim (dec_lt to from) [
    | yes lt ↦ absurd (omega (arith, below.0 to (0, 0) (omega arith) lt, above.1 to (0, 0) (omega arith) (omega arith), set_at 0 rs (0, 0) to set (omega arith)))
    | no h ↦ omega arith
  ]

  pub inserted_apart : from ≡ to → take from rs ++ (first, last) ∷ drop from rs ≡ inserted first last rs
  inserted_apart e =
      let d : ℕ × ℕ = (0, 0) in
      same_ranges 0 (take from rs ++ (first, last) ∷ drop from rs) (inserted first last rs)
      (placed_set 0 first last rs d from from set (omega arith) order (omega arith) from_in (λ k lt. omega (arith, below.0 k d (omega arith) lt)) (λ lt. omega (arith, above.1 from d (omega arith) lt)))
      (inserted_set 0 first last rs (omega arith) order set)
      (λ n. (
      let one = placed_has first last first last n rs d from from (omega arith) (omega arith) (λ a b. inr (a, b)) (λ k a b. absurd (omega arith)) in
      let two = inserted_has 0 first last n rs set order in
      (λ h. two.1 (one.0 h), λ h. one.1 (two.0 h))))

  pub inserted_over : (a b d : ℕ × ℕ) → from < to → get_or rs from d ≡ a → get_or rs (to - 1) d ≡ b →
      take from rs ++ (min first (a.0), max last (b.1)) ∷ drop to rs ≡ inserted first last rs
  inserted_over a b d lt e g =
      let low : ℕ = min first (a.0) in
      let high : ℕ = max last (b.1) in
      let a_low : first ≤ a.1 + 1 = rw e at (below.1 from d (omega arith) (omega arith)) in
      let a_high : a.0 ≤ last + 1 = rw e at (above.0 from d (omega arith) lt) in
      let b_low : first ≤ b.1 + 1 = rw g at (below.1 (to - 1) d (omega arith) (omega arith)) in
      let b_high : b.0 ≤ last + 1 = rw g at (above.0 (to - 1) d (omega arith) (omega arith)) in
      let before : (k : ℕ) → k < from → (get_or rs k d).1 + 2 ≤ low = λ k less. (
      let r : (get_or rs k d).1 + 2 ≤ a.0 = rw e at (rises 0 rs d k from set less (omega arith)) in
      omega (arith, r, below.0 k d (omega arith) less)) in
      let after : to < length rs → high + 2 ≤ (get_or rs to d).0 = λ less. (
      let r : b.1 + 2 ≤ (get_or rs to d).0 = rw g at (rises 0 rs d (to - 1) to set (omega arith) less) in
      omega (arith, r, above.1 to d (omega arith) less)) in
      let cover : (k : ℕ) → from ≤ k → k < to → k < length rs → (low ≤ (get_or rs k d).0) × ((get_or rs k d).1 ≤ high) = λ k ge less _. (
      let r : a.0 ≤ (get_or rs k d).0 = rw e at (firsts_rise rs set from k d ge (omega arith)) in
      let q : (get_or rs k d).1 + 1 ≤ b.1 + 1 = rw g at (ends_rise rs set k (to - 1) d (omega arith) (omega arith)) in
      (omega (arith, r), omega (arith, q))) in
      same_ranges 0 (take from rs ++ (low, high) ∷ drop to rs) (inserted first last rs)
      (placed_set 0 low high rs d from to set (omega arith) (omega (arith, order)) (omega arith) to_in before after)
      (inserted_set 0 first last rs (omega arith) order set)
      (λ n. (
      let mid : low ≤ n → n ≤ high → Has rs n ⊎ ((first ≤ n) × (n ≤ last)) = λ x y. elim (dec_lt n first) [
        | yes h ↦ inl (has_here rs a d from n (omega arith) e (omega arith, omega (arith, a_low)))
        | no h ↦ elim (dec_lt last n) [
          | yes k ↦ inl (has_here rs b d (to - 1) n (omega arith) g (omega (arith, b_high), omega arith))
          | no k ↦ inr (omega arith, omega arith)
        ]
      ] in
      let one = placed_has low high first last n rs d from to (omega arith) (omega arith) mid cover in
      let two = inserted_has 0 first last n rs set order in
      (λ h. two.1 (one.0 h), λ h. one.1 (two.0 h))))

-- A range is written over the first of those that vanish.
pub written_over : (rs : List (ℕ × ℕ)) (v : ℕ × ℕ) (from to : ℕ) → from < to → to ≤ length rs →
    remove_range (set rs from v) (from + 1) to ≡ take from rs ++ v ∷ drop to rs
written_over rs v from to lt le =
    let front : take (from + 1) (set rs from v) ≡ take from rs ++ v ∷ [] = take_more_set rs from v (omega arith) in
    let back : drop to (set rs from v) ≡ drop to rs = drop-set-lt to rs from v lt in
    rw (front, back) (append_assoc (take from rs) (v ∷ []) (drop to rs))

-- Tests that tell whether x is below y.
pub same_test : (r : Bool) (x y : ℕ) → IsTrue r ↔ (x < y) → r ≡ ltb x y
same_test true x y f = sym (lt-ltb x y (f.0 refl))
same_test false x y f = elim (dec_lt x y) [ yes h ↦ absurd (false≢true (f.1 h)) | no h ↦ sym (le-ltb x y (omega arith)) ]

pub other_test : (r b : Bool) (x y : ℕ) → r ≡ not b → IsTrue b ↔ (x < y) → r ≡ leb y x
other_test r true x y e f = e ∙ sym (lt-leb y x (f.0 refl))
other_test r false x y e f = elim (dec_lt x y) [ yes h ↦ absurd (false≢true (f.1 h)) | no h ↦ e ∙ sym (le-leb y x (omega arith)) ]

-- The place that a search by such a test gives.
pub parted_below : (rs : List (ℕ × ℕ)) (first i : ℕ) → IsPartitionPoint (λ (x : ℕ × ℕ). ltb (x.1 + 1) first ≡ true) (λ (x : ℕ × ℕ). ltb (x.1 + 1) first ≡ false) rs i →
    IsPartitionPoint (λ (x : ℕ × ℕ). x.1 + 1 < first) (λ (x : ℕ × ℕ). first ≤ x.1 + 1) rs i
parted_below rs first i h = (λ k d a b. ltb-true _ _ (h.0 k d a b), λ k d a b. ltb-false _ _ (h.1 k d a b))

pub parted_up_to : (rs : List (ℕ × ℕ)) (last i : ℕ) → IsPartitionPoint (λ (x : ℕ × ℕ). leb (x.0) (last + 1) ≡ true) (λ (x : ℕ × ℕ). leb (x.0) (last + 1) ≡ false) rs i →
    IsPartitionPoint (λ (x : ℕ × ℕ). x.0 ≤ last + 1) (λ (x : ℕ × ℕ). last + 1 < x.0) rs i
parted_up_to rs last i h = (λ k d a b. leb-true _ _ (h.0 k d a b), λ k d a b. leb-false _ _ (h.1 k d a b))

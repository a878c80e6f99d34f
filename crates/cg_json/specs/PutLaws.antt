-- Members that are put into an object lie in the order of their keys, in whichever order they are put.
use Rattle.std.proofs.Common.{◌≡◌, ℕ, zero, suc, ◌<◌, true, false, List, [], ◌∷◌, map, length, get_or, set, Ordering, Less, Equal, Greater, is_eq, IsPermutation, refl, sym, ap, ◌∙◌, arith, add-one, true≢false}
use Rattle.std.proofs.lemmas.Cmp.{nat_list_cmp_total}
use Rattle.std.proofs.lemmas.List.Folds.{fold-map}
use Rattle.std.proofs.lemmas.List.Sorted.{IsPermutation-keeps}
use Rattle.std.proofs.lemmas.Map.Text.{is_eq-slice_cmp}
use Rattle.std.proofs.lemmas.Simd.{map-map}
use Rattle.std.proofs.lemmas.Slice.Eq.{bytes_eq-Decides}
use Rattle.std.specs.Cmp.Lexicographic.{slice_cmp}
use Rattle.std.specs.List.{fold, swap}
use Rattle.std.specs.List.Sorted.{IsSortedBy}
use Rattle.std.specs.Ordering.{is_lt, nat_cmp, ordering_reverse}
use Rattle.serde_json.specs.Data.{Data, Members, no_members, member, put}
use Rattle.cg_text.specs.Distinct.{AreDistinct, LacksValue}
use Rattle.cg_json.specs.Compact.{listed, AreRising}

-- ---- Keys

abbrev order : List ℕ → List ℕ → Ordering
order = slice_cmp nat_cmp

turned : (k l : List ℕ) (o : Ordering) → order k l ≡ o → order l k ≡ ordering_reverse o
turned k l o h = nat_list_cmp_total.antisymm l k ∙ ap ordering_reverse h

-- Keys that differ come one before the other.
apart : (k l : List ℕ) → (k ≡ l → ⊥) → order k l ≡ Equal → ⊥
apart k l differ h = differ ((bytes_eq-Decides k l).0 (sym (is_eq-slice_cmp k l) ∙ ap is_eq h))

-- ---- Two puts

put_first : (k l : List ℕ) (d e : Data) (ms : Members) → order k l ≡ Less → put k d (member l e ms) ≡ member k d (member l e ms)
put_first k l d e ms h = rw h refl

put_over : (k l : List ℕ) (d e : Data) (ms : Members) → order k l ≡ Equal → put k d (member l e ms) ≡ member l d ms
put_over k l d e ms h = rw h refl

put_past : (k l : List ℕ) (d e : Data) (ms : Members) → order k l ≡ Greater → put k d (member l e ms) ≡ member l e (put k d ms)
put_past k l d e ms h = rw h refl

-- Both come before the members that are there.
both_first : (k l : List ℕ) (d e : Data) (ms : Members) → (order k l ≡ Equal → ⊥) → put k d ms ≡ member k d ms → put l e ms ≡ member l e ms
    → put k d (member l e ms) ≡ put l e (member k d ms)
both_first k l d e ms differ p q = go (order k l) refl
  where
    go : (o : Ordering) → order k l ≡ o → put k d (member l e ms) ≡ put l e (member k d ms)
    go Less h = put_first k l d e ms h ∙ sym (put_past l k e d ms (turned k l Less h) ∙ ap (λ (ns : Members). member k d ns) q)
    go Equal h = absurd (differ h)
    go Greater h = put_past k l d e ms h ∙ ap (λ (ns : Members). member l e ns) p ∙ sym (put_first l k e d ms (turned k l Greater h))

-- The one comes before the first member, and the other does not.
one_first : (k l m : List ℕ) (d e f g : Data) (ms ns : Members) → order k m ≡ Less → order l k ≡ Greater → put l e (member m f ms) ≡ member m g ns
    → put k d (put l e (member m f ms)) ≡ put l e (put k d (member m f ms))
one_first k l m d e f g ms ns h i p =
    (ap (λ (os : Members). put k d os) p ∙ put_first k m d g ns h)
    ∙ sym (ap (λ (os : Members). put l e os) (put_first k m d f ms h) ∙ put_past l k e d (member m f ms) i ∙ ap (λ (os : Members). member k d os) p)

-- The one has the key of the first member, and the other comes after it.
one_over : (k l m : List ℕ) (d e f : Data) (ms : Members) → order k m ≡ Equal → order l m ≡ Greater
    → put k d (put l e (member m f ms)) ≡ put l e (put k d (member m f ms))
one_over k l m d e f ms h i =
    (ap (λ (os : Members). put k d os) (put_past l m e f ms i) ∙ put_over k m d f (put l e ms) h)
    ∙ sym (ap (λ (os : Members). put l e os) (put_over k m d f ms h) ∙ put_past l m e d ms i)

-- Both come after the first member.
both_past : (k l m : List ℕ) (d e f : Data) (ms : Members) → order k m ≡ Greater → order l m ≡ Greater → put k d (put l e ms) ≡ put l e (put k d ms)
    → put k d (put l e (member m f ms)) ≡ put l e (put k d (member m f ms))
both_past k l m d e f ms h i more =
    (ap (λ (os : Members). put k d os) (put_past l m e f ms i) ∙ put_past k m d f (put l e ms) h)
    ∙ (ap (λ (os : Members). member m f os) more
    ∙ sym (ap (λ (os : Members). put l e os) (put_past k m d f ms h) ∙ put_past l m e f (put k d ms) i))

-- Puts of two keys may change places.
put_turn : (k l : List ℕ) (d e : Data) (ms : Members) → (order k l ≡ Equal → ⊥) → put k d (put l e ms) ≡ put l e (put k d ms)
put_turn k l d e no_members differ = both_first k l d e no_members differ refl refl
put_turn k l d e (member m f ms) differ = go (order k m) (order l m) refl refl (put_turn k l d e ms differ)
  where
    go : (o p : Ordering) → order k m ≡ o → order l m ≡ p → put k d (put l e ms) ≡ put l e (put k d ms)
        → put k d (put l e (member m f ms)) ≡ put l e (put k d (member m f ms))
    go Less Less h i more =
        ap (λ (os : Members). put k d os) (put_first l m e f ms i)
        ∙ both_first k l d e (member m f ms) differ (put_first k m d f ms h) (put_first l m e f ms i)
        ∙ ap (λ (os : Members). put l e os) (sym (put_first k m d f ms h))
    go Less Equal h i more = one_first k l m d e f e ms ms h (nat_list_cmp_total.congr l m k i ∙ turned k m Less h) (put_over l m e f ms i)
    go Less Greater h i more = one_first k l m d e f f ms (put l e ms) h (turned k l Less (nat_list_cmp_total.trans k m l h (turned l m Greater i))) (put_past l m e f ms i)
    go Equal Less h i more = sym (one_first l k m e d f d ms ms i (nat_list_cmp_total.congr k m l h ∙ turned l m Less i) (put_over k m d f ms h))
    go Equal Equal h i more = absurd (differ (nat_list_cmp_total.congr k m l h ∙ turned l m Equal i))
    go Equal Greater h i more = one_over k l m d e f ms h i
    go Greater Less h i more = sym (one_first l k m e d f f ms (put k d ms) i (turned l k Less (nat_list_cmp_total.trans l m k i (turned k m Greater h))) (put_past k m d f ms h))
    go Greater Equal h i more = sym (one_over l k m e d f ms i h)
    go Greater Greater h i more = both_past k l m d e f ms h i more

-- ---- Orders of a list

-- A relation holds along each permutation if it is reflexive and transitive, goes under a head, and over an exchange of two heads.
module _ {X : Type 0} (R : List X → List X → Type 0) (same : (xs : List X) → R xs xs)
    (skip : (x : X) (xs ys : List X) → R xs ys → R (x ∷ xs) (x ∷ ys))
    (turn : (x y : X) (xs : List X) → R (x ∷ y ∷ xs) (y ∷ x ∷ xs))
    (chain : (xs ys zs : List X) → R xs ys → R ys zs → R xs zs) where
  to_head : (l : List X) (j : ℕ) (x d : X) → j < length l → R (x ∷ l) (get_or l j d ∷ set l j x)
  to_head [] j x d h = absurd (omega arith)
  to_head (y ∷ l) zero x d h = turn x y l
  to_head (y ∷ l) (suc j) x d h =
      chain _ _ _ (turn x y l) (chain _ _ _ (skip y _ _ (to_head l j x d (omega arith))) (turn y (get_or l j d) (set l j x)))

  exchanged : (l : List X) (i j : ℕ) (d : X) → i < length l → j < length l → R l (set (set l i (get_or l j d)) j (get_or l i d))
  exchanged [] i j d p q = absurd (omega arith)
  exchanged (x ∷ l) zero zero d p q = same (x ∷ l)
  exchanged (x ∷ l) zero (suc j) d p q = to_head l j x d (omega arith)
  exchanged (x ∷ l) (suc i) zero d p q = to_head l i x d (omega arith)
  exchanged (x ∷ l) (suc i) (suc j) d p q = skip x _ _ (exchanged l i j d (omega arith) (omega arith))

  swapped : (l : List X) (i j : ℕ) → i < length l → j < length l → R l (swap l i j)
  swapped [] i j p q = same []
  swapped (x ∷ l) i j p q = exchanged (x ∷ l) i j x p q

  along_permutation : (xs ys : List X) → IsPermutation xs ys → R xs ys
  along_permutation xs = IsPermutation-keeps xs (R xs) (same xs) (λ l i j p q h. chain xs l _ h (swapped l i j p q))

module _ {X : Type 0} (key : X → List ℕ) (f : X → Data) where
  abbrev all_put : List X → Members → Members
  all_put xs ms = fold (λ ns x. put (key x) (f x) ns) ms xs

  -- The other order has the same keys, and makes the same members.
  record IsSame (xs ys : List X) : Type 0 where
    distinct : AreDistinct (map key ys)
    lacks : (k : List ℕ) → LacksValue k (map key xs) → LacksValue k (map key ys)
    puts : (ms : Members) → all_put xs ms ≡ all_put ys ms

  abbrev IsMoved : List X → List X → Type 0
  IsMoved xs ys = AreDistinct (map key xs) → IsSame xs ys

  moved_skip : (x : X) (xs ys : List X) → IsMoved xs ys → IsMoved (x ∷ xs) (x ∷ ys)
  moved_skip x xs ys h d =
      let s = h d.1 in
      record { distinct = (s.lacks (key x) d.0, s.distinct); lacks = λ k l. (l.0, s.lacks k l.1); puts = λ ms. s.puts (put (key x) (f x) ms) }

  moved_turn : (x y : X) (xs : List X) → IsMoved (x ∷ y ∷ xs) (y ∷ x ∷ xs)
  moved_turn x y xs d = record {
    distinct = ((λ e. d.0.0 (sym e), d.1.0), (d.0.1, d.1.1));
    lacks = λ k l. (l.1.0, (l.0, l.1.1));
    puts = λ ms. ap (all_put xs) (put_turn (key y) (key x) (f y) (f x) ms (apart (key y) (key x) (λ e. d.0.0 (sym e))));
  }

  moved_chain : (xs ys zs : List X) → IsMoved xs ys → IsMoved ys zs → IsMoved xs zs
  moved_chain xs ys zs g h d =
      let a = g d in
      let b = h a.distinct in
      record { distinct = b.distinct; lacks = λ k l. b.lacks k (a.lacks k l); puts = λ ms. a.puts ms ∙ b.puts ms }

  moved : (xs ys : List X) → IsPermutation xs ys → IsMoved xs ys
  moved = along_permutation IsMoved (λ xs d. record { distinct = d; lacks = λ k l. l; puts = λ ms. refl }) moved_skip moved_turn moved_chain

  -- ---- Members in order

  -- A put of a key that no later one has may come last.
  put_late : (x : X) (xs : List X) (ms : Members) → LacksValue (key x) (map key xs) → all_put xs (put (key x) (f x) ms) ≡ put (key x) (f x) (all_put xs ms)
  put_late x [] ms l = refl
  put_late x (y ∷ xs) ms l =
      ap (all_put xs) (put_turn (key y) (key x) (f y) (f x) ms (apart (key y) (key x) (λ e. l.0 (sym e))))
      ∙ put_late x xs (put (key y) (f y) ms) l.1

  rising_rest : (x : X) (xs : List X) → AreRising key (x ∷ xs) → AreRising key xs
  rising_rest x xs up = λ k d h. rw add-one (rw add-one at (up (suc k) d (omega arith)))

  put_front : (x : X) (xs : List X) → AreRising key (x ∷ xs) → put (key x) (f x) (listed key f xs) ≡ listed key f (x ∷ xs)
  put_front x [] up = refl
  put_front x (y ∷ xs) up = put_first (key x) (key y) (f x) (f y) (listed key f xs) (up 0 x (omega arith))

  -- Members whose keys rise lie as they are put.
  pub put_rising : (xs : List X) → AreDistinct (map key xs) → AreRising key xs → fold (λ ns x. put (key x) (f x) ns) no_members xs ≡ listed key f xs
  put_rising [] d up = refl
  put_rising (x ∷ xs) d up =
      put_late x xs no_members d.0 ∙ (ap (λ (ms : Members). put (key x) (f x) ms) (put_rising xs d.1 (rising_rest x xs up)) ∙ put_front x xs up)

  rising_more : (x y : X) (xs : List X) → order (key x) (key y) ≡ Less → AreRising key (y ∷ xs) → AreRising key (x ∷ y ∷ xs)
  rising_more x y xs first up zero d h = first
  rising_more x y xs first up (suc k) d h = rw add-one (rw add-one at (up k d (omega arith)))

  -- Of two keys that differ, the one that isn't after the other is before it.
  goes_first : (x y : X) → (key x ≡ key y → ⊥) → is_lt (order (key y) (key x)) ≡ false → order (key x) (key y) ≡ Less
  goes_first x y differ h = go (order (key x) (key y)) refl
    where
      go : (o : Ordering) → order (key x) (key y) ≡ o → order (key x) (key y) ≡ Less
      go Less e = e
      go Equal e = absurd (apart (key x) (key y) differ e)
      go Greater e = absurd (true≢false (sym (ap is_lt (turned (key x) (key y) Greater e)) ∙ h))

  -- Members that are sorted by keys that are all different rise.
  sorted_rising : (xs : List X) → AreDistinct (map key xs) → IsSortedBy (λ a b. is_lt (order (key a) (key b))) xs → AreRising key xs
  sorted_rising [] d s = λ k e h. absurd (omega arith)
  sorted_rising (x ∷ []) d s = λ k e h. absurd (omega arith)
  sorted_rising (x ∷ y ∷ xs) d s =
      let later : IsSortedBy (λ a b. is_lt (order (key a) (key b))) (y ∷ xs) = λ k e p q. rw add-one (rw add-one at (s (suc k) e (omega arith) (omega arith))) in
      rising_more x y xs (goes_first x y d.0.0 (s 0 x (omega arith) (omega arith))) (sorted_rising (y ∷ xs) d.1 later)

  put_moved : (xs ys : List X) → AreDistinct (map key xs) → IsPermutation xs ys → IsSortedBy (λ a b. is_lt (order (key a) (key b))) ys
      → all_put xs no_members ≡ listed key f ys
  put_moved xs ys d p sorted =
      let s = moved xs ys p d in
      s.puts no_members ∙ put_rising ys s.distinct (sorted_rising ys s.distinct sorted)

-- Members are put as they are listed where they are sorted by their keys. Here they are sorted by what stands for them.
pub put_sorted : {X Y : Type 0} (key : X → List ℕ) (f : X → Data) (at : Y → X) (xs : List X) (ys zs : List Y) → AreDistinct (map key xs) → map at ys ≡ xs
    → IsPermutation ys zs → IsSortedBy (λ a b. is_lt (slice_cmp nat_cmp (key (at a)) (key (at b)))) zs
    → fold (λ ns x. put (key x) (f x) ns) no_members xs ≡ listed (λ y. key (at y)) (λ y. f (at y)) zs
put_sorted key f at xs ys zs d e p s =
    let apart_there : AreDistinct (map (λ y. key (at y)) ys) = rw (← map-map key at ys, e) d in
    rw (← e, fold-map (λ ns x. put (key x) (f x) ns) at no_members ys) (put_moved (λ y. key (at y)) (λ y. f (at y)) ys zs apart_there p s)

-- What tests as less is less.
pub less_is : (o : Ordering) → is_lt o ≡ true → o ≡ Less
less_is Less h = refl
less_is Equal h = absurd (true≢false (sym h))
less_is Greater h = absurd (true≢false (sym h))

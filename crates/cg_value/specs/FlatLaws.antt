-- What follows from the definitions of flat keyed files.
use Rattle.std.proofs.Common.{◌≡◌, ℕ, zero, suc, ◌+◌, ◌<◌, ◌⊎◌, inl, inr, List, [], ◌∷◌, length, get_or, map, Option, Some, None, Bool, true, false, cond, option_map, is_some, nat_eq}
use Rattle.std.proofs.Common.{refl, sym, ap, ◌∙◌, arith}
use Rattle.std.proofs.lemmas.Bool.{cond-true, cond-false, false_from_ne_true}
use Rattle.std.proofs.lemmas.Bool.Decides.{Decides-eqb, same_from_decides}
use Rattle.std.proofs.lemmas.Cmp.{nat_list_eq_equiv, nat_eq_equiv, on_equiv, and_equiv}
use Rattle.std.proofs.lemmas.List.Sums.{sum_by-cons}
use Rattle.std.proofs.lemmas.Slice.Eq.{bytes_eq-Decides, slice_eq-Decides}
use Rattle.std.specs.Cmp.{IsPartialEquivalence, partial_equiv_from_equiv}
use Rattle.std.specs.Cmp.Lexicographic.{lists_per, pointwise}
use Rattle.std.specs.List.{sum_by}
use Rattle.std.specs.Str.{bytes_eq}
use Rattle.cg_text.specs.Distinct.{AreDistinct, LacksValue}
use Rattle.cg_index.specs.Cells.{item_of}
use Rattle.cg_index.specs.Keyed.{is_among, place_among}
use Rattle.cg_index.specs.KeyedLaws.{some_place}
use Rattle.cg_index.specs.declared.cell.Cell.{Cell}
use Rattle.cg_value.specs.declared.flat.FlatPair.{FlatPair}
use Rattle.cg_value.specs.Flat.{has_key, number_of, place_of, HasDistinctKeys, flat_size, are_same}

-- Tests of keys.

has_key_is : (key : List ℕ) (p : FlatPair) → p.key ≡ key → has_key key p ≡ true
has_key_is key p e = (bytes_eq-Decides p.key key).1 e

has_key_not : (key : List ℕ) (p : FlatPair) → (p.key ≡ key → ⊥) → has_key key p ≡ false
has_key_not key p f = false_from_ne_true _ (λ e. f ((bytes_eq-Decides p.key key).0 e))

-- The key of the pair at a place.
abbrev pub key_at : List FlatPair → ℕ → List ℕ
key_at [] place = []
key_at (p ∷ ps) zero = p.key
key_at (p ∷ ps) (suc place) = key_at ps place

-- Look-ups.

-- What has no place has no number, and the other way round.
pub place_as_number : (key : List ℕ) (ps : List FlatPair) → is_some (place_of key ps) ≡ is_some (number_of key ps)
place_as_number key [] = refl
place_as_number key (p ∷ ps) =
    let cases : (b : Bool) (o : Option ℕ) (n : ℕ) (w : Option ℕ) → is_some o ≡ is_some w → is_some (cond b (Some 0) (option_map (λ n. n + 1) o)) ≡ is_some (cond b (Some n) w) =
    λ b o n w e. elim b as (λ v. is_some (cond v (Some 0) (option_map (λ n. n + 1) o)) ≡ is_some (cond v (Some n) w)) [
      | true ↦ refl
      | false ↦ elim o as (λ u. is_some u ≡ is_some w → is_some (option_map (λ n. n + 1) u) ≡ is_some w) [ None ↦ λ h. h | Some k ↦ λ h. h ] e
    ] in
    cases (has_key key p) (place_of key ps) p.number (number_of key ps) (place_as_number key ps)

pub no_number : (key : List ℕ) (ps : List FlatPair) → place_of key ps ≡ None → number_of key ps ≡ None
no_number key ps e =
    let gone : (o w : Option ℕ) → is_some o ≡ is_some w → o ≡ None → w ≡ None =
    λ o w. elim w as (λ u. is_some o ≡ is_some u → o ≡ None → u ≡ None) [ None ↦ λ _ _. refl | Some k ↦ λ h f. cc ] in
    gone (place_of key ps) (number_of key ps) (place_as_number key ps) e

pub no_number_apart : (key : List ℕ) (ps : List FlatPair) (i : ℕ) → number_of key ps ≡ None → i < length ps → key_at ps i ≡ key → ⊥
no_number_apart key [] i e h f = absurd (omega (arith, h))
no_number_apart key (p ∷ ps) zero e h f = cc (cond-true (has_key key p) (Some p.number) (number_of key ps) (has_key_is key p f))
no_number_apart key (p ∷ ps) (suc i) e h f =
    let rest : (b : Bool) (n : ℕ) (w : Option ℕ) → cond b (Some n) w ≡ None → w ≡ None =
    λ b n w. elim b as (λ v. cond v (Some n) w ≡ None → w ≡ None) [ true ↦ λ h. cc | false ↦ λ h. h ] in
    no_number_apart key ps i (rest (has_key key p) p.number (number_of key ps) e) (omega arith) f

pub place_cases : (first : Bool) (later : Option ℕ) (i : ℕ) → cond first (Some 0) (option_map (λ n. n + 1) later) ≡ Some i → ((first ≡ true) × (i ≡ 0)) ⊎ ((first ≡ false) × (k : ℕ) × (i ≡ suc k) × (later ≡ Some k))
place_cases true later i e =
    let same : i ≡ 0 = cc in
    inl (refl, same)
place_cases false None i e = cc
place_cases false (Some k) i e =
    let same : i ≡ k + 1 = cc in
    let more : i ≡ suc k = omega arith in
    inr (refl, k, more, refl)

-- The place that a look-up gives, and the number there.
pub place_within : (key : List ℕ) (ps : List FlatPair) (i : ℕ) → place_of key ps ≡ Some i → i < length ps
place_within key [] i e = cc
place_within key (p ∷ ps) i e =
    elim (place_cases (has_key key p) (place_of key ps) i e) [
      | inl here ↦ omega (arith, here.1)
      | inr there ↦ omega (arith, there.2, place_within key ps there.1 there.3)
    ]

pub number_there : (key : List ℕ) (ps : List FlatPair) (i : ℕ) (d : FlatPair) → place_of key ps ≡ Some i → number_of key ps ≡ Some (get_or ps i d).number
number_there key [] i d e = cc
number_there key (p ∷ ps) i d e =
    elim (place_cases (has_key key p) (place_of key ps) i e) [
      | inl here ↦ rw (here.1) (cond-true (has_key key p) (Some p.number) (number_of key ps) here.0)
      | inr there ↦ rw (there.2) (cond-false (has_key key p) (Some p.number) (number_of key ps) there.0 ∙ number_there key ps there.1 d there.3)
    ]

-- What the pairs hold.

pub parts_size : (cells : List (Cell FlatPair)) → length cells + sum_by (λ cell. length cell.item.key) cells ≡ flat_size (map item_of cells)
parts_size [] = refl
parts_size (c ∷ cs) =
    omega (arith, sum_by-cons (λ (cell : Cell FlatPair). length cell.item.key) c cs, sum_by-cons (λ (p : FlatPair). length p.key + 1) c.item (map item_of cs), parts_size cs)

-- Pairs that are the same.

pub are_same_laws : IsPartialEquivalence are_same
are_same_laws = lists_per (partial_equiv_from_equiv (and_equiv (on_equiv (λ (p : FlatPair). p.key) nat_list_eq_equiv) (on_equiv (λ (p : FlatPair). p.number) nat_eq_equiv)))

-- Their keys.

abbrev pub keys_of : List FlatPair → List (List ℕ)
keys_of pairs = map (λ p. p.key) pairs

-- The test of two keys is the same either way round.
pub swapped : (a b : List ℕ) → bytes_eq a b ≡ pointwise nat_eq b a
swapped a b =
    let other = slice_eq-Decides Decides-eqb b a (pointwise nat_eq b a) refl in
    same_from_decides (bytes_eq a b) (pointwise nat_eq b a) (bytes_eq-Decides a b) (λ e. sym (other.0 e), λ e. other.1 (sym e))

-- The place of a key is that of a pair.
pub place_of_keys : (key : List ℕ) (ps : List FlatPair) → place_among key (keys_of ps) ≡ place_of key ps
place_of_keys key [] = refl
place_of_keys key (p ∷ ps) = rw (swapped p.key key) (ap (λ o. cond (pointwise nat_eq key p.key) (Some 0) (option_map (λ n. n + 1) o)) (place_of_keys key ps))

-- A pair has the key exactly where it is among theirs.
pub number_of_keys : (key : List ℕ) (ps : List FlatPair) → is_among key (keys_of ps) ≡ is_some (number_of key ps)
number_of_keys key ps = sym (some_place key (keys_of ps)) ∙ ap is_some (place_of_keys key ps) ∙ place_as_number key ps

lacks_number : (key : List ℕ) (ps : List FlatPair) → LacksValue key (keys_of ps) → number_of key ps ≡ None
lacks_number key [] h = refl
lacks_number key (p ∷ ps) h = cond-false _ _ _ (has_key_not key p (λ e. h.0 (sym e))) ∙ lacks_number key ps h.1

pub distinct_keys : (ps : List FlatPair) → AreDistinct (keys_of ps) → HasDistinctKeys ps
distinct_keys [] h = tt
distinct_keys (p ∷ ps) h = (lacks_number p.key ps h.0, distinct_keys ps h.1)

-- What is looked up by the place of a key.
use Rattle.std.proofs.Common.{◌≡◌, ℕ, suc, ◌+◌, ◌<◌, inl, inr, List, [], ◌∷◌, length, get_or, map, Option, Some, None, Bool, true, false, cond, option_map, nat_eq, slice_get, refl, sym, ap, ◌∙◌, arith}
use Rattle.std.proofs.lemmas.Option.{get_or_from_slice_get}
use Rattle.std.specs.Cmp.Lexicographic.{pointwise}
use Rattle.cg_text.specs.declared.values.Amount.{Amount}
use Rattle.cg_index.specs.Keyed.{place_among}
use Rattle.cg_value.specs.FlatLaws.{place_cases, swapped}
use Rattle.cg_value.specs.LookUp.{pair_amount}
use Rattle.cg_value.specs.declared.value.StatPair.{StatPair}

-- The place of a key is that of a pair.
pub place_within : (key : List ℕ) (ps : List StatPair) (k : ℕ) → place_among key (map (λ p. p.key) ps) ≡ Some k → k < length ps
place_within key [] k e = cc
place_within key (p ∷ ps) k e =
    elim (place_cases (pointwise nat_eq key p.key) (place_among key (map (λ q. q.key) ps)) k e) [
      | inl here ↦ omega (arith, here.1)
      | inr there ↦ omega (arith, there.2, place_within key ps there.1 there.3)
    ]

-- The amount is that of the pair at the place of the key.
amount_at : (key : List ℕ) (ps : List StatPair) (d : StatPair) → pair_amount key ps ≡ option_map (λ k. (get_or ps k d).amount) (place_among key (map (λ p. p.key) ps))
amount_at key [] d = refl
amount_at key (p ∷ ps) d =
    let read = λ (k : ℕ). (get_or (p ∷ ps) k d).amount in
    let after : (k : ℕ) → read (k + 1) ≡ (get_or ps k d).amount = λ k. (let more : k + 1 ≡ suc k = omega arith in ap read more) in
    let later : (o : Option ℕ) → option_map (λ k. (get_or ps k d).amount) o ≡ option_map read (option_map (λ n. n + 1) o) =
    λ o. elim o as (λ u. option_map (λ k. (get_or ps k d).amount) u ≡ option_map read (option_map (λ n. n + 1) u)) [ None ↦ refl | Some k ↦ ap Some (sym (after k)) ] in
    let cases : (b : Bool) (o : Option ℕ) (w : Option Amount) → w ≡ option_map read (option_map (λ n. n + 1) o) → cond b (Some p.amount) w ≡ option_map read (cond b (Some 0) (option_map (λ n. n + 1) o)) =
    λ b o w e. elim b as (λ v. cond v (Some p.amount) w ≡ option_map read (cond v (Some 0) (option_map (λ n. n + 1) o))) [ true ↦ refl | false ↦ e ] in
    let keys = map (λ (q : StatPair). q.key) ps in
    rw (swapped p.key key) (cases (pointwise nat_eq key p.key) (place_among key keys) (pair_amount key ps) (amount_at key ps d ∙ later (place_among key keys)))

-- There is none where the key has no place.
pub no_amount : (key : List ℕ) (ps : List StatPair) → place_among key (map (λ p. p.key) ps) ≡ None → pair_amount key ps ≡ None
no_amount key [] e = refl
no_amount key (p ∷ ps) e = amount_at key (p ∷ ps) p ∙ ap (option_map (λ k. (get_or (p ∷ ps) k p).amount)) e

-- The amount of the pair that stands at the place of the key.
pub amount_there : (key : List ℕ) (ps : List StatPair) (k : ℕ) (p : StatPair) → place_among key (map (λ q. q.key) ps) ≡ Some k → slice_get ps k ≡ Some p → pair_amount key ps ≡ Some p.amount
amount_there key ps k p e h =
    amount_at key ps p ∙ ap (option_map (λ i. (get_or ps i p).amount)) e ∙ ap (λ (q : StatPair). Some q.amount) (get_or_from_slice_get ps k p p h)

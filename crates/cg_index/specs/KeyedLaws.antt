-- What follows from the definitions of items with keys.
use Rattle.std.proofs.Common.{◌≡◌, ℕ, zero, suc, ◌||◌, ◌+◌, ◌-◌, ◌<◌, List, [], ◌∷◌, ◌++◌, length, get_or, slice_set, map, Option, Some, None, Bool, true, false, cond, option_map, is_some, nat_eq}
use Rattle.std.proofs.Common.{refl, sym, ap, ◌∙◌, arith}
use Rattle.std.proofs.lemmas.List.{map-append}
use Rattle.std.proofs.lemmas.Cmp.{nat_list_eq_equiv}
use Rattle.std.specs.Cmp.Lexicographic.{pointwise}
use Rattle.cg_text.specs.Distinct.{AreDistinct, LacksValue}
use Rattle.cg_index.specs.Keyed.{is_among, place_among, IsLastChanged}

-- A place is found exactly for what is among the keys.
pub some_place : (key : List ℕ) (keys : List (List ℕ)) → is_some (place_among key keys) ≡ is_among key keys
some_place key [] = refl
some_place key (k ∷ ks) =
    let cases : (b : Bool) (o : Option ℕ) (m : Bool) → is_some o ≡ m → is_some (cond b (Some 0) (option_map (λ n. n + 1) o)) ≡ (b || m) =
    λ b o m e. elim b as (λ v. is_some (cond v (Some 0) (option_map (λ n. n + 1) o)) ≡ (v || m)) [
      | true ↦ refl
      | false ↦ elim o as (λ u. is_some u ≡ m → is_some (option_map (λ n. n + 1) u) ≡ m) [ None ↦ λ h. h | Some k ↦ λ h. h ] e
    ] in
    cases (pointwise nat_eq key k) (place_among key ks) (is_among key ks) (some_place key ks)

lacks_push : {V : Type 0} (v u : V) (vs : List V) → LacksValue v vs → (v ≡ u → ⊥) → LacksValue v (vs ++ u ∷ [])
lacks_push v u [] h k = (k, tt)
lacks_push v u (w ∷ vs) h k = (h.0, lacks_push v u vs h.1 k)

-- A value that none has is added to distinct ones.
pub distinct_push : {V : Type 0} (vs : List V) (u : V) → AreDistinct vs → LacksValue u vs → AreDistinct (vs ++ u ∷ [])
distinct_push [] u h k = (tt, tt)
distinct_push (v ∷ vs) u h k = (lacks_push v u vs h.0 (λ e. k.0 (sym e)), distinct_push vs u h.1 k.1)

-- The last of a list, and the list where another value stands in its place.
last_at : {X : Type 0} (x : X) (rest : List X) (r y : X) (k : ℕ) → k ≡ length rest → r ≡ get_or (x ∷ rest) k r →
    (front : List X) × (x ∷ rest ≡ front ++ r ∷ []) × (slice_set (x ∷ rest) k y ≡ front ++ y ∷ [])
last_at x [] r y zero n e = ([], ap (λ v. v ∷ []) (sym e), refl)
last_at x [] r y (suc k) n e = absurd (omega (arith, n))
last_at x (w ∷ ws) r y zero n e = absurd (omega (arith, n))
last_at x (w ∷ ws) r y (suc k) n e = let t = last_at w ws r y k (omega (arith, n)) e in (x ∷ t.0, ap (λ v. x ∷ v) t.1, ap (λ v. x ∷ v) t.2)

-- The last of the items gets a part where it lies.
pub last_changed : {T W : Type 0} (changed : T → W → T) (part : W) (xs : List T) (n : ℕ) (r y : T) → n ≡ length xs → 0 < length xs →
    r ≡ get_or xs (n - 1) r → y ≡ changed r part → IsLastChanged changed xs part (slice_set xs (n - 1) y)
last_changed changed part [] n r y e h g c = absurd (omega (arith, h))
last_changed changed part (x ∷ rest) n r y e h g c =
    let t = last_at x rest r y (n - 1) (omega (arith, e)) g in
    record { front = t.0; last = r; before = t.1; after = t.2 ∙ ap (λ v. t.0 ++ v ∷ []) c }

-- The keys stay.
pub changed_keys : {T W : Type 0} (key : T → List ℕ) (changed : T → W → T) → ((t : T) (part : W) → key (changed t part) ≡ key t) →
    {old new : List T} {part : W} → IsLastChanged changed old part new → map key new ≡ map key old
changed_keys key changed same {old} {new} {part} is =
    ap (map key) is.after ∙ map-append key is.front (changed is.last part ∷ []) ∙ ap (λ v. map key is.front ++ v ∷ []) (same is.last part)
    ∙ sym (map-append key is.front (is.last ∷ [])) ∙ sym (ap (map key) is.before)

pub true_not_false : true ≡ false → ⊥
true_not_false e = cc

-- What isn't among the keys differs from each.
pub not_among : (key : List ℕ) (keys : List (List ℕ)) → is_among key keys ≡ false → LacksValue key keys
not_among key [] e = tt
not_among key (k ∷ ks) e =
    let go : (b : Bool) → pointwise nat_eq key k ≡ b → (b || is_among key ks) ≡ false → (key ≡ k → ⊥) × LacksValue key ks =
    elim [ true ↦ λ p f. cc | false ↦ λ p f. ((λ q. absurd (true_not_false (sym (nat_list_eq_equiv.refl key) ∙ ap (pointwise nat_eq key) q ∙ p))), not_among key ks f) ] in
    go (pointwise nat_eq key k) refl e

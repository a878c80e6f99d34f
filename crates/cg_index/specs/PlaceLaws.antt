-- What holders of items with keys cite of the places of keys.
use Rattle.std.proofs.Common.{◌≡◌, ℕ, zero, suc, ◌+◌, ◌<◌, List, [], ◌∷◌, length, get_or, map, Option, Some, None, Bool, true, false, option_map, nat_eq}
use Rattle.std.proofs.Common.{refl, sym, ap, ◌∙◌, arith}
use Rattle.std.proofs.lemmas.Bool.{cond-true, cond-false, false_from_ne_true}
use Rattle.std.proofs.lemmas.Slice.Eq.{bytes_eq-Decides}
use Rattle.std.specs.Bool.{then_some}
use Rattle.std.specs.Str.{bytes_eq}
use Rattle.std.specs.Cmp.Lexicographic.{pointwise}
use Rattle.cg_text.specs.Distinct.{AreDistinct, LacksValue}
use Rattle.cg_index.specs.Keyed.{place_among}
use Rattle.cg_index.specs.Found.{IsOnlyPlace}
use Rattle.cg_index.specs.Tree.{key_at}

pub lacks_at : (key : List ℕ) (keys : List (List ℕ)) (k : ℕ) → LacksValue key keys → k < length keys → key_at keys k ≡ key → ⊥
lacks_at key [] k l h e = omega (arith, h)
lacks_at key (x ∷ xs) zero l h e = l.0 (sym e)
lacks_at key (x ∷ xs) (suc k) l h e = lacks_at key xs k l.1 (omega (arith, h)) e

other_key : (key other : List ℕ) → (other ≡ key → ⊥) → pointwise nat_eq key other ≡ false
other_key key other apart = false_from_ne_true _ (λ e. apart (sym ((bytes_eq-Decides key other).0 e)))

pub no_place : (key : List ℕ) (keys : List (List ℕ)) → ((k : ℕ) → k < length keys → key_at keys k ≡ key → ⊥) → place_among key keys ≡ None
no_place key [] f = refl
no_place key (x ∷ xs) f =
    cond-false _ _ _ (other_key key x (f 0 (omega arith))) ∙ ap (option_map (λ n. n + 1)) (no_place key xs (λ k h. f (suc k) (omega arith)))

pub one_place : (key : List ℕ) (keys : List (List ℕ)) (k : ℕ) → AreDistinct keys → k < length keys → key_at keys k ≡ key → place_among key keys ≡ Some k
one_place key [] k d h e = absurd (omega (arith, h))
one_place key (x ∷ xs) zero d h e = cond-true _ _ _ ((bytes_eq-Decides key x).1 (sym e))
one_place key (x ∷ xs) (suc k) d h e =
    let apart : x ≡ key → ⊥ = λ f. lacks_at x xs k d.0 (omega (arith, h)) (e ∙ sym f) in
    let more : k + 1 ≡ suc k = omega arith in
    cond-false _ _ _ (other_key key x apart) ∙ ap (option_map (λ n. n + 1)) (one_place key xs k d.1 (omega (arith, h)) e) ∙ ap (λ n. Some n) more

-- The key that is read at a place.
pub keys_read : {T : Type 0} (key : T → List ℕ) (xs : List T) (i : ℕ) (d : T) → i < length xs → key_at (map key xs) i ≡ key (get_or xs i d)
keys_read key [] i d h = absurd (omega (arith, h))
keys_read key (x ∷ xs) zero d h = refl
keys_read key (x ∷ xs) (suc i) d h = keys_read key xs i d (omega (arith, h))

pub same_key : (a b : List ℕ) (test : Bool) → test ≡ bytes_eq a b → test ≡ true → a ≡ b
same_key a b test is holds = (bytes_eq-Decides a b).0 (sym is ∙ holds)

pub not_same_key : (a b : List ℕ) (test : Bool) → test ≡ bytes_eq a b → test ≡ false → a ≡ b → ⊥
not_same_key a b test is fails same =
    let would = (bytes_eq-Decides a b).1 same in
    cc

-- The place that is found, where the key there is compared.
pub found_place : (keys : List (List ℕ)) → AreDistinct keys → (place : ℕ) (seen sought : List ℕ) (test : Bool) → place < length keys → IsOnlyPlace keys sought (Some place) →
    seen ≡ key_at keys place → test ≡ bytes_eq seen sought → then_some test place ≡ place_among sought keys
found_place keys distinct place seen sought true within only is holds =
    sym (one_place sought keys place distinct within (sym is ∙ same_key seen sought true holds refl))
found_place keys distinct place seen sought false within only is fails =
    sym (no_place sought keys (λ k h e.
    let there : Some place ≡ Some k = only k h e in
    let same : place ≡ k = cc in
    not_same_key seen sought false fails refl (is ∙ ap (key_at keys) same ∙ e)))

-- No place is found.
pub found_none : (keys : List (List ℕ)) (sought : List ℕ) (place : Option ℕ) → place ≡ None → IsOnlyPlace keys sought place → place_among sought keys ≡ None
found_none keys sought place none only =
    no_place sought keys (λ k h e.
    let there : place ≡ Some k = only k h e in
    cc)

-- What was taken, among keys, and items one by one.
use Rattle.std.proofs.Common.{◌≡◌, ℕ, ◌<◌, ◌+◌, Bool, true, false, ◌&&◌, ◌||◌, nat_lt, nat_eq, lt-ltb, eqb-true, List, [], ◌∷◌, ◌++◌, map, length, take, get_or, refl, sym, ◌∙◌, ap, arith}
use Rattle.std.proofs.lemmas.List.{map-id, take_more}
use Rattle.std.specs.Cmp.Lexicographic.{pointwise}
use Rattle.cg_text.specs.WordState.{is_taken}
use Rattle.cg_index.specs.Keyed.{is_among}
use Rattle.cg_join.specs.Distinct.{LacksValue, any_value}

any_both : {V : Type 0} (b : Bool) (f : V → Bool) (vs : List V) → (b && any_value f vs) ≡ any_value (λ v. b && f v) vs
any_both true f [] = refl
any_both true f (v ∷ vs) = ap (λ e. f v || e) (any_both true f vs)
any_both false f [] = refl
any_both false f (v ∷ vs) = any_both false f vs

-- What was taken is one of the keys where it is no empty text and stands among them.
pub taken_is : (taken : List ℕ) (keys : List (List ℕ)) → (nat_lt 0 (length taken) && is_among taken keys) ≡ any_value (is_taken taken) keys
taken_is taken keys = any_both (nat_lt 0 (length taken)) (pointwise nat_eq taken) keys

pub taken_some : (taken : List ℕ) (keys : List (List ℕ)) → false ≡ nat_eq (length taken) 0 → is_among taken keys ≡ any_value (is_taken taken) keys
taken_some [] keys h = absurd (cc)
taken_some (b ∷ taken) keys h = ap (λ e. e && is_among (b ∷ taken) keys) (sym (lt-ltb 0 (length (b ∷ taken)) (omega arith))) ∙ taken_is (b ∷ taken) keys

pub taken_none : (taken : List ℕ) (keys : List (List ℕ)) → true ≡ nat_eq (length taken) 0 → false ≡ any_value (is_taken taken) keys
taken_none [] keys h = taken_is [] keys
taken_none (b ∷ taken) keys h = absurd (omega (arith, eqb-true (length (b ∷ taken)) 0 (sym h)))

-- One more item.
pub one_more : {X : Type 0} (xs : List X) (i : ℕ) (x : X) → i < length xs → get_or xs i x ≡ x → take (i + 1) xs ≡ take i xs ++ x ∷ []
one_more xs i x lt at = take_more xs i x lt ∙ ap (λ y. take i xs ++ y ∷ []) at

-- Keys are their own keys.
pub any_own : (f : List ℕ → Bool) (keys same : List (List ℕ)) → same ≡ keys → any_value f (map (λ k. k) same) ≡ any_value f keys
any_own f keys same e = ap (any_value f) (map-id same ∙ e)

pub own_lack : (key : List ℕ) (keys same : List (List ℕ)) → same ≡ keys → LacksValue key keys → LacksValue key (map (λ k. k) same)
own_lack key keys same e h = rw (map-id same, e) h

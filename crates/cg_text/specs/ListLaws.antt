-- What holds of the ranges of a list, be it strict or loose.
use Rattle.std.proofs.Common.{◌≡◌, ℕ, suc, ◌+◌, ◌-◌, ◌≤◌, ◌<◌, ◌↔◌, inl, inr, Bool, ◌||◌, nat_eq, Option, Some, None, List, [], ◌∷◌, ◌++◌, length, refl, sym, ◌∙◌, ap, arith, append_assoc, IsTrue}
use Rattle.std.proofs.Math.ListN.{set}
use Rattle.cg_text.specs.Decimal.{AreDigits, IsDecimal}
use Rattle.cg_text.specs.RangesState.{front, after_comma_from, after_dash_from, begin_of, Begun}
use Rattle.cg_text.specs.ListState.{IsListRest}
use Rattle.cg_text.specs.RangesLaws.{append_nil, rest_digit, rest_digits, not_zero, front_push, length_pushed, rest_comma, rest_dash, ranges_complete, ranges_nil, rest_one, some_decimal, front_length}

pub list_digit : (strict : Bool) (most byte : ℕ) (P P' : List ℕ → ℕ → Type 0) → 48 ≤ byte →
    ((x : List ℕ) (n : ℕ) → P' x n ↔ P (byte ∷ x) n) → (items new : List (ℕ × ℕ)) (low : Option ℕ) →
    front new ≡ front items → 0 < length new → (rest : List ℕ) (all : List (ℕ × ℕ)) →
    IsListRest strict new most low P' rest all ↔ IsListRest strict items most low P (byte ∷ rest) all
list_digit strict most byte P P' digit f items new low e some rest all = rw e (rest_digit strict most byte P P' digit f items new low some (λ rs. all ≡ front items ++ rs) rest)

-- The same of a run of digits.
pub list_digits : (strict : Bool) (most : ℕ) (P P' : List ℕ → ℕ → Type 0) (run : List ℕ) → 0 < length run → AreDigits run →
    ((x : List ℕ) (n : ℕ) → P' x n ↔ P (run ++ x) n) → (items new : List (ℕ × ℕ)) (low : Option ℕ) →
    front new ≡ front items → 0 < length new → (rest : List ℕ) (all : List (ℕ × ℕ)) →
    IsListRest strict new most low P' rest all ↔ IsListRest strict items most low P (run ++ rest) all
list_digits strict most P P' run many digits f items new low e some rest all = rw e (rest_digits strict most P P' run many digits f items new low some (λ rs. all ≡ front items ++ rs) rest)

-- A comma or a dash after a number that has ended.
module _ (strict : Bool) (most n : ℕ) (P : List ℕ → ℕ → Type 0) (ended : P [] n) (one : (m : ℕ) → P [] m → m ≡ n) (digits : (x : List ℕ) (m : ℕ) → P x m → AreDigits x) where
  pub list_comma : (P' : List ℕ → ℕ → Type 0) → ((x : List ℕ) (m : ℕ) → P' x m ↔ IsDecimal (after_comma_from strict n) most m x) → (items new : List (ℕ × ℕ)) (low : Option ℕ) → new ≡ (front items ++ (begin_of low n, n) ∷ []) ++ (0, 0) ∷ [] →
      (rest : List ℕ) (all : List (ℕ × ℕ)) → IsListRest strict new most None P' rest all ↔ IsListRest strict items most low P (44 ∷ rest) all
  list_comma P' f items new low e rest all =
      let done : front new ≡ front items ++ (begin_of low n, n) ∷ [] = ap front e ∙ front_push (front items ++ (begin_of low n, n) ∷ []) (0, 0) in
      rest_comma strict most n P ended one digits P' f items new low (length_pushed (front items ++ (begin_of low n, n) ∷ []) (0, 0) new e) (λ rs. all ≡ front items ++ rs) (λ us. all ≡ front new ++ us)
      (λ us. rw done (λ h. h ∙ append_assoc (front items) ((begin_of low n, n) ∷ []) us, λ h. h ∙ sym (append_assoc (front items) ((begin_of low n, n) ∷ []) us))) rest

  pub list_dash : (P' : List ℕ → ℕ → Type 0) → ((x : List ℕ) (m : ℕ) → P' x m ↔ IsDecimal (after_dash_from strict n) most m x) → (items : List (ℕ × ℕ)) → (length items ≡ 0 → (m : ℕ) → P [] m → ⊥) →
      (rest : List ℕ) (all : List (ℕ × ℕ)) → IsListRest strict items most (Some n) P' rest all ↔ IsListRest strict items most None P (45 ∷ rest) all
  list_dash P' f items fresh rest all = rest_dash strict most n P ended one digits P' f items fresh (λ rs. all ≡ front items ++ rs) rest

pub list_completes : (strict : Bool) (items : List (ℕ × ℕ)) (most : ℕ) (low : Option ℕ) (P : List ℕ → ℕ → Type 0) → ((rest : List ℕ) × (n : ℕ) × P rest n) → (rest : List ℕ) × (all : List (ℕ × ℕ)) × IsListRest strict items most low P rest all
list_completes strict items most low P h = (h.0, front items ++ (begin_of low h.1, h.1) ∷ [], ((begin_of low h.1, h.1) ∷ [], refl, inl (ranges_complete strict most low P h.0 h.1 h.2)))

-- The value of the empty rest.
pub list_value : (strict : Bool) (items new : List (ℕ × ℕ)) (most : ℕ) (low : Option ℕ) (P : List ℕ → ℕ → Type 0) (n : ℕ) → P [] n → new ≡ front items ++ (begin_of low n, n) ∷ [] → IsListRest strict items most low P [] new
list_value strict items new most low P n h e = ((begin_of low n, n) ∷ [], e, inl (ranges_complete strict most low P [] n h))

pub list_no_value : (strict : Bool) (items : List (ℕ × ℕ)) (most : ℕ) (low : Option ℕ) (P : List ℕ → ℕ → Type 0) → length items ≡ 0 → IsListRest strict items most low P [] items
list_no_value strict [] most low P e = ([], refl, inr (refl, refl, refl))
list_no_value strict (r ∷ rs) most low P e = absurd (omega (arith, e))

pub list_ends : (strict : Bool) (items : List (ℕ × ℕ)) (most : ℕ) (low : Option ℕ) (P : List ℕ → ℕ → Type 0) (e : Bool) → IsTrue e ↔ ((n : ℕ) × P [] n) → IsTrue (nat_eq (length items) 0 || e) ↔ ((all : List (ℕ × ℕ)) × IsListRest strict items most low P [] all)
list_ends strict [] most low P e f = (λ h. ([], list_no_value strict [] most low P refl), λ h. refl)
list_ends strict (r ∷ rs) most low P e f = rw (not_zero (length rs)) (
  λ h. (let k = f.0 h in (front (r ∷ rs) ++ (begin_of low k.0, k.0) ∷ [], list_value strict (r ∷ rs) (front (r ∷ rs) ++ (begin_of low k.0, k.0) ∷ []) most low P k.0 k.1 refl)),
  λ h. elim h.1.2 [ inl k ↦ f.1 (ranges_nil strict most low P h.1.0 k) | inr k ↦ absurd (omega (arith, k.0)) ],
)

-- A rest has one value.
pub list_one : (strict : Bool) (most : ℕ) (P : List ℕ → ℕ → Type 0) → ((x : List ℕ) (m : ℕ) → P x m → AreDigits x) → ((x : List ℕ) (m n : ℕ) → P x m → P x n → m ≡ n) → (items : List (ℕ × ℕ)) (low : Option ℕ) → (length items ≡ 0 → (n : ℕ) → P [] n → ⊥) →
    (rest : List ℕ) (v w : List (ℕ × ℕ)) → IsListRest strict items most low P rest v → IsListRest strict items most low P rest w → v ≡ w
list_one strict most P digits one items low fresh rest v w h k = h.1 ∙ ap (λ x. front items ++ x) (rest_one strict most P digits one items low fresh rest (λ rs. v ≡ front items ++ rs) (λ rs. w ≡ front items ++ rs) h k) ∙ sym k.1

-- What begins a rest can be completed.
pub begun_list : (strict : Bool) (items : List (ℕ × ℕ)) (most : ℕ) (low : Option ℕ) (P : List ℕ → ℕ → Type 0) (byte : ℕ) → Begun strict most low P byte → (rest : List ℕ) × (all : List (ℕ × ℕ)) × IsListRest strict items most low P (byte ∷ rest) all
begun_list strict items most low P byte (inl h) = (h.0, front items ++ (begin_of low h.1, h.1) ∷ [], ((begin_of low h.1, h.1) ∷ [], refl, inl (ranges_complete strict most low P (byte ∷ h.0) h.1 h.2)))
begun_list strict items most None P byte (inr (inl h)) =
    let t = some_decimal (after_comma_from strict h.1) most h.3 in
    let rs : List (ℕ × ℕ) = (h.1, h.1) ∷ (most, most) ∷ [] in
    (t.0, front items ++ rs, (rs, refl, inl ([], byte ∷ t.0, refl, h.2, inl (refl, (t.0, ap (λ x. x ∷ t.0) h.0, (t.0, [], sym (append_nil t.0), t.1, inl (refl, refl)))))))
begun_list strict items most (Some a) P byte (inr (inl h)) =
    let t = some_decimal (after_comma_from strict h.1) most h.3 in
    let rs : List (ℕ × ℕ) = (a, h.1) ∷ (most, most) ∷ [] in
    (t.0, front items ++ rs, (rs, refl, inl (refl, ([], byte ∷ t.0, refl, h.2, (t.0, ap (λ x. x ∷ t.0) h.0, (t.0, [], sym (append_nil t.0), t.1, inl (refl, refl)))))))
begun_list strict items most None P byte (inr (inr h)) =
    let t = some_decimal (after_dash_from strict h.2) most h.4 in
    let rs : List (ℕ × ℕ) = (h.2, most) ∷ [] in
    (t.0, front items ++ rs, (rs, refl, inl ([], byte ∷ t.0, refl, h.3, inr (t.0, ap (λ x. x ∷ t.0) h.0, (t.0, [], sym (append_nil t.0), t.1, refl)))))
begun_list strict items most (Some a) P byte (inr (inr h)) = absurd (let e = h.1 in cc)

set_past : (x y r : ℕ × ℕ) (xs : List (ℕ × ℕ)) → set (x ∷ y ∷ xs) (length (y ∷ xs)) r ≡ x ∷ set (y ∷ xs) (length (y ∷ xs) - 1) r
set_past x y r xs = let e : suc (length xs) - 1 ≡ length xs = omega arith in rw e refl

front_set_at : (xs : List (ℕ × ℕ)) (r : ℕ × ℕ) → 0 < length xs → set xs (length xs - 1) r ≡ front xs ++ r ∷ []
front_set_at [] r h = absurd (omega (arith, h))
front_set_at (x ∷ []) r h = refl
front_set_at (x ∷ y ∷ xs) r h =
    let e : length (x ∷ y ∷ xs) - 1 ≡ length (y ∷ xs) = omega arith in
    rw e (set_past x y r xs ∙ ap (λ z. x ∷ z) (front_set_at (y ∷ xs) r (omega arith)))

pub front_set : (xs : List (ℕ × ℕ)) (r : ℕ × ℕ) (n : ℕ) → n ≡ length xs → 0 < n → set xs (n - 1) r ≡ front xs ++ r ∷ []
front_set xs r n e h = rw e (front_set_at xs r (omega (arith, h, e)))

pub length_one : (xs : List (ℕ × ℕ)) (r : ℕ × ℕ) → length (xs ++ r ∷ []) ≡ length xs + 1
length_one [] r = refl
length_one (x ∷ xs) r = omega (arith, length_one xs r)

length_two : (xs : List (ℕ × ℕ)) (r q : ℕ × ℕ) → length ((xs ++ r ∷ []) ++ q ∷ []) ≡ length xs + 2
length_two xs r q = omega (arith, length_one (xs ++ r ∷ []) q, length_one xs r)

pub closed_length : (items new : List (ℕ × ℕ)) (r q : ℕ × ℕ) → 0 < length items → new ≡ (front items ++ r ∷ []) ++ q ∷ [] → length new ≡ length items + 1
closed_length items new r q some e = rw e (length_two (front items) r q ∙ omega (arith, front_length items some))

pub set_length : (items new : List (ℕ × ℕ)) (r : ℕ × ℕ) → 0 < length items → new ≡ front items ++ r ∷ [] → length new ≡ length items
set_length items new r some e = rw e (length_one (front items) r ∙ omega (arith, front_length items some))

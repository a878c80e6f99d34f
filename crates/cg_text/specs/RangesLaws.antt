-- What holds of ranges in a list, be it strict or loose.
use Rattle.std.proofs.Common.{◌≡◌, ℕ, zero, suc, ◌+◌, ◌≤◌, ◌<◌, ◌⊎◌, ◌↔◌, inl, inr, Bool, true, false, nat_eq, Option, Some, None, List, [], ◌∷◌, ◌++◌, length, refl, sym, ◌∙◌, ap, arith, eqb-true, eq-eqb}
use Rattle.cg_text.specs.Token.{AreBytes}
use Rattle.cg_text.specs.TokenLaws.{bytes_append}
use Rattle.cg_text.specs.Decimal.{AreDigits, IsDecimal}
use Rattle.cg_text.specs.DecimalLaws.{number_digits, digits_bytes, IsDecimalRest_completes, IsDecimalRest_one}
use Rattle.cg_text.specs.RangesState.{front, Cut, after_dash_from, after_comma_from, LowRest, AfterRange, RangesRest, ListRest, begin_of, Begun, number_rest, IsListByte}
use Rattle.cg_text.specs.declared.ranges.ListByte.{ListByte}
use Rattle.cg_text.specs.declared.ranges.ListByte.TheVariants.{Digit, Dash, Comma, Refused}
use Rattle.cg_text.specs.declared.decimal.DecimalText.{DecimalText}
use Rattle.cg_text.specs.declared.decimal.Progress.TheVariants.{Start}

pub true_not_false : true ≡ false → ⊥
true_not_false e = cc

pub heads : (a b : ℕ) (x y : List ℕ) → a ∷ x ≡ b ∷ y → a ≡ b
heads a b x y e = cc

pub tails : (a b : ℕ) (x y : List ℕ) → a ∷ x ≡ b ∷ y → x ≡ y
tails a b x y e = cc

pub append_nil : (xs : List ℕ) → xs ++ [] ≡ xs
append_nil [] = refl
append_nil (x ∷ xs) = ap (λ y. x ∷ y) (append_nil xs)

pub pair_of : (r : ℕ × ℕ) (a b : ℕ) → r.0 ≡ a → r.1 ≡ b → r ≡ (a, b)
pair_of (x, y) a b e f = cc

-- A byte that P takes.
module _ (P P' N : List ℕ → Type 0) (byte : ℕ) where
  pub cut_taken_from : (text : List ℕ) → ((x : List ℕ) → P' x → P (byte ∷ x)) → Cut P' N text → Cut P N (byte ∷ text)
  cut_taken_from text f h = (byte ∷ h.0, h.1, ap (λ x. byte ∷ x) h.2, f h.0 h.3, h.4)

  cut_taken_at : (text first more : List ℕ) → ((x : List ℕ) → P (byte ∷ x) → P' x) → ((x : List ℕ) → N (byte ∷ x) → ⊥) → byte ∷ text ≡ first ++ more → P first → N more → Cut P' N text
  cut_taken_at text [] more f none e p n = let s : more ≡ byte ∷ text = cc in absurd (none text (rw s at n))
  cut_taken_at text (x ∷ first) more f none e p n =
      let s : x ≡ byte = cc in
      (first, more, cc, f first (rw s at p), n)

  pub cut_taken_to : (text : List ℕ) → ((x : List ℕ) → P (byte ∷ x) → P' x) → ((x : List ℕ) → N (byte ∷ x) → ⊥) → Cut P N (byte ∷ text) → Cut P' N text
  cut_taken_to text f none h = cut_taken_at text h.0 h.1 f none h.2 h.3 h.4

  -- A byte begins one or the other.
  cut_begun_at : (text first more : List ℕ) → byte ∷ text ≡ first ++ more → P first → N more → ((x : List ℕ) × P (byte ∷ x)) ⊎ (P [] × N (byte ∷ text))
  cut_begun_at text [] more e p n = let s : more ≡ byte ∷ text = cc in inr (p, rw s at n)
  cut_begun_at text (x ∷ first) more e p n = let s : x ≡ byte = cc in inl (first, rw s at p)

  pub cut_begun : (text : List ℕ) → Cut P N (byte ∷ text) → ((x : List ℕ) × P (byte ∷ x)) ⊎ (P [] × N (byte ∷ text))
  cut_begun text h = cut_begun_at text h.0 h.1 h.2 h.3 h.4

cut_nil_at : (P N : List ℕ → Type 0) (first more : List ℕ) → [] ≡ first ++ more → P first → N more → P [] × N []
cut_nil_at P N [] more e p n = let s : more ≡ [] = cc in (p, rw s at n)
cut_nil_at P N (x ∷ first) more e p n = absurd (cc)

pub cut_nil : (P N : List ℕ → Type 0) → Cut P N [] → P [] × N []
cut_nil P N h = cut_nil_at P N h.0 h.1 h.2 h.3 h.4

-- What follows a range begins with a comma.
after_comma : (strict : Bool) (most b : ℕ) (rs : List (ℕ × ℕ)) (c : ℕ) (text : List ℕ) → AfterRange strict most b rs (c ∷ text) → c ≡ 44
after_comma strict most b [] c text h = absurd (cc)
after_comma strict most b (r ∷ rs) c text h = let e = h.1 in cc

after_more_to : (strict : Bool) (most b : ℕ) (rs : List (ℕ × ℕ)) (text : List ℕ) → AfterRange strict most b rs (44 ∷ text) → RangesRest strict most None (λ x n. IsDecimal (after_comma_from strict b) most n x) rs text
after_more_to strict most b [] text h = absurd (cc)
after_more_to strict most b (r ∷ rs) text h = let e : h.0 ≡ text = let q = h.1 in cc in rw e at h.2

after_more_from : (strict : Bool) (most b : ℕ) (rs : List (ℕ × ℕ)) (text : List ℕ) → RangesRest strict most None (λ x n. IsDecimal (after_comma_from strict b) most n x) rs text → AfterRange strict most b rs (44 ∷ text)
after_more_from strict most b [] text h = absurd h
after_more_from strict most b (r ∷ rs) text h = (text, refl, h)

-- What follows the first number of a range.
abbrev LowNext : Bool → ℕ → (List ℕ → Type 0) → ℕ × ℕ → List ℕ → Type 0
LowNext strict most N r more = ((r.0 ≡ r.1) × N more) ⊎ ((u : List ℕ) × (more ≡ 45 ∷ u) × Cut (λ x. IsDecimal (after_dash_from strict (r.0)) most (r.1) x) N u)

low_next : (strict : Bool) (most : ℕ) (r : ℕ × ℕ) (rs : List (ℕ × ℕ)) (c : ℕ) (text : List ℕ) → LowNext strict most (AfterRange strict most (r.1) rs) r (c ∷ text) → c < 48
low_next strict most r rs c text (inl h) = omega (arith, after_comma strict most (r.1) rs c text h.1)
low_next strict most r rs c text (inr h) = omega (arith, heads c 45 text h.0 h.1)

-- A digit.
module _ (strict : Bool) (most byte : ℕ) (P P' : List ℕ → ℕ → Type 0) (digit : 48 ≤ byte) (f : (x : List ℕ) (n : ℕ) → P' x n ↔ P (byte ∷ x) n) where
  ranges_digit_to : (low : Option ℕ) (rs : List (ℕ × ℕ)) (text : List ℕ) → RangesRest strict most low P' rs text → RangesRest strict most low P rs (byte ∷ text)
  ranges_digit_to low [] text h = h
  ranges_digit_to None (r ∷ rs) text h = cut_taken_from (λ x. P x (r.0)) (λ x. P' x (r.0)) (LowNext strict most (AfterRange strict most (r.1) rs) r) byte text (λ x. (f x (r.0)).0) h
  ranges_digit_to (Some a) (r ∷ rs) text h = (h.0, cut_taken_from (λ x. P x (r.1)) (λ x. P' x (r.1)) (AfterRange strict most (r.1) rs) byte text (λ x. (f x (r.1)).0) h.1)

  ranges_digit_from : (low : Option ℕ) (rs : List (ℕ × ℕ)) (text : List ℕ) → RangesRest strict most low P rs (byte ∷ text) → RangesRest strict most low P' rs text
  ranges_digit_from low [] text h = h
  ranges_digit_from None (r ∷ rs) text h =
      cut_taken_to (λ x. P x (r.0)) (λ x. P' x (r.0))
      (LowNext strict most (AfterRange strict most (r.1) rs) r) byte text (λ x. (f x (r.0)).1)
      (λ x k. absurd (omega (arith, digit, low_next strict most r rs byte x k))) h
  ranges_digit_from (Some a) (r ∷ rs) text h = (
    h.0,
    cut_taken_to (λ x. P x (r.1)) (λ x. P' x (r.1)) (AfterRange strict most (r.1) rs) byte text (λ x.
        (f x (r.1)).1) (λ x k. absurd (omega (arith, digit, after_comma strict most (r.1) rs byte x k))) h.1,
  )

  pub rest_digit : (items new : List (ℕ × ℕ)) (low : Option ℕ) → 0 < length new → (A : List (ℕ × ℕ) → Type 0) (rest : List ℕ) → ListRest strict new most low P' A rest ↔ ListRest strict items most low P A (byte ∷ rest)
  rest_digit items new low some A rest = (
    λ h. (h.0, h.1, elim h.2 [ inl k ↦ inl (ranges_digit_to low h.0 rest k) | inr k ↦ absurd (omega (arith, k.0)) ]),
    λ h. (h.0, h.1, elim h.2 [ inl k ↦ inl (ranges_digit_from low h.0 rest k) | inr k ↦ absurd (let q = k.2 in cc) ]),
  )

bool_false : (b : Bool) → (b ≡ true → ⊥) → b ≡ false
bool_false true f = absurd (f refl)
bool_false false f = refl

pub not_zero : (n : ℕ) → nat_eq (suc n) 0 ≡ false
not_zero n = bool_false (nat_eq (suc n) 0) (λ e. absurd (omega (arith, eqb-true (suc n) 0 e)))

pub front_push : {X : Type 0} (xs : List X) (x : X) → front (xs ++ x ∷ []) ≡ xs
front_push [] x = refl
front_push (y ∷ []) x = refl
front_push (y ∷ z ∷ xs) x = ap (λ w. y ∷ w) (front_push (z ∷ xs) x)

not_nil : {X : Type 0} (xs : List X) (x : X) → [] ≡ xs ++ x ∷ [] → ⊥
not_nil [] x e = cc
not_nil (y ∷ xs) x e = cc

pub length_pushed : {X : Type 0} (xs : List X) (x : X) (ys : List X) → ys ≡ xs ++ x ∷ [] → length ys ≡ 0 → ⊥
length_pushed xs x [] e h = absurd (not_nil xs x e)
length_pushed xs x (y ∷ ys) e h = absurd (omega (arith, h))

-- P by another relation.
pub ranges_same : (strict : Bool) (most : ℕ) (P P' : List ℕ → ℕ → Type 0) →
    ((x : List ℕ) (n : ℕ) → P x n → P' x n) → (low : Option ℕ) (rs : List (ℕ × ℕ)) (text : List ℕ) →
    RangesRest strict most low P rs text → RangesRest strict most low P' rs text
ranges_same strict most P P' f low [] text h = h
ranges_same strict most P P' f None (r ∷ rs) text h = (h.0, h.1, h.2, f h.0 (r.0) h.3, h.4)
ranges_same strict most P P' f (Some a) (r ∷ rs) text h = (h.0, (h.1.0, h.1.1, h.1.2, f h.1.0 (r.1) h.1.3, h.1.4))

-- A comma or a dash after a number that has ended.
module _ (strict : Bool) (most n : ℕ) (P : List ℕ → ℕ → Type 0) (ended : P [] n) (one : (m : ℕ) → P [] m → m ≡ n) (digits : (x : List ℕ) (m : ℕ) → P x m → AreDigits x) where
  no_low : (c : ℕ) → c < 48 → (x : List ℕ) (m : ℕ) → P (c ∷ x) m → ⊥
  no_low c low x m h = absurd (omega (arith, low, (digits (c ∷ x) m h).0))

  comma_after : (low : Option ℕ) (r : ℕ × ℕ) (rs : List (ℕ × ℕ)) (text : List ℕ) → r.0 ≡ begin_of low n → r.1 ≡ n → AfterRange strict most (r.1) rs (44 ∷ text) →
      (us : List (ℕ × ℕ)) × (r ∷ rs ≡ (begin_of low n, n) ∷ us) × RangesRest strict most None (λ x m. IsDecimal (after_comma_from strict n) most m x) us text
  comma_after low r rs text e g h = (rs, ap (λ x. x ∷ rs) (pair_of r (begin_of low n) n e g), after_more_to strict most n rs text (rw g at h))

  ranges_comma_to : (low : Option ℕ) (rs : List (ℕ × ℕ)) (text : List ℕ) → RangesRest strict most low P rs (44 ∷ text) →
      (us : List (ℕ × ℕ)) × (rs ≡ (begin_of low n, n) ∷ us) × RangesRest strict most None (λ x m. IsDecimal (after_comma_from strict n) most m x) us text
  ranges_comma_to low [] text h = absurd h
  ranges_comma_to None (r ∷ rs) text h = elim (cut_begun (λ x. P x (r.0)) (λ x. P x (r.0)) (LowNext strict most (AfterRange strict most (r.1) rs) r) 44 text h) [
    | inl k ↦ absurd (no_low 44 (omega arith) k.0 (r.0) k.1)
    | inr k ↦ elim k.1 [
      | inl q ↦ comma_after None r rs text (one (r.0) k.0) (sym q.0 ∙ one (r.0) k.0) q.1
      | inr q ↦ absurd (omega (arith, heads 44 45 text q.0 q.1))
    ]
  ]
  ranges_comma_to (Some a) (r ∷ rs) text h = elim (cut_begun (λ x. P x (r.1)) (λ x. P x (r.1)) (AfterRange strict most (r.1) rs) 44 text h.1) [
    | inl k ↦ absurd (no_low 44 (omega arith) k.0 (r.1) k.1)
    | inr k ↦ comma_after (Some a) r rs text h.0 (one (r.1) k.0) k.1
  ]

  ranges_comma_from : (low : Option ℕ) (us : List (ℕ × ℕ)) (text : List ℕ) → RangesRest strict most None (λ x m. IsDecimal (after_comma_from strict n) most m x) us text → RangesRest strict most low P ((begin_of low n, n) ∷ us) (44 ∷ text)
  ranges_comma_from None us text h = ([], 44 ∷ text, refl, ended, inl (refl, after_more_from strict most n us text h))
  ranges_comma_from (Some a) us text h = (refl, ([], 44 ∷ text, refl, ended, after_more_from strict most n us text h))

  -- The range at hand is one of A's, and those to come are of A'.
  pub rest_comma : (P' : List ℕ → ℕ → Type 0) → ((x : List ℕ) (m : ℕ) → P' x m ↔ IsDecimal (after_comma_from strict n) most m x) → (items new : List (ℕ × ℕ)) (low : Option ℕ) → (length new ≡ 0 → ⊥) →
      (A A' : List (ℕ × ℕ) → Type 0) → ((us : List (ℕ × ℕ)) → A' us ↔ A ((begin_of low n, n) ∷ us)) → (rest : List ℕ) → ListRest strict new most None P' A' rest ↔ ListRest strict items most low P A (44 ∷ rest)
  rest_comma P' f items new low some A A' g rest = (
    λ h. (
      (begin_of low n, n) ∷ h.0,
      (g h.0).0 h.1,
      elim h.2 [
        | inl k ↦ inl (ranges_comma_from low h.0 rest (ranges_same strict most P' (λ x m. IsDecimal (after_comma_from strict n) most m x) (λ x m. (f x m).0) None h.0 rest k))
        | inr k ↦ absurd (some k.0)
      ],
    ),
    λ h. elim h.2 [
      | inl k ↦ (let t = ranges_comma_to low h.0 rest k in (t.0, (g t.0).1 (rw t.1 at h.1), inl (ranges_same strict most (λ x m. IsDecimal (after_comma_from strict n) most m x) P' (λ x m. (f x m).1) None t.0 rest t.2)))
      | inr k ↦ absurd (let q = k.2 in cc)
    ],
  )

  ranges_dash_to : (rs : List (ℕ × ℕ)) (text : List ℕ) → RangesRest strict most None P rs (45 ∷ text) → RangesRest strict most (Some n) (λ x m. IsDecimal (after_dash_from strict n) most m x) rs text
  ranges_dash_to [] text h = absurd h
  ranges_dash_to (r ∷ rs) text h = elim (cut_begun (λ x. P x (r.0)) (λ x. P x (r.0)) (LowNext strict most (AfterRange strict most (r.1) rs) r) 45 text h) [
    | inl k ↦ absurd (no_low 45 (omega arith) k.0 (r.0) k.1)
    | inr k ↦ elim k.1 [
      | inl q ↦ absurd (omega (arith, after_comma strict most (r.1) rs 45 text q.1))
      | inr q ↦ (let e : r.0 ≡ n = one (r.0) k.0 in let g : q.0 ≡ text = let z = q.1 in cc in (e, rw (e, g) at q.2))
    ]
  ]

  ranges_dash_from : (rs : List (ℕ × ℕ)) (text : List ℕ) → RangesRest strict most (Some n) (λ x m. IsDecimal (after_dash_from strict n) most m x) rs text → RangesRest strict most None P rs (45 ∷ text)
  ranges_dash_from [] text h = absurd h
  ranges_dash_from (r ∷ rs) text h = let e : n ≡ r.0 = sym h.0 in ([], 45 ∷ text, refl, rw e at ended, inr (text, refl, rw e at h.1))

  pub rest_dash : (P' : List ℕ → ℕ → Type 0) → ((x : List ℕ) (m : ℕ) → P' x m ↔ IsDecimal (after_dash_from strict n) most m x) → (items : List (ℕ × ℕ)) → (length items ≡ 0 → (m : ℕ) → P [] m → ⊥) →
      (A : List (ℕ × ℕ) → Type 0) (rest : List ℕ) → ListRest strict items most (Some n) P' A rest ↔ ListRest strict items most None P A (45 ∷ rest)
  rest_dash P' f items fresh A rest = (
    λ h. (
      h.0,
      h.1,
      elim h.2 [
        | inl k ↦ inl (ranges_dash_from h.0 rest (ranges_same strict most P' (λ x m. IsDecimal (after_dash_from strict n) most m x) (λ x m. (f x m).0) (Some n) h.0 rest k))
        | inr k ↦ absurd (fresh k.0 n ended)
      ],
    ),
    λ h. (
      h.0,
      h.1,
      elim h.2 [
        | inl k ↦ inl (ranges_same strict most (λ x m. IsDecimal (after_dash_from strict n) most m x) P' (λ x m. (f x m).1) (Some n) h.0 rest (ranges_dash_to h.0 rest k))
        | inr k ↦ absurd (let q = k.2 in cc)
      ],
    ),
  )

-- How a byte begins a rest.
low_begun : (strict : Bool) (most : ℕ) (P : List ℕ → ℕ → Type 0) (r : ℕ × ℕ) (rs : List (ℕ × ℕ)) (byte : ℕ) (text : List ℕ) → P [] (r.0) → LowNext strict most (AfterRange strict most (r.1) rs) r (byte ∷ text) → Begun strict most None P byte
low_begun strict most P r [] byte text p (inl h) = absurd (let q = h.1 in cc)
low_begun strict most P r (q ∷ rs) byte text p (inl h) =
    let e : byte ≡ 44 = let z = h.1.1 in cc in
    let d = h.1.2.3 in
    let le : after_comma_from strict (r.1) ≤ most = omega (arith, d.0, d.1) in
    inr (inl (e, r.0, p, rw h.0 le))
low_begun strict most P r rs byte text p (inr h) =
    let e : byte ≡ 45 = let z = h.1 in cc in
    let d = h.2.3 in
    inr (inr (e, refl, r.0, p, omega (arith, d.0, d.1)))

high_begun : (strict : Bool) (most : ℕ) (P : List ℕ → ℕ → Type 0) (low : Option ℕ) (b : ℕ) (rs : List (ℕ × ℕ)) (byte : ℕ) (text : List ℕ) → P [] b → AfterRange strict most b rs (byte ∷ text) → Begun strict most low P byte
high_begun strict most P low b [] byte text p h = absurd (cc)
high_begun strict most P low b (q ∷ rs) byte text p h =
    let e : byte ≡ 44 = let z = h.1 in cc in
    let d = h.2.3 in
    inr (inl (e, b, p, omega (arith, d.0, d.1)))

ranges_begun : (strict : Bool) (most : ℕ) (low : Option ℕ) (P : List ℕ → ℕ → Type 0) (rs : List (ℕ × ℕ)) (byte : ℕ) (text : List ℕ) → RangesRest strict most low P rs (byte ∷ text) → Begun strict most low P byte
ranges_begun strict most low P [] byte text h = absurd h
ranges_begun strict most None P (r ∷ rs) byte text h = elim (cut_begun (λ x. P x (r.0)) (λ x. P x (r.0)) (LowNext strict most (AfterRange strict most (r.1) rs) r) byte text h) [
  | inl k ↦ inl (k.0, r.0, k.1)
  | inr k ↦ low_begun strict most P r rs byte text k.0 k.1
]
ranges_begun strict most (Some a) P (r ∷ rs) byte text h = elim (cut_begun (λ x. P x (r.1)) (λ x. P x (r.1)) (AfterRange strict most (r.1) rs) byte text h.1) [
  | inl k ↦ inl (k.0, r.1, k.1)
  | inr k ↦ high_begun strict most P (Some a) (r.1) rs byte text k.0 k.1
]

pub rest_begun : (strict : Bool) (items : List (ℕ × ℕ)) (most : ℕ) (low : Option ℕ) (P : List ℕ → ℕ →
    Type 0) (byte : ℕ) (A : List (ℕ × ℕ) → Type 0) (rest : List ℕ) →
    ListRest strict items most low P A (byte ∷ rest) → Begun strict most low P byte
rest_begun strict items most low P byte A rest h = elim h.2 [ inl k ↦ ranges_begun strict most low P h.0 byte rest k | inr k ↦ absurd (let q = k.2 in cc) ]

-- Every state can be completed.
pub ranges_complete : (strict : Bool) (most : ℕ) (low : Option ℕ) (P : List ℕ → ℕ → Type 0) (rest : List ℕ) (n : ℕ) → P rest n → RangesRest strict most low P ((begin_of low n, n) ∷ []) rest
ranges_complete strict most None P rest n h = (rest, [], sym (append_nil rest), h, inl (refl, refl))
ranges_complete strict most (Some a) P rest n h = (refl, (rest, [], sym (append_nil rest), h, refl))

pub ranges_nil : (strict : Bool) (most : ℕ) (low : Option ℕ) (P : List ℕ → ℕ → Type 0) (rs : List (ℕ × ℕ)) → RangesRest strict most low P rs [] → (n : ℕ) × P [] n
ranges_nil strict most low P [] h = absurd h
ranges_nil strict most None P (r ∷ rs) h = (r.0, (cut_nil (λ x. P x (r.0)) (LowNext strict most (AfterRange strict most (r.1) rs) r) h).0)
ranges_nil strict most (Some a) P (r ∷ rs) h = (r.1, (cut_nil (λ x. P x (r.1)) (AfterRange strict most (r.1) rs) h.1).0)

-- A rest has one value.
abbrev pub IsStopped : List ℕ → Type 0
IsStopped [] = Unit {0}
IsStopped (c ∷ cs) = c < 48

stopped_not : (b : List ℕ) (y : ℕ) (ys : List ℕ) → b ≡ y ∷ ys → IsStopped b → 48 ≤ y → ⊥
stopped_not [] y ys e s h = absurd (cc)
stopped_not (x ∷ b) y ys e s h = absurd (omega (arith, heads x y b ys e, s, h))

pub decimal_digits : (lo hi n : ℕ) (text : List ℕ) → IsDecimal lo hi n text → AreDigits text
decimal_digits lo hi n text h = number_digits lo hi Start text n h

pub split_one : (a b c d : List ℕ) → AreDigits a → AreDigits c → IsStopped b → IsStopped d → a ++ b ≡ c ++ d → (a ≡ c) × (b ≡ d)
split_one [] b [] d h k s t e = (refl, e)
split_one [] b (y ∷ c) d h k s t e = absurd (stopped_not b y (c ++ d) e s k.0)
split_one (x ∷ a) b [] d h k s t e = absurd (stopped_not d x (a ++ b) (sym e) t h.0)
split_one (x ∷ a) b (y ∷ c) d h k s t e =
    let more = split_one a b c d h.2 k.2 s t (cc) in
    let e0 : x ≡ y = cc in
    let e1 : a ≡ c = more.0 in
    (cc, more.1)

after_stopped : (strict : Bool) (most b : ℕ) (rs : List (ℕ × ℕ)) (text : List ℕ) → AfterRange strict most b rs text → IsStopped text
after_stopped strict most b rs [] h = tt
after_stopped strict most b rs (c ∷ text) h = omega (arith, after_comma strict most b rs c text h)

low_stopped : (strict : Bool) (most : ℕ) (r : ℕ × ℕ) (rs : List (ℕ × ℕ)) (text : List ℕ) → LowNext strict most (AfterRange strict most (r.1) rs) r text → IsStopped text
low_stopped strict most r rs [] h = tt
low_stopped strict most r rs (c ∷ text) h = low_next strict most r rs c text h

-- A dash, or what follows a range.
next_one : (strict : Bool) (most : ℕ) (r q : ℕ × ℕ) (rs qs : List (ℕ × ℕ)) (text : List ℕ) → r.0 ≡ q.0 → LowNext strict most (AfterRange strict most (r.1) rs) r text → LowNext strict most (AfterRange strict most (q.1) qs) q text →
    (r.1 ≡ q.1) × (u : List ℕ) × AfterRange strict most (r.1) rs u × AfterRange strict most (q.1) qs u
next_one strict most r q rs qs text e (inl h) (inl k) = (sym h.0 ∙ e ∙ k.0, text, h.1, k.1)
next_one strict most r q rs qs text e (inl h) (inr k) = absurd (omega (arith, after_comma strict most (r.1) rs 45 k.0 (rw k.1 at h.1)))
next_one strict most r q rs qs text e (inr h) (inl k) = absurd (omega (arith, after_comma strict most (q.1) qs 45 h.0 (rw h.1 at k.1)))
next_one strict most r q rs qs text e (inr h) (inr k) =
    let same : h.0 ≡ k.0 = tails 45 45 h.0 k.0 (sym h.1 ∙ k.1) in
    let c = h.2 in
    let d = k.2 in
    let s = split_one c.0 c.1 d.0 d.1 (decimal_digits (after_dash_from strict (r.0)) most (r.1) c.0 c.3)
    (decimal_digits (after_dash_from strict (q.0)) most (q.1) d.0 d.3)
    (after_stopped strict most (r.1) rs c.1 c.4) (after_stopped strict most (q.1) qs d.1 d.4)
    (sym c.2 ∙ same ∙ d.2) in
    (IsDecimalRest_one (after_dash_from strict (r.0)) most Start c.0 (r.1) (q.1) c.3 (rw (← s.0, ← e) at d.3), c.1, c.4, rw (← s.1) at d.4)

module _ (strict : Bool) (most : ℕ) (P : List ℕ → ℕ → Type 0) (digits : (x : List ℕ) (m : ℕ) → P x m → AreDigits x) (one : (x : List ℕ) (m n : ℕ) → P x m → P x n → m ≡ n) where
  low_one : (r q : ℕ × ℕ) (rs qs : List (ℕ × ℕ)) (text : List ℕ) → LowRest strict most P (AfterRange strict most (r.1) rs) r text → LowRest strict most P (AfterRange strict most (q.1) qs) q text →
      (r ≡ q) × (u : List ℕ) × AfterRange strict most (r.1) rs u × AfterRange strict most (q.1) qs u
  low_one r q rs qs text h k =
      let s = split_one h.0 h.1 k.0 k.1 (digits h.0 (r.0) h.3) (digits k.0 (q.0) k.3) (low_stopped strict most r rs h.1 h.4) (low_stopped strict most q qs k.1 k.4) (sym h.2 ∙ k.2) in
      let e : r.0 ≡ q.0 = one h.0 (r.0) (q.0) h.3 (rw (← s.0) at k.3) in
      let n = next_one strict most r q rs qs h.1 e h.4 (rw (← s.1) at k.4) in
      (pair_of r (q.0) (q.1) e n.0, n.1, n.2, n.3)

  high_one : (b c : ℕ) (rs qs : List (ℕ × ℕ)) (text : List ℕ) → Cut (λ x. P x b) (AfterRange strict most b rs) text → Cut (λ x. P x c) (AfterRange strict most c qs) text →
      (b ≡ c) × (u : List ℕ) × AfterRange strict most b rs u × AfterRange strict most c qs u
  high_one b c rs qs text h k =
      let s = split_one h.0 h.1 k.0 k.1 (digits h.0 b h.3) (digits k.0 c k.3) (after_stopped strict most b rs h.1 h.4) (after_stopped strict most c qs k.1 k.4) (sym h.2 ∙ k.2) in
      (one h.0 b c h.3 (rw (← s.0) at k.3), h.1, h.4, rw (← s.1) at k.4)

after_at : (strict : Bool) (most b c : ℕ) (qs : List (ℕ × ℕ)) (u : List ℕ) → b ≡ c → AfterRange strict most c qs u → AfterRange strict most b qs u
after_at strict most b c qs u e h = rw e h

after_one : (strict : Bool) (most b : ℕ) (rs qs : List (ℕ × ℕ)) (text : List ℕ) → AfterRange strict most b rs text → AfterRange strict most b qs text → rs ≡ qs
after_one strict most b [] [] text h k = refl
after_one strict most b [] (q ∷ qs) text h k = absurd (let e = k.1 in cc)
after_one strict most b (r ∷ rs) [] text h k = absurd (let e = h.1 in cc)
after_one strict most b (r ∷ rs) (q ∷ qs) text h k =
    let same : h.0 ≡ k.0 = tails 44 44 h.0 k.0 (sym h.1 ∙ k.1) in
    let o = low_one strict most (λ x n. IsDecimal (after_comma_from strict b) most n x)
    (λ x m. decimal_digits (after_comma_from strict b) most m x)
    (λ x m n. IsDecimalRest_one (after_comma_from strict b) most Start x m n) r q rs qs h.0 h.2
    (rw (← same) at k.2) in
    let rest : rs ≡ qs = after_one strict most (r.1) rs qs o.1 o.2 (after_at strict most (r.1) (q.1) qs o.1 (ap (λ (z : ℕ × ℕ). z.1) o.0) o.3) in
    let e : r ≡ q = o.0 in
    cc

module _ (strict : Bool) (most : ℕ) (P : List ℕ → ℕ → Type 0) (digits : (x : List ℕ) (m : ℕ) → P x m → AreDigits x) (one : (x : List ℕ) (m n : ℕ) → P x m → P x n → m ≡ n) where
  ranges_one : (low : Option ℕ) (rs qs : List (ℕ × ℕ)) (text : List ℕ) → RangesRest strict most low P rs text → RangesRest strict most low P qs text → rs ≡ qs
  ranges_one low [] qs text h k = absurd h
  ranges_one low (r ∷ rs) [] text h k = absurd k
  ranges_one None (r ∷ rs) (q ∷ qs) text h k =
      let o = low_one strict most P digits one r q rs qs text h k in
      let rest : rs ≡ qs = after_one strict most (r.1) rs qs o.1 o.2 (after_at strict most (r.1) (q.1) qs o.1 (ap (λ (z : ℕ × ℕ). z.1) o.0) o.3) in
      let e : r ≡ q = o.0 in
      cc
  ranges_one (Some a) (r ∷ rs) (q ∷ qs) text h k =
      let o = high_one strict most P digits one (r.1) (q.1) rs qs text h.1 k.1 in
      let rest : rs ≡ qs = after_one strict most (r.1) rs qs o.1 o.2 (after_at strict most (r.1) (q.1) qs o.1 o.0 o.3) in
      let e : r ≡ q = pair_of r (q.0) (q.1) (h.0 ∙ sym k.0) o.0 in
      cc

  rest_one_of : (items : List (ℕ × ℕ)) (low : Option ℕ) → (length items ≡ 0 → (n : ℕ) → P [] n → ⊥) → (rest : List ℕ) (rs qs : List (ℕ × ℕ)) →
      (RangesRest strict most low P rs rest ⊎ ((length items ≡ 0) × (rs ≡ []) × (rest ≡ []))) → (RangesRest strict most low P qs rest ⊎ ((length items ≡ 0) × (qs ≡ []) × (rest ≡ []))) → rs ≡ qs
  rest_one_of items low fresh rest rs qs (inl h) (inl k) = ranges_one low rs qs rest h k
  rest_one_of items low fresh rest rs qs (inl h) (inr k) = absurd (let n = ranges_nil strict most low P rs (rw k.2 at h) in fresh k.0 n.0 n.1)
  rest_one_of items low fresh rest rs qs (inr h) (inl k) = absurd (let n = ranges_nil strict most low P qs (rw h.2 at k) in fresh h.0 n.0 n.1)
  rest_one_of items low fresh rest rs qs (inr h) (inr k) = h.1 ∙ sym k.1

  -- The ranges to come are determined.
  pub rest_one : (items : List (ℕ × ℕ)) (low : Option ℕ) → (length items ≡ 0 → (n : ℕ) → P [] n → ⊥) →
      (rest : List ℕ) (A B : List (ℕ × ℕ) →
      Type 0) (h : ListRest strict items most low P A rest) (k : ListRest strict items most low P B rest) →
      h.0 ≡ k.0
  rest_one items low fresh rest A B h k = rest_one_of items low fresh rest h.0 k.0 h.2 k.2

-- What begins a rest can be completed.
pub some_decimal : (lo most : ℕ) → lo ≤ most → (text : List ℕ) × IsDecimal lo most most text
some_decimal lo most le = let t = IsDecimalRest_completes most most Start (omega arith) refl in let same : t.1 ≡ most = omega (arith, t.2.0, t.2.1) in (t.0, (le, omega arith, rw same at t.2.2))

-- The definition, from left to right.
pub decimal_from : (lo most n : ℕ) (text : List ℕ) → IsDecimal 0 most n text → lo ≤ n → IsDecimal lo most n text
decimal_from lo most n text h le = (le, h.1, h.2)

pub decimal_any : (lo most n : ℕ) (text : List ℕ) → IsDecimal lo most n text → IsDecimal 0 most n text
decimal_any lo most n text h = (omega arith, h.1, h.2)

-- A number takes digits alone.
pub digit_byte : (old new : DecimalText) (byte : ℕ) → ((x : List ℕ) (n : ℕ) → number_rest new x n ↔ number_rest old (byte ∷ x) n) → 48 ≤ byte
digit_byte old new byte f =
    let k = IsDecimalRest_completes new.lo new.hi new.progress new.range new.live in
    (number_digits old.lo old.hi old.progress (byte ∷ k.0) k.1 ((f k.0 k.1).0 k.2)).0

-- The same of a run of digits.
pub rest_digits : (strict : Bool) (most : ℕ) (P P' : List ℕ → ℕ → Type 0) (run : List ℕ) → 0 < length run → AreDigits run →
    ((x : List ℕ) (n : ℕ) → P' x n ↔ P (run ++ x) n) → (items new : List (ℕ × ℕ)) (low : Option ℕ) → 0 < length new → (A : List (ℕ × ℕ) → Type 0) (rest : List ℕ) →
    ListRest strict new most low P' A rest ↔ ListRest strict items most low P A (run ++ rest)
rest_digits strict most P P' [] many digits f items new low some A rest = absurd (omega (arith, many))
rest_digits strict most P P' (b ∷ []) many digits f items new low some A rest = rest_digit strict most b P P' digits.0 f items new low some A rest
rest_digits strict most P P' (b ∷ c ∷ cs) many digits f items new low some A rest =
    let first = rest_digit strict most b P (λ x n. P (b ∷ x) n) digits.0 (λ x n. (λ h. h, λ h. h)) items new low some A ((c ∷ cs) ++ rest) in
    let others = rest_digits strict most (λ x n. P (b ∷ x) n) P' (c ∷ cs) (omega arith) digits.2 f new new low some A rest in
    (λ h. first.0 (others.0 h), λ h. others.1 (first.1 h))

digits_before : (xs ys : List ℕ) → AreDigits (xs ++ ys) → AreDigits xs
digits_before [] ys h = tt
digits_before (x ∷ xs) ys h = (h.0, h.1, digits_before xs ys h.2)

-- What a number takes are digits.
pub run_digits : (old new : DecimalText) (run : List ℕ) → ((x : List ℕ) (n : ℕ) → number_rest new x n ↔ number_rest old (run ++ x) n) → AreDigits run
run_digits old new run f =
    let k = IsDecimalRest_completes new.lo new.hi new.progress new.range new.live in
    digits_before run k.0 (number_digits old.lo old.hi old.progress (run ++ k.0) k.1 ((f k.0 k.1).0 k.2))

pub number_one : (d : DecimalText) (n : ℕ) → number_rest d [] n → (m : ℕ) → number_rest d [] m → m ≡ n
number_one d n h m k = IsDecimalRest_one d.lo d.hi d.progress [] m n k h

pub front_length : (xs : List (ℕ × ℕ)) → 0 < length xs → length (front xs) + 1 ≡ length xs
front_length [] h = absurd (omega (arith, h))
front_length (x ∷ []) h = refl
front_length (x ∷ y ∷ xs) h = omega (arith, front_length (y ∷ xs) (omega arith))

pub some_length : (xs : List (ℕ × ℕ)) → (length xs ≡ 0 → ⊥) → 0 < length xs
some_length [] f = absurd (f refl)
some_length (x ∷ xs) f = omega arith

pub begin_some : (o : Option ℕ) (a n : ℕ) → o ≡ Some a → begin_of o n ≡ a
begin_some o a n e = rw e refl

pub begin_none : (o : Option ℕ) (n : ℕ) → o ≡ None → begin_of o n ≡ n
begin_none o n e = rw e refl

pub some_of : (n : ℕ) (b : Bool) → b ≡ nat_eq n 0 → b ≡ false → 0 < n
some_of zero b e f = absurd (true_not_false (sym (eq-eqb 0 0 refl) ∙ sym e ∙ f))
some_of (suc n) b e f = omega arith

pub nothing : (n : ℕ) (b : Bool) → b ≡ nat_eq n 0 → b ≡ true → n ≡ 0
nothing n b e f = eqb-true n 0 (sym e ∙ f)

-- A rest holds bytes.
pub cut_bytes : (P N : List ℕ → Type 0) → ((x : List ℕ) → P x → AreBytes x) → ((x : List ℕ) → N x → AreBytes x) → (text : List ℕ) → Cut P N text → AreBytes text
cut_bytes P N f g text h = rw h.2 (bytes_append h.0 h.1 (f h.0 h.3) (g h.1 h.4))

next_bytes : (strict : Bool) (most : ℕ) (N : List ℕ → Type 0) (r : ℕ × ℕ) → ((x : List ℕ) → N x → AreBytes x) → (text : List ℕ) → LowNext strict most N r text → AreBytes text
next_bytes strict most N r g text (inl h) = g text h.1
next_bytes strict most N r g text (inr h) = rw h.1 (omega arith, cut_bytes (λ x. IsDecimal (after_dash_from strict (r.0)) most (r.1) x) N (λ x k. digits_bytes x (decimal_digits (after_dash_from strict (r.0)) most (r.1) x k)) g h.0 h.2)

low_bytes : (strict : Bool) (most : ℕ) (P : List ℕ → ℕ → Type 0) (N : List ℕ → Type 0) (r : ℕ × ℕ) →
    ((x : List ℕ) (n : ℕ) → P x n → AreDigits x) → ((x : List ℕ) → N x → AreBytes x) → (text : List ℕ) →
    LowRest strict most P N r text → AreBytes text
low_bytes strict most P N r f g text h = cut_bytes (λ x. P x (r.0)) (LowNext strict most N r) (λ x k. digits_bytes x (f x (r.0) k)) (next_bytes strict most N r g) text h

after_bytes : (strict : Bool) (most b : ℕ) (rs : List (ℕ × ℕ)) (text : List ℕ) → AfterRange strict most b rs text → AreBytes text
after_bytes strict most b [] text h = rw h tt
after_bytes strict most b (r ∷ rs) text h =
    rw h.1 (
      omega arith,
      low_bytes strict most (λ x n. IsDecimal
          (after_comma_from strict b) most n x) (AfterRange strict most (r.1) rs) r
          (λ x n k. decimal_digits (after_comma_from strict b) most n x k) (after_bytes strict most (r.1) rs) h.0 h.2,
    )

ranges_bytes : (strict : Bool) (most : ℕ) (low : Option ℕ) (P : List ℕ → ℕ → Type 0) → ((x : List ℕ) (n : ℕ) → P x n → AreDigits x) → (rs : List (ℕ × ℕ)) (text : List ℕ) → RangesRest strict most low P rs text → AreBytes text
ranges_bytes strict most low P f [] text h = absurd h
ranges_bytes strict most None P f (r ∷ rs) text h = low_bytes strict most P (AfterRange strict most (r.1) rs) r f (after_bytes strict most (r.1) rs) text h
ranges_bytes strict most (Some a) P f (r ∷ rs) text h = cut_bytes (λ x. P x (r.1)) (AfterRange strict most (r.1) rs) (λ x k. digits_bytes x (f x (r.1) k)) (after_bytes strict most (r.1) rs) text h.1

pub rest_bytes : (strict : Bool) (items : List (ℕ × ℕ)) (most : ℕ) (low : Option ℕ) (P : List ℕ → ℕ → Type 0) →
    ((x : List ℕ) (n : ℕ) → P x n → AreDigits x) → (A : List (ℕ × ℕ) → Type 0) (rest : List ℕ) →
    ListRest strict items most low P A rest → AreBytes rest
rest_bytes strict items most low P f A rest h = elim h.2 [ inl k ↦ ranges_bytes strict most low P f h.0 rest k | inr k ↦ rw k.2 tt ]

pub turn_begun : (strict : Bool) (most : ℕ) (low : Option ℕ) (old : DecimalText) (byte : ℕ) (t : ListByte) → IsListByte strict most low old byte t → (t ≡ Refused → ⊥) → Begun strict most low (number_rest old) byte
turn_begun strict most low old byte (Digit new) h f = let k = IsDecimalRest_completes new.lo new.hi new.progress new.range new.live in inl (k.0, k.1, (h k.0 k.1).0 k.2)
turn_begun strict most low old byte (Comma end new) h f = inr (inl (h.0, end, h.1, h.2))
turn_begun strict most low old byte (Dash end new) h f = inr (inr (h.0, h.4, end, h.1, h.2))
turn_begun strict most low old byte Refused h f = absurd (f refl)

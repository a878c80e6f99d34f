-- What follows for the digits of keys.
use Rattle.std.proofs.Common.{◌≡◌, ◌≢◌, ℕ, zero, suc, ◌+◌, ◌-◌, ◌*◌, ◌/◌, ◌%◌, ◌<◌, ◌≤◌, ◌^◌, ◌⊎◌, inl, inr, List, [], ◌∷◌, length, get_or, not, ◌==◌, w8}
use Rattle.std.proofs.Common.{refl, sym, ap, ◌∙◌, arith}
use Rattle.std.specs.Int.{bit_at, trailing_zeros}
use Rattle.std.specs.Int.RustNames.{bit_xor}
use Rattle.std.proofs.lemmas.Bool.{cases_lt, cases_order}
use Rattle.std.proofs.lemmas.Nat.{xor_lt}
use Rattle.std.proofs.lemmas.Nat.Bits.{bit_at-lt, bit_at_xor, bit_at-trailing_zeros, bit_at-zero, same_from_bits}
use Rattle.cg_index.specs.Position.{side, digit_of, HasNoZero}

-- Digits of bytes.

digit_apart : (x y : ℕ) → x < 2 → y < 2 → (x + y) % 2 ≡ 1 → (y == 1) ≡ not (x == 1)
digit_apart zero zero h k e = cc
digit_apart zero (suc zero) h k e = refl
digit_apart (suc zero) zero h k e = refl
digit_apart (suc zero) (suc zero) h k e = cc
digit_apart (suc (suc x)) y h k e = absurd (omega (arith, h))
digit_apart x (suc (suc y)) h k e = absurd (omega (arith, k))

digit_same : (x y : ℕ) → x < 2 → y < 2 → (x + y) % 2 ≡ 0 → x ≡ y
digit_same x y h k e = omega arith

-- Bytes that differ.
xor_some : (a b : ℕ) → a ≢ b → 0 < bit_xor a b
xor_some a b apart = elim (cases_lt 0 (bit_xor a b)) [
  | inl some ↦ some
  | inr none ↦
      let zero_is : bit_xor a b ≡ 0 = omega arith in
      absurd (apart (same_from_bits a b (λ k. digit_same (bit_at a k) (bit_at b k) (bit_at-lt a k) (bit_at-lt b k)
      (sym (bit_at_xor a b k) ∙ ap (λ x. bit_at x k) zero_is ∙ bit_at-zero k))))
]

-- The lowest digit in which two bytes differ.
pub first_digit_below : (a b : ℕ) → a < 2 ^ 8 → b < 2 ^ 8 → a ≢ b → trailing_zeros w8 (bit_xor a b) < 8
first_digit_below a b h k apart = (bit_at-trailing_zeros w8 (bit_xor a b) (xor_some a b apart) (xor_lt 8 a b h k)).0

pub first_digit_differs : (a b : ℕ) → a < 2 ^ 8 → b < 2 ^ 8 → a ≢ b → digit_of b (trailing_zeros w8 (bit_xor a b)) ≡ not (digit_of a (trailing_zeros w8 (bit_xor a b)))
first_digit_differs a b h k apart =
    let t = trailing_zeros w8 (bit_xor a b) in
    digit_apart (bit_at a t) (bit_at b t) (bit_at-lt a t) (bit_at-lt b t)
    (sym (bit_at_xor a b t) ∙ (bit_at-trailing_zeros w8 (bit_xor a b) (xor_some a b apart) (xor_lt 8 a b h k)).1)

pub first_digit_same : (a b : ℕ) → a < 2 ^ 8 → b < 2 ^ 8 → a ≢ b → (i : ℕ) → i < trailing_zeros w8 (bit_xor a b) → digit_of a i ≡ digit_of b i
first_digit_same a b h k apart i less =
    ap (λ (x : ℕ). x == 1) (digit_same (bit_at a i) (bit_at b i) (bit_at-lt a i) (bit_at-lt b i)
    (sym (bit_at_xor a b i) ∙ (bit_at-trailing_zeros w8 (bit_xor a b) (xor_some a b apart) (xor_lt 8 a b h k)).2 i less))

-- Digits of keys.

pub side_at : (key : List ℕ) (byte digit : ℕ) → digit < 8 → side key (8 * byte + digit) ≡ digit_of (get_or key byte 0) digit
unfolding side
side_at key byte digit h =
    let place : (8 * byte + digit) / 8 ≡ byte = omega arith in
    let rest : (8 * byte + digit) % 8 ≡ digit = omega arith in
    rw (place, rest) refl

-- Keys of the same bytes are the same.
same_keys : (a b : List ℕ) (i : ℕ) → HasNoZero a → HasNoZero b → length a ≤ i → length b ≤ i →
    ((k : ℕ) → k < i → get_or a k 0 ≡ get_or b k 0) → a ≡ b
same_keys [] [] i na nb la lb e = refl
same_keys [] (y ∷ ys) i na nb la lb e = absurd (omega (arith, e 0 (omega (arith, lb)), nb 0 0 (omega arith)))
same_keys (x ∷ xs) [] i na nb la lb e = absurd (omega (arith, e 0 (omega (arith, la)), na 0 0 (omega arith)))
same_keys (x ∷ xs) (y ∷ ys) i na nb la lb e =
    let first : x ≡ y = e 0 (omega (arith, la)) in
    let rest = same_keys xs ys (i - 1) (λ k d h. na (suc k) d (omega arith)) (λ k d h. nb (suc k) d (omega arith))
    (omega (arith, la)) (omega (arith, lb)) (λ k h. e (suc k) (omega arith)) in
    cc

-- While the bytes are the same, one of the keys goes on.
pub one_goes_on : (a b : List ℕ) (i : ℕ) → HasNoZero a → HasNoZero b → a ≢ b → ((k : ℕ) → k < i → get_or a k 0 ≡ get_or b k 0) →
    (i < length a) ⊎ (i < length b)
one_goes_on a b i na nb apart e = elim (cases_lt i (length a)) [
  | inl less ↦ inl less
  | inr more ↦ elim (cases_lt i (length b)) [
    | inl less ↦ inr less
    | inr most ↦ absurd (apart (same_keys a b i na nb more most e))
  ]
]

-- Before the first byte that differs, and in it before the first digit that does, the digits are the same.
pub same_before : (a b : List ℕ) (byte digit : ℕ) → digit < 8 → ((k : ℕ) → k < byte → get_or a k 0 ≡ get_or b k 0) →
    ((k : ℕ) → k < digit → digit_of (get_or a byte 0) k ≡ digit_of (get_or b byte 0) k) →
    (p : ℕ) → p < 8 * byte + digit → side a p ≡ side b p
unfolding side
same_before a b byte digit h bytes digits p less = elim (cases_order (p / 8) byte) [
  | inl same ↦
      let low : p % 8 < digit = omega arith in
      rw same (digits (p % 8) low)
  | inr (inl before) ↦ ap (λ (x : ℕ). digit_of x (p % 8)) (bytes (p / 8) before)
  | inr (inr after) ↦ absurd (omega arith)
]

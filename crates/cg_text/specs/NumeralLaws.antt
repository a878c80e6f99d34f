-- The one text of a number, which is what is printed.
use Rattle.std.proofs.Common.{◌≡◌, ℕ, zero, suc, ◌+◌, ◌-◌, ◌*◌, ◌/◌, ◌%◌, ◌^◌, ◌≤◌, ◌<◌, inl, inr, ℤ, pos, negsuc, ◌≤ℤ◌, List, [], ◌∷◌, ◌++◌, length, refl, sym, ◌∙◌, arith, w64}
use Rattle.std.proofs.Math.Nat.{pow-succ', pow-le-pow_right, one-le-pow, mul-le-mul_right}
use Rattle.std.proofs.lemmas.Fmt.{decimal_by_steps}
use Rattle.std.specs.Fmt.{decimal, signed_decimal}
use Rattle.std.specs.Prelude.{FitsSigned}
use native.Mathlib.Decide.{dec_lt}
use Prim.{yes, no}
use Rattle.cg_text.specs.Decimal.{AreDigits, read_on, IsNumeral, IsDecimal}
use Rattle.cg_text.specs.DecimalLaws.{read_on_low, read_on_high, read_on_push, AreDigits_push, digits_bytes}
use Rattle.cg_text.specs.Token.{AreBytes}
use Rattle.cg_text.specs.Signed.{IsSignedNumeral, IsSigned}
use Rattle.cg_text.specs.Size.{IsSize}

one_digit : (n : ℕ) → n < 10 → IsNumeral n ((48 + n) ∷ [])
one_digit zero h = inl (refl, refl, refl)
one_digit (suc n) h = inr (omega arith, omega arith, tt, omega arith)

more_digits : (n : ℕ) (ds : List ℕ) → 10 ≤ n → IsNumeral (n / 10) ds → IsNumeral n (ds ++ ((48 + n % 10) ∷ []))
more_digits n [] le h = absurd h
more_digits n (c ∷ cs) le (inl h) = absurd (omega (arith, h.2))
more_digits n (c ∷ cs) le (inr h) =
    let value : n ≡ 10 * read_on (c - 48) cs + (48 + n % 10 - 48) = omega (arith, h.3) in
    inr (h.0, h.1, AreDigits_push cs (48 + n % 10) h.2 (omega arith) (omega arith), value ∙ sym (read_on_push (c - 48) cs (48 + n % 10)))

-- What is printed is the number's text.
pub decimal_numeral : (n : ℕ) → n < 2 ^ 64 → IsNumeral n (decimal n)
decimal_numeral n small = decimal_by_steps IsNumeral one_digit more_digits n small

pub decimal_is : (lo hi n : ℕ) → lo ≤ n → n ≤ hi → n < 2 ^ 64 → IsDecimal lo hi n (decimal n)
decimal_is lo hi n low high small = (low, high, decimal_numeral n small)

pub signed_decimal_numeral : (z : ℤ) → FitsSigned w64 z → IsSignedNumeral z (signed_decimal z)
signed_decimal_numeral (pos n) f = decimal_numeral n (omega (arith, f.sfits))
signed_decimal_numeral (negsuc n) f = (decimal (suc n), refl, decimal_numeral (suc n) (omega (arith, f.sfits)))

pub signed_decimal_is : (lo hi z : ℤ) → lo ≤ℤ z → z ≤ℤ hi → FitsSigned w64 z → IsSigned lo hi z (signed_decimal z)
signed_decimal_is lo hi z low high f = (low, high, signed_decimal_numeral z f)

-- A number of bytes is the text of its size.
pub plain_size : (n : ℕ) (text : List ℕ) → n ≤ 18446744073709551615 → IsNumeral n text → IsSize n text
plain_size n text small h = record { count = n; factor = 1; product = omega arith; fits = small; spelled = inl (h, refl) }

-- As many digits, the same number.
same_digits : (m n : ℕ) (cs ds : List ℕ) → AreDigits cs → AreDigits ds → length cs ≡ length ds → read_on m cs ≡ read_on n ds → (m ≡ n) × (cs ≡ ds)
same_digits m n [] [] h k e f = (f, refl)
same_digits m n [] (d ∷ ds) h k e f = absurd (omega (arith, e))
same_digits m n (c ∷ cs) [] h k e f = absurd (omega (arith, e))
same_digits m n (c ∷ cs) (d ∷ ds) h k e f =
    let more = same_digits (10 * m + (c - 48)) (10 * n + (d - 48)) cs ds h.2 k.2 (omega (arith, e)) f in
    let head : c ≡ d = omega (arith, more.0, h.0, h.1, k.0, k.1) in
    let tail : cs ≡ ds = more.1 in
    (omega (arith, more.0, h.0, h.1, k.0, k.1), cc)

-- Fewer digits, a lesser number.
fewer_less : (a b : ℕ) (cs ds : List ℕ) → a ≤ 9 → 1 ≤ b → AreDigits cs → length cs < length ds → read_on a cs < read_on b ds
fewer_less a b cs ds small some h fewer =
    let high : read_on a cs < (a + 1) * 10 ^ length cs = read_on_high a cs h in
    let ten : (a + 1) * 10 ^ length cs ≤ 10 * 10 ^ length cs = mul-le-mul_right (10 ^ length cs) (omega arith) in
    let next : 10 ^ suc (length cs) ≡ 10 * 10 ^ length cs = pow-succ' 10 (length cs) in
    let power : 10 ^ suc (length cs) ≤ 10 ^ length ds = pow-le-pow_right (omega arith) (omega arith) in
    let low : b * 10 ^ length ds ≤ read_on b ds = read_on_low b ds in
    let one : 1 * 10 ^ length ds ≤ b * 10 ^ length ds = mul-le-mul_right (10 ^ length ds) some in
    omega arith

above_zero : (a : ℕ) (ds : List ℕ) → 1 ≤ a → 0 < read_on a ds
above_zero a ds some =
    let one : 1 * 10 ^ length ds ≤ a * 10 ^ length ds = mul-le-mul_right (10 ^ length ds) some in
    let power : 1 ≤ 10 ^ length ds = one-le-pow (length ds) 10 (omega arith) in
    omega (arith, read_on_low a ds)

one_long : (n c d : ℕ) (cs ds : List ℕ) → 49 ≤ c → c ≤ 57 → AreDigits cs → n ≡ read_on (c - 48) cs → 49 ≤ d → d ≤ 57 → AreDigits ds → n ≡ read_on (d - 48) ds → c ∷ cs ≡ d ∷ ds
one_long n c d cs ds low high h e low' high' k f =
    let less : length cs < length ds → c ∷ cs ≡ d ∷ ds = λ fewer. absurd (omega (arith, e, f, fewer_less (c - 48) (d - 48) cs ds (omega arith) (omega arith) h fewer)) in
    let more : length ds < length cs → c ∷ cs ≡ d ∷ ds = λ fewer. absurd (omega (arith, e, f, fewer_less (d - 48) (c - 48) ds cs (omega arith) (omega arith) k fewer)) in
    let same : length cs ≡ length ds → c ∷ cs ≡ d ∷ ds = λ as_many. (
    let both = same_digits (c - 48) (d - 48) cs ds h k as_many (sym e ∙ f) in
    let head : c ≡ d = omega (arith, both.0, low, low') in
    let tail : cs ≡ ds = both.1 in
    cc) in
    elim (dec_lt (length cs) (length ds)) [
      | yes l ↦ less l
      | no l ↦ elim (dec_lt (length ds) (length cs)) [ yes m ↦ more m | no m ↦ same (omega arith) ]
    ]

-- A number has one text.
pub numeral_one_text : (n : ℕ) (t u : List ℕ) → IsNumeral n t → IsNumeral n u → t ≡ u
numeral_one_text n [] u h k = absurd h
numeral_one_text n (c ∷ cs) [] h k = absurd k
numeral_one_text n (c ∷ cs) (d ∷ ds) (inl (h0, h1, h2)) (inl (k0, k1, k2)) = cc
numeral_one_text n (c ∷ cs) (d ∷ ds) (inl h) (inr k) = absurd (omega (arith, h.2, k.3, above_zero (d - 48) ds (omega (arith, k.0))))
numeral_one_text n (c ∷ cs) (d ∷ ds) (inr h) (inl k) = absurd (omega (arith, k.2, h.3, above_zero (c - 48) cs (omega (arith, h.0))))
numeral_one_text n (c ∷ cs) (d ∷ ds) (inr h) (inr k) = one_long n c d cs ds h.0 h.1 h.2 h.3 k.0 k.1 k.2 k.3

-- A text of a number is what is printed of it.
pub numeral_is_decimal : (n : ℕ) (text : List ℕ) → n < 2 ^ 64 → IsNumeral n text → text ≡ decimal n
numeral_is_decimal n text small h = numeral_one_text n text (decimal n) h (decimal_numeral n small)

-- A text of a number holds bytes.
pub numeral_bytes : (n : ℕ) (text : List ℕ) → IsNumeral n text → AreBytes text
numeral_bytes n [] h = absurd h
numeral_bytes n (c ∷ cs) (inl h) = (omega (arith, h.0), rw h.1 tt)
numeral_bytes n (c ∷ cs) (inr h) = (omega (arith, h.1), digits_bytes cs h.2)

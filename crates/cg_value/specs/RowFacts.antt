-- Texts that are tested byte by byte, so that what holds of one given text is computed.
use Rattle.std.proofs.Common.{◌≡◌, ℕ, ◌+◌, ◌-◌, ◌*◌, ◌≤◌, inl, inr, Bool, true, false, not, nat_eq, nat_le, ◌&&◌, List, [], ◌∷◌, ◌++◌, refl, sym, arith, leb-true, eqb-true, eq-eqb}
use native.Mathlib.Decide.{dec_lt}
use Prim.{yes, no}
use Rattle.std.proofs.lemmas.Bool.{and_parts}
use Rattle.std.proofs.lemmas.Slice.Eq.{bytes_eq-Decides}
use Rattle.std.specs.Fmt.{decimal}
use Rattle.std.specs.Str.{bytes_eq}
use Rattle.cg_text.specs.Decimal.{AreDigits, read_on, IsNumeral, IsDecimal}
use Rattle.cg_text.specs.Device.{IsDevice}
use Rattle.cg_text.specs.Hundredths.{HasTwoDigits}
use Rattle.cg_text.specs.NumeralLaws.{numeral_is_decimal}
use Rattle.cg_text.specs.Raw.{IsRawLine}
use Rattle.cg_text.specs.Word.{AreWordBytes, IsWord, IsControllerWord}

-- ---- Numbers

abbrev pub is_digit : ℕ → Bool
is_digit c = nat_le 48 c && nat_le c 57

abbrev pub are_digits : List ℕ → Bool
are_digits [] = true
are_digits (c ∷ cs) = is_digit c && are_digits cs

digits_tested : (cs : List ℕ) → are_digits cs ≡ true → AreDigits cs
digits_tested [] e = tt
digits_tested (c ∷ cs) e =
    let both = and_parts _ _ e in
    let here = and_parts _ _ both.0 in
    (leb-true _ _ here.0, leb-true _ _ here.1, digits_tested cs both.1)

abbrev pub is_numeral : ℕ → List ℕ → Bool
is_numeral n [] = false
is_numeral n (c ∷ []) = is_digit c && nat_eq n (c - 48)
is_numeral n (c ∷ d ∷ cs) = nat_le 49 c && nat_le c 57 && are_digits (d ∷ cs) && nat_eq n (read_on (c - 48) (d ∷ cs))

-- One digit.
one_digit : (n c : ℕ) → 48 ≤ c → c ≤ 57 → n ≡ c - 48 → IsNumeral n (c ∷ [])
one_digit n c low high e = elim (dec_lt c 49) [
  | yes h ↦ inl (omega arith, refl, omega arith)
  | no h ↦ inr (omega arith, high, tt, e)
]

pub numeral_tested : (n : ℕ) (text : List ℕ) → is_numeral n text ≡ true → IsNumeral n text
numeral_tested n [] e = absurd (cc)
numeral_tested n (c ∷ []) e =
    let both = and_parts _ _ e in
    let here = and_parts _ _ both.0 in
    one_digit n c (leb-true _ _ here.0) (leb-true _ _ here.1) (eqb-true _ _ both.1)
numeral_tested n (c ∷ d ∷ cs) e =
    let last = and_parts _ _ e in
    let more = and_parts _ _ last.0 in
    let first = and_parts _ _ more.0 in
    inr (leb-true _ _ first.0, leb-true _ _ first.1, digits_tested (d ∷ cs) more.1, eqb-true _ _ last.1)

pub decimal_tested : (lo hi n : ℕ) (text : List ℕ) → (nat_le lo n && nat_le n hi && is_numeral n text) ≡ true → IsDecimal lo hi n text
decimal_tested lo hi n text e =
    let both = and_parts _ _ e in
    let here = and_parts _ _ both.0 in
    (leb-true _ _ here.0, leb-true _ _ here.1, numeral_tested n text both.1)

-- What is printed of a number.
pub printed : (n : ℕ) (text : List ℕ) → n ≤ 18446744073709551615 → is_numeral n text ≡ true → decimal n ≡ text
printed n text small e = sym (numeral_is_decimal n text (omega arith) (numeral_tested n text e))

pub device_tested : (major minor : ℕ) (front back : List ℕ) → (nat_le major 4095 && is_numeral major front) ≡ true →
    (nat_le minor 1048575 && is_numeral minor back) ≡ true →
    IsDevice (record { major = major; minor = minor }) (front ++ 58 ∷ back)
device_tested major minor front back e f =
    let first = and_parts _ _ e in
    let second = and_parts _ _ f in
    record {
      major = front;
      minor = back;
      text_is = refl;
      major_is = (omega arith, leb-true _ _ first.0, numeral_tested major front first.1);
      minor_is = (omega arith, leb-true _ _ second.0, numeral_tested minor back second.1);
    }

pub two_digits_tested : (whole : ℕ) (digits : List ℕ) (tenth hundredth : ℕ) → (is_numeral whole digits && is_digit tenth && is_digit hundredth) ≡ true →
    HasTwoDigits (100 * whole + 10 * (tenth - 48) + (hundredth - 48)) (digits ++ 46 ∷ tenth ∷ hundredth ∷ [])
two_digits_tested whole digits tenth hundredth e =
    let last = and_parts _ _ e in
    let first = and_parts _ _ last.0 in
    let tenth_is = and_parts _ _ first.1 in
    let hundredth_is = and_parts _ _ last.1 in
    record {
      whole = whole;
      digits = digits;
      tenth = tenth;
      hundredth = hundredth;
      text_is = refl;
      whole_is = numeral_tested whole digits first.0;
      tenth_is = (leb-true _ _ tenth_is.0, leb-true _ _ tenth_is.1);
      hundredth_is = (leb-true _ _ hundredth_is.0, leb-true _ _ hundredth_is.1);
      count_is = refl;
    }

-- ---- Words

abbrev is_word_byte : ℕ → Bool
is_word_byte c = nat_le 33 c && nat_le c 126 && not (nat_eq c 61)

abbrev pub are_word_bytes : List ℕ → Bool
are_word_bytes [] = true
are_word_bytes (c ∷ cs) = is_word_byte c && are_word_bytes cs

differ : (a b : ℕ) → not (nat_eq a b) ≡ true → a ≡ b → ⊥
differ a b e s = let same : nat_eq a b ≡ true = eq-eqb a b s in absurd (cc)

-- Two texts that are not one.
pub unlike : (a b : List ℕ) → bytes_eq a b ≡ false → a ≡ b → ⊥
unlike a b e s = let same : bytes_eq a b ≡ true = (bytes_eq-Decides a b).1 s in absurd (cc)

word_bytes_tested : (cs : List ℕ) → are_word_bytes cs ≡ true → AreWordBytes cs
word_bytes_tested [] e = tt
word_bytes_tested (c ∷ cs) e =
    let both = and_parts _ _ e in
    let here = and_parts _ _ both.0 in
    let range = and_parts _ _ here.0 in
    ((leb-true _ _ range.0, leb-true _ _ range.1, differ c 61 here.1), word_bytes_tested cs both.1)

pub word_tested : (c : ℕ) (cs : List ℕ) → are_word_bytes (c ∷ cs) ≡ true → IsWord (c ∷ cs)
word_tested c cs e = (omega arith, word_bytes_tested (c ∷ cs) e)

pub controller_tested : (c : ℕ) (cs : List ℕ) → (not (nat_eq c 43) && not (nat_eq c 45) && are_word_bytes (c ∷ cs)) ≡ true → IsControllerWord (c ∷ cs)
controller_tested c cs e =
    let both = and_parts _ _ e in
    let signs = and_parts _ _ both.0 in
    ((differ c 43 signs.0, differ c 45 signs.1), word_tested c cs both.1)

-- ---- Raw lines

abbrev is_raw : List ℕ → Bool
is_raw [] = true
is_raw (c ∷ cs) = nat_le 1 c && nat_le c 255 && not (nat_eq c 10) && is_raw cs

pub raw_tested : (cs : List ℕ) → is_raw cs ≡ true → IsRawLine cs
raw_tested [] e = tt
raw_tested (c ∷ cs) e =
    let both = and_parts _ _ e in
    let here = and_parts _ _ both.0 in
    let range = and_parts _ _ here.0 in
    let low : 1 ≤ c = leb-true _ _ range.0 in
    let high : c ≤ 255 = leb-true _ _ range.1 in
    (omega arith, omega arith, differ c 10 here.1, raw_tested cs both.1)

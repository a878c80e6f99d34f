-- The word max is no number.
use Rattle.std.proofs.Common.{◌≡◌, ℕ, ◌≤◌, inl, inr, List, [], ◌∷◌, ◌++◌, codes, arith}
use Rattle.cg_text.specs.Decimal.{IsNumeral, IsDecimal}
use Rattle.cg_text.specs.Hundredths.{IsHundredths, HasDigits, HasTwoDigits}
use Rattle.cg_text.specs.declared.hundredths.Spelling.{Spelling}
use Rattle.cg_text.specs.declared.hundredths.Spelling.TheVariants.{Read, Written}
use Rattle.cg_text.specs.declared.values.Hundredths.{Hundredths}

numeral_first : (n c : ℕ) (cs : List ℕ) → IsNumeral n (c ∷ cs) → c ≤ 57
numeral_first n c cs (inl h) = omega (arith, h.0)
numeral_first n c cs (inr h) = h.1

-- What begins with a number begins with a digit.
digits_first : (n c : ℕ) (cs front back : List ℕ) → c ∷ cs ≡ front ++ back → IsNumeral n front → c ≤ 57
digits_first n c cs [] back e h = absurd h
digits_first n c cs (x ∷ front) back e h = let s : x ≡ c = cc in rw s at (numeral_first n x front h)

two_first : (count c : ℕ) (cs : List ℕ) → HasTwoDigits count (c ∷ cs) → c ≤ 57
two_first count c cs h = digits_first h.whole c cs h.digits (46 ∷ h.tenth ∷ h.hundredth ∷ []) h.text_is h.whole_is

hundredths_first : (form : Spelling) (count c : ℕ) (cs : List ℕ) → HasDigits form count (c ∷ cs) → c ≤ 57
hundredths_first Read count c cs h = two_first count c cs h
hundredths_first Written count c cs (inl h) = two_first count c cs h
hundredths_first Written count c cs (inr (inl h)) = digits_first h.whole c cs h.digits (46 ∷ h.tenth ∷ []) h.text_is h.whole_is
hundredths_first Written count c cs (inr (inr h)) = numeral_first h.whole c cs h.whole_is

pub max_not_hundredths : (form : Spelling) (most : ℕ) (h : Hundredths) (text : List ℕ) → text ≡ codes "max" → IsHundredths form most h text → ⊥
max_not_hundredths form most h text e k = let s = rw e at k in omega (arith, hundredths_first form h.count 109 (97 ∷ 120 ∷ []) s.1)

pub max_not_decimal : (lo hi n : ℕ) (text : List ℕ) → text ≡ codes "max" → IsDecimal lo hi n text → ⊥
max_not_decimal lo hi n text e k = let s = rw e at k in omega (arith, numeral_first n 109 (97 ∷ 120 ∷ []) s.2)

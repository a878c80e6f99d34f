-- What holds of amounts.
use Rattle.std.proofs.Common.{◌≡◌, ◌≤◌, ℕ, ◌↔◌, Bool, List, [], ◌∷◌, ◌++◌, ◌≢◌, refl, codes, arith}
use Rattle.cg_text.specs.Amount.{IsAmount, IsBelow}
use Rattle.cg_text.specs.Decimal.{IsDecimal, AreDigits}
use Rattle.cg_text.specs.DecimalLaws.{number_digits}
use Rattle.cg_text.specs.Hundredths.{IsHundredths}
use Rattle.cg_text.specs.declared.decimal.Progress.TheVariants.{Start}
use Rattle.cg_text.specs.declared.hundredths.Spelling.TheVariants.{Read}
use Rattle.cg_text.specs.declared.values.Amount.{Amount}
use Rattle.cg_text.specs.declared.values.Amount.TheVariants.{Whole, Decimal, Max, Below}
use Rattle.cg_text.specs.declared.values.Hundredths.{Hundredths}
use Rattle.cg_join.specs.declared.choice.Either.{Either}
use Rattle.cg_join.specs.declared.choice.Either.TheVariants.{Left, Right}
use Rattle.cg_join.specs.AmountState.{amount_of}
use Rattle.cg_join.specs.BeginsLaws.{begins_as, decimal_begins, either_begins, fixed_begins_other, hundredths_begins, label_begins}
use Rattle.cg_join.specs.Composites.{IsNumberIn}
use Rattle.cg_join.specs.DisjointLaws.{begins_disjoint, disjoint_swap, either_disjoint}
use Rattle.cg_join.specs.FilledLaws.{first_filled, fixed_filled}
use Rattle.cg_join.specs.Fork.{AllBegin}
use Rattle.cg_join.specs.MaxLaws.{max_not_decimal, max_not_hundredths}
use Rattle.cg_join.specs.Proper.{IsProper}
use Rattle.cg_join.specs.ProperLaws.{decimal_proper, fixed_proper, label_proper}
use Rattle.cg_join.specs.Spelling.{IsAllowed, IsConcat, IsEither, IsMappedText, Disjoint}
use Rattle.cg_join.specs.TextBytes.{BeginsBy, IsFixed}

dot_no_digit : (front back : List ℕ) → AreDigits (front ++ 46 ∷ back) → ⊥
dot_no_digit [] back h = omega (arith, h.0)
dot_no_digit (c ∷ front) back h = dot_no_digit front back h.2

abbrev pub IsWhole : List ℕ → ℕ → Type 0
IsWhole text n = IsDecimal 0 18446744073709551615 n text

abbrev pub IsFraction : List ℕ → Hundredths → Type 0
IsFraction text h = IsHundredths Read 99999999999 h text

abbrev pub IsMax : List ℕ → Unit {0} → Type 0
IsMax text _ = text ≡ codes "max"

-- Only the one has a dot.
pub whole_not_fraction : Disjoint IsWhole IsFraction
whole_not_fraction text n h k l = dot_no_digit l.1.digits (l.1.tenth ∷ l.1.hundredth ∷ []) (rw l.1.text_is at (number_digits 0 18446744073709551615 Start text n k))

pub fraction_not_max : Disjoint IsFraction IsMax
fraction_not_max text h u k e = max_not_hundredths Read 99999999999 h text e k

pub whole_apart : Disjoint IsWhole (IsEither IsFraction IsMax)
whole_apart = either_disjoint IsFraction IsMax IsWhole whole_not_fraction (λ text n u h e. max_not_decimal 0 18446744073709551615 n text e h)

-- How much below 0, after a minus sign.
abbrev pub IsNegated : List ℕ → Unit {0} × ℕ → Type 0
IsNegated text v = IsConcat (IsFixed (45 ∷ [])) (IsNumberIn 1 2147483648) text v

pub negated_begin : AllBegin IsNegated 45
negated_begin = (first_filled (fixed_filled 45 []), label_begins 45 [])

pub negated_proper : IsProper IsNegated
negated_proper = label_proper (fixed_proper (45 ∷ []) (omega arith, tt)) (decimal_proper 1 2147483648 (omega arith))

abbrev pub IsUnsigned : List ℕ → Either ℕ (Either Hundredths (Unit {0})) → Type 0
IsUnsigned text v = IsEither IsWhole (IsEither IsFraction IsMax) text v

digits_other : (c : ℕ) → (48 ≤ c) × (c ≤ 57) → c ≢ 45
digits_other c h e = omega (arith, h.0, e)

-- Numbers begin with digits, and the word with a letter.
pub unsigned_begins : BeginsBy (λ c. c ≢ 45) IsUnsigned
unsigned_begins = either_begins (begins_as digits_other (decimal_begins 0 18446744073709551615))
    (either_begins (begins_as digits_other (hundredths_begins 99999999999)) (fixed_begins_other 45 109 (97 ∷ 120 ∷ []) (λ e. omega (arith, e))))

pub negated_apart : Disjoint IsUnsigned IsNegated
negated_apart = disjoint_swap IsNegated IsUnsigned (begins_disjoint negated_begin.0 negated_begin.1 unsigned_begins (λ c e n. n e))

abbrev pub IsAnAmount : Bool → List ℕ → Either (Either ℕ (Either Hundredths (Unit {0}))) (Unit {0} × ℕ) → Type 0
IsAnAmount signed text v = IsEither IsUnsigned (IsAllowed signed IsNegated) text v

below_from : (text : List ℕ) (v : Unit {0} × ℕ) → IsNegated text v → IsBelow v.1 text
below_from text v h = record { digits = h.back; text_is = (rw h.begins at h.whole); digits_are = h.ends }

below_to : (text : List ℕ) (n : ℕ) → IsBelow n text → IsNegated text (tt, n)
below_to text n h = record { front = 45 ∷ []; back = h.digits; whole = h.text_is; begins = refl; ends = h.digits_are }

amount_from : (signed : Bool) (text : List ℕ) (x : Either (Either ℕ (Either Hundredths (Unit {0}))) (Unit {0} × ℕ)) → IsAnAmount signed text x → IsAmount signed (amount_of x) text
amount_from signed text (Left (Left n)) h = h
amount_from signed text (Left (Right (Left n))) h = h
amount_from signed text (Left (Right (Right u))) h = h
amount_from signed text (Right v) h = (h.0, below_from text v h.1)

amount_to : (signed : Bool) (text : List ℕ) (v : Amount) → IsAmount signed v text → IsMappedText (IsAnAmount signed) amount_of text v
amount_to signed text Max h = (Left (Right (Right tt)), h, refl)
amount_to signed text (Whole n) h = (Left (Left n), h, refl)
amount_to signed text (Decimal n) h = (Left (Right (Left n)), h, refl)
amount_to signed text (Below n) h = (Right (tt, n), (h.0, below_to text n h.1), refl)

-- The alternatives of an amount, turned into its values.
pub amount_is : (signed : Bool) (text : List ℕ) (v : Amount) → IsMappedText (IsAnAmount signed) amount_of text v ↔ IsAmount signed v text
amount_is signed text v = (λ h. (let k = amount_from signed text h.0 h.1 in rw h.2 at k), λ h. amount_to signed text v h)

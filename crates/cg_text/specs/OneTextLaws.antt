-- A value has one text in its read form.
use Rattle.std.proofs.Common.{◌≡◌, ℕ, Bool, List, ◌∷◌, sym, ◌∙◌, ap, arith}
use Rattle.cg_text.specs.Amount.{IsAmount, IsBelow}
use Rattle.cg_text.specs.Decimal.{IsDecimal}
use Rattle.cg_text.specs.Device.{IsDevice}
use Rattle.cg_text.specs.Hundredths.{IsHundredths, HasTwoDigits}
use Rattle.cg_text.specs.Limit.{IsLimit}
use Rattle.cg_text.specs.NumeralLaws.{numeral_one_text}
use Rattle.cg_text.specs.declared.hundredths.Spelling.TheVariants.{Read}
use Rattle.cg_text.specs.declared.values.Amount.{Amount}
use Rattle.cg_text.specs.declared.values.Amount.TheVariants as amount
use Rattle.cg_text.specs.declared.values.Device.{Device}
use Rattle.cg_text.specs.declared.values.Hundredths.{Hundredths}
use Rattle.cg_text.specs.declared.values.Limit.{Limit}
use Rattle.cg_text.specs.declared.values.Limit.TheVariants as limit

pub decimal_text : (lo hi n : ℕ) (t u : List ℕ) → IsDecimal lo hi n t → IsDecimal lo hi n u → t ≡ u
decimal_text lo hi n t u h k = numeral_one_text n t u h.2 k.2

pub limit_text : (lo hi : ℕ) (v : Limit) (t u : List ℕ) → IsLimit lo hi v t → IsLimit lo hi v u → t ≡ u
limit_text lo hi limit.Max t u h k = h ∙ sym k
limit_text lo hi (limit.At n) t u h k = decimal_text lo hi n t u h k

two_digits : (count : ℕ) (t u : List ℕ) → HasTwoDigits count t → HasTwoDigits count u → t ≡ u
two_digits count t u h k =
    let whole : k.whole ≡ h.whole = omega (arith, h.count_is, k.count_is, h.tenth_is, k.tenth_is, h.hundredth_is, k.hundredth_is) in
    let tenth : h.tenth ≡ k.tenth = omega (arith, h.count_is, k.count_is, h.tenth_is, k.tenth_is, h.hundredth_is, k.hundredth_is) in
    let hundredth : h.hundredth ≡ k.hundredth = omega (arith, h.count_is, k.count_is, h.tenth_is, k.tenth_is, h.hundredth_is, k.hundredth_is) in
    let digits : h.digits ≡ k.digits = numeral_one_text h.whole h.digits k.digits h.whole_is (rw whole at k.whole_is) in
    h.text_is ∙ rw (tenth, hundredth, digits) (sym k.text_is)

pub hundredths_text : (most : ℕ) (v : Hundredths) (t u : List ℕ) → IsHundredths Read most v t → IsHundredths Read most v u → t ≡ u
hundredths_text most v t u h k = two_digits v.count t u h.1 k.1

below_text : (n : ℕ) (t u : List ℕ) → IsBelow n t → IsBelow n u → t ≡ u
below_text n t u h k = h.text_is ∙ ap (λ digits. 45 ∷ digits) (decimal_text 1 2147483648 n h.digits k.digits h.digits_are k.digits_are) ∙ sym k.text_is

pub amount_text : (signed : Bool) (v : Amount) (t u : List ℕ) → IsAmount signed v t → IsAmount signed v u → t ≡ u
amount_text signed amount.Max t u h k = h ∙ sym k
amount_text signed (amount.Whole n) t u h k = decimal_text 0 18446744073709551615 n t u h k
amount_text signed (amount.Decimal v) t u h k = hundredths_text 99999999999 v t u h k
amount_text signed (amount.Below n) t u h k = below_text n t u h.1 k.1

pub device_text : (v : Device) (t u : List ℕ) → IsDevice v t → IsDevice v u → t ≡ u
device_text v t u h k =
    let major : h.major ≡ k.major = decimal_text 0 4095 v.major h.major k.major h.major_is k.major_is in
    let minor : h.minor ≡ k.minor = decimal_text 0 1048575 v.minor h.minor k.minor h.minor_is k.minor_is in
    h.text_is ∙ rw (major, minor) (sym k.text_is)

-- The texts of values have no space, newline or other byte below.
use Rattle.std.proofs.Common.{◌≡◌, ℕ, suc, ℤ, pos, negsuc, ◌<◌, ◌≤◌, ◌⊎◌, inl, inr, Bool, true, List, [], ◌∷◌, ◌++◌, Option, Some, None, codes, refl, arith, nat_lt, ltb-true}
use Rattle.std.proofs.lemmas.Bool.{and_parts}
use Rattle.std.specs.List.{list_all}
use Rattle.cg_text.specs.AboveSpace.{AreAboveSpace}
use Rattle.cg_text.specs.Amount.{IsAmount, IsBelow}
use Rattle.cg_text.specs.Clamp.{IsClamp}
use Rattle.cg_text.specs.Decimal.{AreDigits, IsNumeral}
use Rattle.cg_text.specs.Device.{IsDevice, IsDeviceName}
use Rattle.cg_text.specs.Hundredths.{IsHundredths, HasTwoDigits, HasDigits}
use Rattle.cg_text.specs.Limit.{IsLimit}
use Rattle.cg_text.specs.Name.{IsNameValue}
use Rattle.cg_text.specs.Param.{IsParam}
use Rattle.cg_text.specs.List.{IsRangeText, AreRangeTexts, IsStrictList, IsLooseRangeText, AreLooseTexts, IsLooseList}
use Rattle.cg_text.specs.Signed.{IsSigned, IsSignedNumeral}
use Rattle.cg_text.specs.Size.{HasFactor, HasSize, IsSize}
use Rattle.cg_text.specs.Texts.{Lacks}
use Rattle.cg_text.specs.Word.{AreWordBytes, IsWordText}
use Rattle.cg_text.specs.WordLaws.{text_word}
use Rattle.cg_text.specs.declared.hundredths.Spelling.{Spelling}
use Rattle.cg_text.specs.declared.hundredths.Spelling.TheVariants.{Read, Written}
use Rattle.cg_text.specs.declared.values.Amount.{Amount}
use Rattle.cg_text.specs.declared.values.Amount.TheVariants as amount
use Rattle.cg_text.specs.declared.values.Clamp.{Clamp}
use Rattle.cg_text.specs.declared.values.Clamp.TheVariants as clamp
use Rattle.cg_text.specs.declared.values.Device.{Device}
use Rattle.cg_text.specs.declared.values.Hundredths.{Hundredths}
use Rattle.cg_text.specs.declared.values.Limit.{Limit}
use Rattle.cg_text.specs.declared.values.Limit.TheVariants as limit
use Rattle.cg_text.specs.declared.values.ParamValue.{ParamValue}
use Rattle.cg_text.specs.declared.values.ParamValue.TheVariants as param

pub above_append : (xs ys : List ℕ) → AreAboveSpace xs → AreAboveSpace ys → AreAboveSpace (xs ++ ys)
above_append [] ys h k = k
above_append (x ∷ xs) ys h k = (h.0, above_append xs ys h.1 k)

-- No byte up to the space is there.
pub above_lacks_byte : (b : ℕ) (text : List ℕ) → b ≤ 32 → AreAboveSpace text → Lacks b text
above_lacks_byte b [] low h = tt
above_lacks_byte b (c ∷ cs) low h = ((λ e. omega (arith, h.0, e)), above_lacks_byte b cs low h.1)

digits_above : (cs : List ℕ) → AreDigits cs → AreAboveSpace cs
digits_above [] h = tt
digits_above (c ∷ cs) h = (omega (arith, h.0), digits_above cs h.2)

none_above : (cs : List ℕ) → cs ≡ [] → AreAboveSpace cs
none_above cs e = rw e tt

pub numeral_above : (n : ℕ) (text : List ℕ) → IsNumeral n text → AreAboveSpace text
numeral_above n [] h = absurd h
numeral_above n (c ∷ cs) (inl h) = (omega (arith, h.0), none_above cs h.1)
numeral_above n (c ∷ cs) (inr h) = (omega (arith, h.0), digits_above cs h.2)

max_above : (text : List ℕ) → text ≡ codes "max" → AreAboveSpace text
max_above text e = rw e (omega arith, (omega arith, (omega arith, tt)))

pub limit_above : (lo hi : ℕ) (v : Limit) (text : List ℕ) → IsLimit lo hi v text → AreAboveSpace text
limit_above lo hi limit.Max text h = max_above text h
limit_above lo hi (limit.At n) text h = numeral_above n text h.2

two_above : (count : ℕ) (text : List ℕ) → HasTwoDigits count text → AreAboveSpace text
two_above count text h = rw h.text_is (above_append h.digits (46 ∷ h.tenth ∷ h.hundredth ∷ []) (numeral_above h.whole h.digits h.whole_is) (omega arith, (omega (arith, h.tenth_is), (omega (arith, h.hundredth_is), tt))))

digits_are_above : (form : Spelling) (count : ℕ) (text : List ℕ) → HasDigits form count text → AreAboveSpace text
digits_are_above Read count text h = two_above count text h
digits_are_above Written count text (inl h) = two_above count text h
digits_are_above Written count text (inr (inl h)) = rw h.text_is (above_append h.digits (46 ∷ h.tenth ∷ []) (numeral_above h.whole h.digits h.whole_is) (omega arith, (omega (arith, h.tenth_is), tt)))
digits_are_above Written count text (inr (inr h)) = numeral_above h.whole text h.whole_is

pub hundredths_above : (form : Spelling) (most : ℕ) (v : Hundredths) (text : List ℕ) → IsHundredths form most v text → AreAboveSpace text
hundredths_above form most v text h = digits_are_above form v.count text h.1

pub clamp_above : (form : Spelling) (v : Clamp) (text : List ℕ) → IsClamp form v text → AreAboveSpace text
clamp_above form clamp.Max text h = max_above text h
clamp_above form (clamp.At v) text h = hundredths_above form 10000 v text h

below_above : (n : ℕ) (text : List ℕ) → IsBelow n text → AreAboveSpace text
below_above n text h = rw h.text_is (omega arith, numeral_above n h.digits h.digits_are.2)

pub amount_above : (signed : Bool) (v : Amount) (text : List ℕ) → IsAmount signed v text → AreAboveSpace text
amount_above signed amount.Max text h = max_above text h
amount_above signed (amount.Whole n) text h = numeral_above n text h.2
amount_above signed (amount.Decimal v) text h = hundredths_above Read 99999999999 v text h
amount_above signed (amount.Below n) text h = below_above n text h.1

pub device_above : (v : Device) (text : List ℕ) → IsDevice v text → AreAboveSpace text
device_above v text h = rw h.text_is (above_append h.major (58 ∷ h.minor) (numeral_above v.major h.major h.major_is.2) (omega arith, numeral_above v.minor h.minor h.minor_is.2))

tested_above : (xs : List ℕ) → list_all (λ c. nat_lt 32 c) xs ≡ true → AreAboveSpace xs
tested_above [] e = tt
tested_above (x ∷ xs) e = let both = and_parts _ _ e in (ltb-true 32 x both.0, tested_above xs both.1)

unknown_above : (text : List ℕ) → text ≡ codes "(unknown)" → AreAboveSpace text
unknown_above text e = rw e (tested_above (codes "(unknown)") refl)

pub device_name_above : (unknown : Bool) (v : Option Device) (text : List ℕ) → IsDeviceName unknown v text → AreAboveSpace text
device_name_above unknown (Some v) text h = device_above v text h
device_name_above unknown None text h = unknown_above text h.1

signed_numeral_above : (z : ℤ) (text : List ℕ) → IsSignedNumeral z text → AreAboveSpace text
signed_numeral_above (pos n) text h = numeral_above n text h
signed_numeral_above (negsuc n) text h = rw h.1 (omega arith, numeral_above (suc n) h.0 h.2)

pub signed_above : (lo hi z : ℤ) (text : List ℕ) → IsSigned lo hi z text → AreAboveSpace text
signed_above lo hi z text h = signed_numeral_above z text h.2

letter_above : (a b suffix : ℕ) → 32 < a → 32 < b → (suffix ≡ a) ⊎ (suffix ≡ b) → 32 < suffix
letter_above a b suffix h k (inl e) = omega (arith, h, e)
letter_above a b suffix h k (inr e) = omega (arith, k, e)

suffix_above : (suffix factor : ℕ) → HasFactor suffix factor → 32 < suffix
suffix_above suffix factor (inl h) = letter_above 75 107 suffix (omega arith) (omega arith) h.0
suffix_above suffix factor (inr (inl h)) = letter_above 77 109 suffix (omega arith) (omega arith) h.0
suffix_above suffix factor (inr (inr (inl h))) = letter_above 71 103 suffix (omega arith) (omega arith) h.0
suffix_above suffix factor (inr (inr (inr (inl h)))) = letter_above 84 116 suffix (omega arith) (omega arith) h.0
suffix_above suffix factor (inr (inr (inr (inr (inl h))))) = letter_above 80 112 suffix (omega arith) (omega arith) h.0
suffix_above suffix factor (inr (inr (inr (inr (inr h))))) = letter_above 69 101 suffix (omega arith) (omega arith) h.0

has_size_above : (m factor : ℕ) (text : List ℕ) → HasSize m factor text → AreAboveSpace text
has_size_above m factor text (inl h) = numeral_above m text h.0
has_size_above m factor text (inr h) = rw h.2 (above_append h.0 (h.1 ∷ []) (numeral_above m h.0 h.3) (suffix_above h.1 factor h.4, tt))

pub size_above : (n : ℕ) (text : List ℕ) → IsSize n text → AreAboveSpace text
size_above n text h = has_size_above h.count h.factor text h.spelled

range_above : (most : ℕ) (r : ℕ × ℕ) (text : List ℕ) → IsRangeText most r text → AreAboveSpace text
range_above most r text (inl h) = numeral_above (r.0) text h.1.2
range_above most r text (inr h) = rw h.3 (above_append h.1 (45 ∷ h.2) (numeral_above (r.0) h.1 h.4.2) (omega arith, numeral_above (r.1) h.2 h.5.2))

ranges_above : (most : ℕ) (rs : List (ℕ × ℕ)) (text : List ℕ) → AreRangeTexts most rs text → AreAboveSpace text
ranges_above most [] text h = none_above text h
ranges_above most (r ∷ []) text h = range_above most r text h
ranges_above most (r ∷ q ∷ rs) text h = rw h.2 (above_append h.0 (44 ∷ h.1) (range_above most r h.0 h.3) (omega arith, ranges_above most (q ∷ rs) h.1 h.4))

pub strict_above : (most : ℕ) (set : List (ℕ × ℕ)) (text : List ℕ) → IsStrictList most set text → AreAboveSpace text
strict_above most set text h = ranges_above most set text h.1

loose_range_above : (most : ℕ) (r : ℕ × ℕ) (text : List ℕ) → IsLooseRangeText most r text → AreAboveSpace text
loose_range_above most r text (inl h) = numeral_above (r.0) text h.1.2
loose_range_above most r text (inr h) = rw h.3 (above_append h.1 (45 ∷ h.2) (numeral_above (r.0) h.1 h.4.2) (omega arith, numeral_above (r.1) h.2 h.5.2))

loose_ranges_above : (most : ℕ) (rs : List (ℕ × ℕ)) (text : List ℕ) → AreLooseTexts most rs text → AreAboveSpace text
loose_ranges_above most [] text h = none_above text h
loose_ranges_above most (r ∷ []) text h = loose_range_above most r text h
loose_ranges_above most (r ∷ q ∷ rs) text h = rw h.2 (above_append h.0 (44 ∷ h.1) (loose_range_above most r h.0 h.3) (omega arith, loose_ranges_above most (q ∷ rs) h.1 h.4))

pub loose_above : (most : ℕ) (set : List (ℕ × ℕ)) (text : List ℕ) → IsLooseList most set text → AreAboveSpace text
loose_above most set text h = loose_ranges_above most h.1 text h.3

word_bytes_above : (text : List ℕ) → AreWordBytes text → AreAboveSpace text
word_bytes_above [] h = tt
word_bytes_above (c ∷ cs) h = (omega (arith, h.0.0), word_bytes_above cs h.1)

pub word_text_above : (controller : Bool) (text : List ℕ) → IsWordText controller text → AreAboveSpace text
word_text_above controller text h = word_bytes_above text (text_word controller text h).1

pub name_above : (text : List ℕ) → IsNameValue text → AreAboveSpace text
name_above [] h = absurd h
name_above (c ∷ cs) h = word_bytes_above (c ∷ cs) h.1.1

pub param_above : (v : ParamValue) (text : List ℕ) → IsParam v text → AreAboveSpace text
param_above (param.Whole n) text h = numeral_above n text h.2
param_above (param.Decimal v) text h = hundredths_above Read 99999999999 v text h
param_above (param.Name name) text h = name_above text h.1

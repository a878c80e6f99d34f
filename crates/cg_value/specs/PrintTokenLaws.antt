-- The canonical texts of tokens are their texts.
use Rattle.std.proofs.Common.{◌≡◌, ℕ, ◌+◌, ◌/◌, ◌%◌, ◌≤◌, inl, inr, Bool, true, false, cond, nat_eq, List, [], ◌∷◌, ◌++◌, refl, arith, eqb-true, eq-eqb}
use Rattle.std.specs.Fmt.{decimal}
use Rattle.cg_text.specs.Clamp.{IsClamp}
use Rattle.cg_text.specs.Decimal.{IsDecimal}
use Rattle.cg_text.specs.Device.{IsDevice}
use Rattle.cg_text.specs.Hundredths.{IsHundredths, HasTwoDigits, HasDigits}
use Rattle.cg_text.specs.Limit.{IsLimit}
use Rattle.cg_text.specs.List.{IsRangeText, AreRangeTexts, IsLooseRangeText, AreLooseTexts}
use Rattle.cg_text.specs.NumeralLaws.{decimal_is, decimal_numeral, plain_size}
use Rattle.cg_text.specs.Numbers.{IsSetFrom}
use Rattle.cg_text.specs.Size.{IsSize}
use Rattle.cg_text.specs.declared.hundredths.Spelling.{Spelling}
use Rattle.cg_text.specs.declared.hundredths.Spelling.TheVariants.{Read, Written}
use Rattle.cg_text.specs.declared.values.Clamp.{Clamp}
use Rattle.cg_text.specs.declared.values.Clamp.TheVariants as clamp
use Rattle.cg_text.specs.declared.values.Device.{Device}
use Rattle.cg_text.specs.declared.values.Hundredths.{Hundredths}
use Rattle.cg_text.specs.declared.values.Limit.{Limit}
use Rattle.cg_text.specs.declared.values.Limit.TheVariants.{Max, At}
use Rattle.cg_value.specs.Kind.{any_u64}
use Rattle.cg_value.specs.Print.{print_limit, print_hundredths, print_clamp, print_device, print_range, print_set}
use Rattle.cg_value.specs.Within.{IsWithin, IsLimitWithin, IsClampWithin, IsDeviceWithin, AreRangesWithin}

pub decimal_prints : (lo hi n : ℕ) → IsWithin lo hi n → hi ≤ any_u64 → IsDecimal lo hi n (decimal n)
decimal_prints lo hi n h b = decimal_is lo hi n h.0 h.1 (omega (arith, h.1))

pub limit_prints : (lo hi : ℕ) (l : Limit) → IsLimitWithin lo hi l → hi ≤ any_u64 → IsLimit lo hi l (print_limit l)
limit_prints lo hi Max h b = refl
limit_prints lo hi (At n) h b = decimal_prints lo hi n h b

pub size_prints : (n : ℕ) → n ≤ any_u64 → IsSize n (decimal n)
size_prints n h = plain_size n (decimal n) h (decimal_numeral n (omega arith))

two_digits_print : (h : Hundredths) → h.count ≤ any_u64 → HasTwoDigits h.count (print_hundredths h)
two_digits_print h b = record {
  whole = h.count / 100;
  digits = decimal (h.count / 100);
  tenth = 48 + h.count / 10 % 10;
  hundredth = 48 + h.count % 10;
  text_is = refl;
  whole_is = decimal_numeral (h.count / 100) (omega arith);
  tenth_is = (omega arith, omega arith);
  hundredth_is = (omega arith, omega arith);
  count_is = omega arith;
}

-- Two digits are a form of every number.
two_digits_has : (form : Spelling) (count : ℕ) (text : List ℕ) → HasTwoDigits count text → HasDigits form count text
two_digits_has Read count text h = h
two_digits_has Written count text h = inl h

pub hundredths_print : (form : Spelling) (most : ℕ) (h : Hundredths) → h.count ≤ most → most ≤ any_u64 → IsHundredths form most h (print_hundredths h)
hundredths_print form most h le b = (le, two_digits_has form h.count (print_hundredths h) (two_digits_print h (omega arith)))

pub clamp_prints : (form : Spelling) (c : Clamp) → IsClampWithin c → IsClamp form c (print_clamp c)
clamp_prints form clamp.Max h = refl
clamp_prints form (clamp.At s) h = hundredths_print form 10000 s h (omega arith)

pub device_prints : (d : Device) → IsDeviceWithin d → IsDevice d (print_device d)
device_prints d h = record {
  major = decimal d.major;
  minor = decimal d.minor;
  text_is = refl;
  major_is = decimal_prints 0 4095 d.major (omega arith, h.0) (omega arith);
  minor_is = decimal_prints 0 1048575 d.minor (omega arith, h.1) (omega arith);
}

-- A range with this test of its ends.
range_by : (most : ℕ) (r : ℕ × ℕ) (b : Bool) → nat_eq (r.0) (r.1) ≡ b → r.0 ≤ r.1 → r.1 ≤ most → most ≤ any_u64 → IsRangeText most r (cond b (decimal (r.0)) (decimal (r.0) ++ 45 ∷ decimal (r.1)))
range_by most r true e le h b = inl (eqb-true (r.0) (r.1) e, decimal_prints 0 most (r.0) (omega arith, omega arith) b)
range_by most r false e le h b =
    let differ : r.0 ≡ r.1 → ⊥ = λ same. (let is : nat_eq (r.0) (r.1) ≡ true = eq-eqb (r.0) (r.1) same in absurd (cc)) in
    inr (omega (arith, differ), decimal (r.0), decimal (r.1), refl, decimal_prints 0 most (r.0) (omega arith, omega arith) b, decimal_prints 0 most (r.1) (omega arith, h) b)

pub range_prints : (most : ℕ) (r : ℕ × ℕ) → r.0 ≤ r.1 → r.1 ≤ most → most ≤ any_u64 → IsRangeText most r (print_range r)
range_prints most r le h b = range_by most r (nat_eq (r.0) (r.1)) refl le h b

pub ranges_print : (least most : ℕ) (rs : List (ℕ × ℕ)) → IsSetFrom least rs → AreRangesWithin most rs → most ≤ any_u64 → AreRangeTexts most rs (print_set rs)
ranges_print least most [] s h b = refl
ranges_print least most (r ∷ []) s h b = range_prints most r s.1 h.0 b
ranges_print least most (r ∷ q ∷ rs) s h b = (print_range r, print_set (q ∷ rs), refl, range_prints most r s.1 h.0 b, ranges_print (r.1 + 2) most (q ∷ rs) s.2 h.1 b)

-- Ranges in order are ranges in any order.
loose_range : (most : ℕ) (r : ℕ × ℕ) (text : List ℕ) → IsRangeText most r text → IsLooseRangeText most r text
loose_range most r text (inl h) = inl h
loose_range most r text (inr h) = inr (omega (arith, h.0), h.1, h.2, h.3, h.4, h.5)

pub loose_ranges : (most : ℕ) (rs : List (ℕ × ℕ)) (text : List ℕ) → AreRangeTexts most rs text → AreLooseTexts most rs text
loose_ranges most [] text h = h
loose_ranges most (r ∷ []) text h = loose_range most r text h
loose_ranges most (r ∷ q ∷ rs) text h = (h.0, h.1, h.2, loose_range most r h.0 h.3, loose_ranges most (q ∷ rs) h.1 h.4)

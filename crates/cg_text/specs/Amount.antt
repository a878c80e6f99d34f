-- Amounts (cgroup-v2.rst, io.stat: the values of sub-keys; block/blk-cgroup.c: use_delay is printed as a signed number of 32 bits).
use Rattle.std.specs.Prelude.{◌≡◌, Bool, IsTrue, List, ℕ, ◌∷◌, codes}
use Rattle.cg_text.specs.Decimal.{IsDecimal}
use Rattle.cg_text.specs.Hundredths.{IsHundredths}
use Rattle.cg_text.specs.declared.values.Amount.{Amount}
use Rattle.cg_text.specs.declared.values.Amount.TheVariants.{Whole, Decimal, Max, Below}
use Rattle.cg_text.specs.declared.hundredths.Spelling.TheVariants.{Read}

-- The text is a minus sign, and that of how much below 0.
pub record IsBelow (n : ℕ) (text : List ℕ) : Type 0 where
  pub digits : List ℕ
  pub text_is : text ≡ 45 ∷ digits
  pub digits_are : IsDecimal 1 2147483648 n digits

-- The text is max, that of a whole number, or that of one with two decimals, whose whole part is at most 999999999;
-- where signed, also that of a number below 0.
abbrev pub IsAmount : Bool → Amount → List ℕ → Type 0
IsAmount signed (Whole n) text = IsDecimal 0 18446744073709551615 n text
IsAmount signed (Decimal h) text = IsHundredths Read 99999999999 h text
IsAmount signed Max text = text ≡ codes "max"
IsAmount signed (Below n) text = IsTrue signed × IsBelow n text

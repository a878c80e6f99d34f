-- Texts of several values, one after another (cgroup-v2.rst, cpu.max, io.max, io.latency and io.weight; psi.rst, the averages).
use Rattle.std.specs.Prelude.{◌≡◌, ℕ, Bool, IsTrue, List, [], ◌∷◌, Option, codes}
use Rattle.cg_text.specs.Decimal.{IsDecimal}
use Rattle.cg_text.specs.Device.{IsDevice}
use Rattle.cg_text.specs.Hundredths.{IsHundredths}
use Rattle.cg_text.specs.Keyword.{text_of}
use Rattle.cg_text.specs.Limit.{IsLimit}
use Rattle.cg_text.specs.declared.hundredths.Spelling.TheVariants.{Read}
use Rattle.cg_text.specs.declared.keyword.Keyword.{Keyword}
use Rattle.cg_text.specs.declared.keyword.Keyword.TheVariants as keyword
use Rattle.cg_text.specs.declared.values.Device.{Device}
use Rattle.cg_text.specs.declared.values.Hundredths.{Hundredths}
use Rattle.cg_text.specs.declared.values.Limit.{Limit}
use Rattle.cg_text.specs.declared.values.Limit.TheVariants.{Max, At}
use Rattle.cg_join.specs.Maybe.{IsMaybe}
use Rattle.cg_join.specs.Spelling.{IsConcat}
use Rattle.cg_join.specs.TextBytes.{IsFixed}

abbrev pub IsNumberIn : ℕ → ℕ → List ℕ → ℕ → Type 0
IsNumberIn lo hi text n = IsDecimal lo hi n text

abbrev pub IsAnyNumber : List ℕ → ℕ → Type 0
IsAnyNumber text n = IsDecimal 0 18446744073709551615 n text

abbrev pub IsLimitIn : ℕ → ℕ → List ℕ → Limit → Type 0
IsLimitIn lo hi text v = IsLimit lo hi v text

abbrev pub IsAnyLimit : List ℕ → Limit → Type 0
IsAnyLimit text v = IsLimit 0 18446744073709551615 v text

-- A number from lo to hi or, where it may be, max.
abbrev pub IsLimitWhere : Bool → ℕ → ℕ → List ℕ → Limit → Type 0
IsLimitWhere max lo hi text Max = IsTrue max × (text ≡ codes "max")
IsLimitWhere max lo hi text (At n) = IsDecimal lo hi n text

abbrev pub IsADevice : List ℕ → Device → Type 0
IsADevice text v = IsDevice v text

-- At most 999.99.
abbrev pub IsAverage : List ℕ → Hundredths → Type 0
IsAverage text v = IsHundredths Read 99999 v text

-- A text before which a fixed one stands, or a space.
abbrev pub IsLabelled : {V : Type 0} → Keyword → (List ℕ → V → Type 0) → List ℕ → Unit {0} × V → Type 0
IsLabelled keyword R text v = IsConcat (IsFixed (text_of keyword)) R text v

abbrev pub IsSpaced : {V : Type 0} → (List ℕ → V → Type 0) → List ℕ → Unit {0} × V → Type 0
IsSpaced R text v = IsConcat (IsFixed (32 ∷ [])) R text v

-- A quota, a space and a period.
abbrev pub IsQuotaAndPeriod : List ℕ → Limit × (Unit {0} × ℕ) → Type 0
IsQuotaAndPeriod text v = IsConcat IsAnyLimit (IsSpaced IsAnyNumber) text v

-- A quota; or a quota, a space and a period.
abbrev pub IsWrittenQuota : List ℕ → Limit × Option (Unit {0} × ℕ) → Type 0
IsWrittenQuota text v = IsConcat (IsLimitIn 1000 18446744073709551615) (IsMaybe (IsSpaced (IsNumberIn 1000 1000000))) text v

-- A device and its target latency.
abbrev pub IsDeviceTarget : List ℕ → Device × (Unit {0} × ℕ) → Type 0
IsDeviceTarget text v = IsConcat IsADevice (IsLabelled keyword.Target IsAnyNumber) text v

-- Three averages and a total, each with its label.
abbrev pub AreAverages : List ℕ → (Unit {0} × Hundredths) × ((Unit {0} × Hundredths) × ((Unit {0} × Hundredths) × (Unit {0} × ℕ))) → Type 0
AreAverages text v =
    IsConcat (IsLabelled keyword.Avg10 IsAverage) (IsConcat (IsLabelled keyword.Avg60 IsAverage) (IsConcat (IsLabelled keyword.Avg300 IsAverage) (IsLabelled keyword.Total IsAnyNumber))) text v

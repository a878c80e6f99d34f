-- JSON lines by example: entries with what is written of them.
use Rattle.std.specs.Prelude.{◌≡◌, ℕ, negsuc, Bool, true, false, List, [], ◌∷◌, ◌++◌, Some, None, codes}
use Rattle.serde_json.specs.Written.{compact_text}
use Rattle.cg_text.specs.declared.values.Amount.{Amount}
use Rattle.cg_text.specs.declared.values.Amount.TheVariants as amount
use Rattle.cg_text.specs.declared.values.Device.{Device}
use Rattle.cg_text.specs.declared.values.Hundredths.{Hundredths}
use Rattle.cg_text.specs.declared.values.Limit.TheVariants as limit
use Rattle.cg_value.specs.Entry.{EntryData}
use Rattle.cg_value.specs.declared.value.Averages.{Averages}
use Rattle.cg_value.specs.declared.value.NestedPair.{NestedPair}
use Rattle.cg_value.specs.declared.value.Role.TheVariants as role
use Rattle.cg_value.specs.declared.value.StatLine.{StatLine}
use Rattle.cg_value.specs.declared.value.StatPair.{StatPair}
use Rattle.cg_value.specs.declared.value.Value.{Value}
use Rattle.cg_value.specs.declared.value.Value.TheVariants as value
use Rattle.cg_json.specs.Entry.{view_of}

-- An entry of this path and this value is written as this line.
abbrev pub IsWritten : List ℕ → Value → List ℕ → Type 0
IsWritten path v text = (e : EntryData) → e.path ≡ path → e.value ≡ v → compact_text (view_of e) ++ 10 ∷ [] ≡ text

-- Parts of values.
abbrev pub hundredths : ℕ → Hundredths
hundredths n = record { count = n }

abbrev pub block : ℕ → ℕ → Device
block major minor = record { major = major; minor = minor }

abbrev pub stat_pair : List ℕ → Amount → StatPair
stat_pair key a = record { key = key; amount = a }

abbrev pub stat_line : ℕ → Bool → List StatPair → StatLine
stat_line major pad pairs = record { device = Some (block major 0); pad = pad; pairs = pairs }

abbrev pub nested_pair : List ℕ → ℕ → NestedPair
nested_pair key number = record { key = key; number = number }

abbrev pub some_averages : Averages
some_averages = record { avg10 = hundredths 12; avg60 = hundredths 100; avg300 = hundredths 0; total = 77 }

abbrev pub no_quota_line : List ℕ
no_quota_line = codes "{\"kind\":\"cpu_max\",\"path\":\"a/cpu.max\",\"value\":{\"period\":100000,\"quota\":\"max\"}}\n"

abbrev pub NoQuota : Type 0
NoQuota = IsWritten (codes "a/cpu.max") (value.CpuMax limit.Max 100000) no_quota_line

-- A share with two decimals is shown in hundredths, and what is not given as null.
abbrev pub some_alone_line : List ℕ
some_alone_line = codes "{\"kind\":\"pressure\",\"path\":\"cpu.pressure\",\"value\":{\"full\":null,\"some\":{\"avg10\":12,\"avg300\":0,\"avg60\":100,\"total\":77}}}\n"

abbrev pub SomeAlone : Type 0
SomeAlone = IsWritten (codes "cpu.pressure") (value.Pressure (Some some_averages) None) some_alone_line

-- Bytes that aren't UTF-8 are an array of numbers.
abbrev pub no_text_line : List ℕ
no_text_line = codes "{\"kind\":\"raw\",\"path\":\"x\",\"value\":[[255]]}\n"

abbrev pub NoText : Type 0
NoText = IsWritten (codes "x") (value.Raw ((255 ∷ []) ∷ [])) no_text_line

-- The pad isn't shown.
abbrev pub two_devices_line : List ℕ
two_devices_line = codes "{\"kind\":\"device_stats\",\"path\":\"io.stat\",\"value\":[{\"device\":\"8:0\",\"stats\":{\"cost.vrate\":{\"hundredths\":10000},\"rbytes\":1}},{\"device\":\"7:0\",\"stats\":{}}]}\n"

abbrev pub TwoDevices : Type 0
TwoDevices = IsWritten (codes "io.stat")
    (value.DeviceStats (stat_line 8 false (stat_pair (codes "rbytes") (amount.Whole 1) ∷ stat_pair (codes "cost.vrate") (amount.Decimal (hundredths 10000)) ∷ []) ∷ stat_line 7 true [] ∷ []))
    two_devices_line

-- A key may have what strings escape.
abbrev pub quote_in_key_line : List ℕ
quote_in_key_line = codes "{\"kind\":\"flat\",\"path\":\"memory.stat\",\"value\":{\"a\\\"b\":1}}\n"

abbrev pub QuoteInKey : Type 0
QuoteInKey = IsWritten (codes "memory.stat") (value.Flat (record { key = codes "a\"b"; number = 1 } ∷ [])) quote_in_key_line

abbrev pub two_ranges_line : List ℕ
two_ranges_line = codes "{\"kind\":\"set\",\"path\":\"cpuset.cpus\",\"value\":[[0,4],[6,6]]}\n"

abbrev pub TwoRanges : Type 0
TwoRanges = IsWritten (codes "cpuset.cpus") (value.Set ((0, 4) ∷ (6, 6) ∷ [])) two_ranges_line

abbrev pub pairs_of_a_key_line : List ℕ
pairs_of_a_key_line = codes "{\"kind\":\"nested\",\"path\":\"memory.numa_stat\",\"value\":{\"anon\":{\"N0\":1,\"N1\":2}}}\n"

abbrev pub PairsOfAKey : Type 0
PairsOfAKey = IsWritten (codes "memory.numa_stat") (value.Nested (record { key = codes "anon"; pairs = nested_pair (codes "N0") 1 ∷ nested_pair (codes "N1") 2 ∷ [] } ∷ [])) pairs_of_a_key_line

-- Keys are in the order of their bytes.
abbrev pub limits_in_byte_order_line : List ℕ
limits_in_byte_order_line = codes "{\"kind\":\"device_limits\",\"path\":\"io.max\",\"value\":[{\"device\":\"8:16\",\"rbps\":1,\"riops\":3,\"wbps\":\"max\",\"wiops\":4}]}\n"

abbrev pub LimitsInByteOrder : Type 0
LimitsInByteOrder = IsWritten (codes "io.max") (value.DeviceLimits (record { device = Some (block 8 16); rbps = limit.At 1; wbps = limit.Max; riops = limit.At 3; wiops = limit.At 4 } ∷ [])) limits_in_byte_order_line

abbrev pub why_invalid_line : List ℕ
why_invalid_line = codes "{\"kind\":\"partition\",\"path\":\"cpuset.cpus.partition\",\"value\":{\"reason\":\"a) b\",\"role\":\"root\",\"valid\":false}}\n"

abbrev pub WhyInvalid : Type 0
WhyInvalid = IsWritten (codes "cpuset.cpus.partition") (value.Partition role.Root false (Some (codes "a) b"))) why_invalid_line

abbrev pub below_zero_line : List ℕ
below_zero_line = codes "{\"kind\":\"signed\",\"path\":\"cpu.weight.nice\",\"value\":-20}\n"

abbrev pub BelowZero : Type 0
BelowZero = IsWritten (codes "cpu.weight.nice") (value.Signed (negsuc 19)) below_zero_line

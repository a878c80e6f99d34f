-- Files by example: texts with their values, and the places where texts are refused.
use Rattle.std.specs.Prelude.{◌≡◌, ℕ, Bool, true, false, List, [], ◌∷◌, Some, None, codes}
use Rattle.cg_text.specs.declared.values.Amount.{Amount}
use Rattle.cg_text.specs.declared.values.Amount.TheVariants as amount
use Rattle.cg_text.specs.declared.values.Clamp.TheVariants as clamp
use Rattle.cg_text.specs.declared.values.Device.{Device}
use Rattle.cg_text.specs.declared.values.Hundredths.{Hundredths}
use Rattle.cg_text.specs.declared.values.Limit.{Limit}
use Rattle.cg_text.specs.declared.values.Limit.TheVariants.{Max, At}
use Rattle.cg_value.specs.Files.{FileText}
use Rattle.cg_value.specs.LookUp.{amount_in, weight_in}
use Rattle.cg_value.specs.Print.{print_of}
use Rattle.cg_value.specs.Table.{read_form_of}
use Rattle.cg_value.specs.declared.flat.FlatPair.{FlatPair}
use Rattle.cg_value.specs.declared.profile.Profile.TheVariants.{One, Two}
use Rattle.cg_value.specs.declared.value.Averages.{Averages}
use Rattle.cg_value.specs.declared.value.GroupMode.TheVariants as mode
use Rattle.cg_value.specs.declared.value.LimitLine.{LimitLine}
use Rattle.cg_value.specs.declared.value.NestedLine.{NestedLine}
use Rattle.cg_value.specs.declared.value.NestedPair.{NestedPair}
use Rattle.cg_value.specs.declared.value.Role.TheVariants as role
use Rattle.cg_value.specs.declared.value.StatLine.{StatLine}
use Rattle.cg_value.specs.declared.value.StatPair.{StatPair}
use Rattle.cg_value.specs.declared.value.Value.{Value}
use Rattle.cg_value.specs.declared.value.Value.TheVariants as value
use Rattle.cg_value.specs.declared.value.WeightLine.{WeightLine}

-- ---- Parts of values

abbrev pub device : ℕ → ℕ → Device
device major minor = record { major = major; minor = minor }

abbrev pub hundredths : ℕ → Hundredths
hundredths count = record { count = count }

abbrev pub stat_pair : List ℕ → Amount → StatPair
stat_pair key amount = record { key = key; amount = amount }

abbrev pub stat_line : Device → Bool → List StatPair → StatLine
stat_line device pad pairs = record { device = Some device; pad = pad; pairs = pairs }

abbrev pub limit_line : Device → Limit → Limit → Limit → Limit → LimitLine
limit_line device rbps wbps riops wiops = record { device = Some device; rbps = rbps; wbps = wbps; riops = riops; wiops = wiops }

abbrev pub weight_line : Device → ℕ → WeightLine
weight_line device weight = record { device = Some device; weight = weight }

abbrev pub averages : ℕ → ℕ → ℕ → ℕ → Averages
averages avg10 avg60 avg300 total = record { avg10 = hundredths avg10; avg60 = hundredths avg60; avg300 = hundredths avg300; total = total }

abbrev pub nested_pair : List ℕ → ℕ → NestedPair
nested_pair key number = record { key = key; number = number }

abbrev pub nested_line : List ℕ → List NestedPair → NestedLine
nested_line key pairs = record { key = key; pairs = pairs }

abbrev pub flat_pair : List ℕ → ℕ → FlatPair
flat_pair key number = record { key = key; number = number }

-- ---- Numbers

abbrev pub FirstRun : Type 0
FirstRun = FileText One (codes "cpu.weight") (value.Number 10000) (codes "10000\n")

abbrev pub LargestNumber : Type 0
LargestNumber = FileText One (codes "memory.current") (value.Number 18446744073709551615) (codes "18446744073709551615\n")

abbrev pub Idle : Type 0
Idle = FileText One (codes "cpu.idle") (value.Number 0) (codes "0\n")

abbrev pub ProcessNumbers : Type 0
ProcessNumbers = FileText One (codes "cgroup.procs") (value.Numbers (7 ∷ 0 ∷ 7 ∷ [])) (codes "7\n0\n7\n")

abbrev pub NoProcess : Type 0
NoProcess = FileText One (codes "cgroup.procs") (value.Numbers []) (codes "")

-- ---- Limits and clamps

abbrev pub NoQuota : Type 0
NoQuota = FileText One (codes "cpu.max") (value.CpuMax Max 100000) (codes "max 100000\n")

abbrev pub FullClamp : Type 0
FullClamp = FileText One (codes "cpu.uclamp.min") (value.Clamp (clamp.At (hundredths 10000))) (codes "100.00\n")

-- ---- Sets

abbrev pub EmptySet : Type 0
EmptySet = FileText One (codes "cpuset.cpus") (value.Set []) (codes "\n")

abbrev pub RangesApart : Type 0
RangesApart = FileText One (codes "cpuset.cpus") (value.Set ((0, 4) ∷ (6, 6) ∷ [])) (codes "0-4,6\n")

abbrev pub LastListNumber : Type 0
LastListNumber = FileText One (codes "cpuset.cpus") (value.Set ((65534, 65534) ∷ [])) (codes "65534\n")

abbrev pub MoreListNumbers : Type 0
MoreListNumbers = FileText Two (codes "cpuset.cpus") (value.Set ((65534, 65534) ∷ (65536, 65536) ∷ [])) (codes "65534,65536\n")

-- ---- Words and flat files

abbrev pub NoWords : Type 0
NoWords = FileText One (codes "cgroup.controllers") (value.Words []) (codes "")

abbrev pub NoWordsLine : Type 0
NoWordsLine = FileText One (codes "cgroup.controllers") (value.Words []) (codes "\n")

abbrev pub NoWordsPrint : Type 0
NoWordsPrint = print_of (value.Words []) ≡ codes "\n"

abbrev pub TwoWords : Type 0
TwoWords = FileText One (codes "cgroup.controllers") (value.Words (codes "cpu" ∷ codes "io" ∷ [])) (codes "cpu io\n")

abbrev pub OneKey : Type 0
OneKey = FileText One (codes "memory.stat") (value.Flat (flat_pair (codes "anon") 1 ∷ [])) (codes "anon 1\n")

abbrev pub QuotedKey : Type 0
QuotedKey = FileText One (codes "memory.stat") (value.Flat (flat_pair (codes "a\"b") 1 ∷ [])) (codes "a\"b 1\n")

-- ---- Devices

abbrev pub device_stats : Value
device_stats = value.DeviceStats (
    stat_line (device 8 0) false (stat_pair (codes "rbytes") (amount.Whole 1) ∷ stat_pair (codes "cost.vrate") (amount.Decimal (hundredths 10000)) ∷ []) ∷
    stat_line (device 7 0) false [] ∷ [])

abbrev pub DeviceStats : Type 0
DeviceStats = FileText One (codes "io.stat") device_stats (codes "8:0 rbytes=1 cost.vrate=100.00\n7:0\n")

abbrev pub RateIs : Type 0
RateIs = amount_in device_stats (device 8 0) (codes "cost.vrate") ≡ Some (amount.Decimal (hundredths 10000))

abbrev pub DevicePads : Type 0
DevicePads = FileText One (codes "io.stat") (value.DeviceStats (
    stat_line (device 7 0) true [] ∷
    stat_line (device 8 0) true (stat_pair (codes "cost.usage") (amount.Whole 5) ∷ []) ∷ []))
    (codes "7:0 \n8:0  cost.usage=5\n")

abbrev pub DeviceLimits : Type 0
DeviceLimits = FileText One (codes "io.max") (value.DeviceLimits (limit_line (device 8 16) (At 2097152) Max Max (At 120) ∷ []))
    (codes "8:16 rbps=2097152 wbps=max riops=max wiops=120\n")

abbrev pub device_weights : Value
device_weights = value.DeviceWeights 100 (weight_line (device 8 16) 200 ∷ [])

abbrev pub DeviceWeights : Type 0
DeviceWeights = FileText One (codes "io.weight") device_weights (codes "default 100\n8:16 200\n")

abbrev pub OwnWeight : Type 0
OwnWeight = weight_in device_weights (device 8 16) ≡ Some 200

abbrev pub DefaultWeight : Type 0
DefaultWeight = weight_in device_weights (device 8 0) ≡ Some 100

-- ---- Partitions and pressure

abbrev pub InvalidRoot : Type 0
InvalidRoot = FileText One (codes "cpuset.cpus.partition") (value.Partition role.Root false None) (codes "root invalid\n")

abbrev pub EmptyReason : Type 0
EmptyReason = FileText One (codes "cpuset.cpus.partition") (value.Partition role.Isolated false (Some [])) (codes "isolated invalid ()\n")

abbrev pub ReasonOfParentheses : Type 0
ReasonOfParentheses = FileText One (codes "cpuset.cpus.partition") (value.Partition role.Root false (Some (codes "a) b"))) (codes "root invalid (a) b)\n")

abbrev pub FullPressure : Type 0
FullPressure = FileText One (codes "cpu.pressure") (value.Pressure None (Some (averages 0 0 0 0))) (codes "full avg10=0.00 avg60=0.00 avg300=0.00 total=0\n")

abbrev pub SomePressure : Type 0
SomePressure = FileText One (codes "cpu.pressure") (value.Pressure (Some (averages 12 100 0 77)) None) (codes "some avg10=0.12 avg60=1.00 avg300=0.00 total=77\n")

-- ---- Modes, nested and raw files

abbrev pub Mode : Type 0
Mode = FileText One (codes "cgroup.type") (value.Mode mode.Domain) (codes "domain\n")

abbrev pub Nested : Type 0
Nested = FileText Two (codes "memory.numa_stat") (value.Nested (nested_line (codes "anon") (nested_pair (codes "N0") 1 ∷ nested_pair (codes "N1") 2 ∷ []) ∷ [])) (codes "anon N0=1 N1=2\n")

abbrev pub RawNested : Type 0
RawNested = FileText One (codes "memory.numa_stat") (value.Raw (codes "anon N0=1 N0=2" ∷ [])) (codes "anon N0=1 N0=2\n")

abbrev pub OtherName : Type 0
OtherName = FileText One (codes "hugetlb.2MB.max") (value.Raw (codes "max" ∷ [])) (codes "max\n")

abbrev pub HighByte : Type 0
HighByte = FileText One (codes "x") (value.Raw ((255 ∷ []) ∷ [])) (255 ∷ 10 ∷ [])

abbrev pub NotReadable : Type 0
NotReadable = read_form_of One (codes "cgroup.kill") ≡ None

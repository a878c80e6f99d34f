-- The lines of the files that are read, kind by kind (cgroup-v2.rst, "Interface Files", at the names given here; psi.rst).
-- The documents are those of Linux 6.1.192: https://www.kernel.org/doc/html/v6.1/admin-guide/cgroup-v2.html and
-- https://www.kernel.org/doc/html/v6.1/accounting/psi.html.
use Rattle.std.specs.Prelude.{◌≡◌, ℕ, ◌<◌, length, Bool, true, false, List, [], ◌∷◌, ◌++◌, Option, Some, None, All, map, codes, ◌⊎◌}
use Rattle.std.specs.List.{AllZip}
use Rattle.cg_text.specs.Amount.{IsAmount}
use Rattle.cg_text.specs.Decimal.{IsDecimal}
use Rattle.cg_text.specs.Device.{IsDeviceName}
use Rattle.cg_text.specs.Distinct.{AreDistinct}
use Rattle.cg_text.specs.Hundredths.{IsHundredths}
use Rattle.cg_text.specs.Limit.{IsLimit}
use Rattle.cg_text.specs.Param.{IsParam}
use Rattle.cg_text.specs.Raw.{IsRawLine}
use Rattle.cg_text.specs.Word.{IsWord, IsControllerWord}
use Rattle.cg_text.specs.declared.hundredths.Spelling.TheVariants.{Read}
use Rattle.cg_text.specs.declared.values.Limit.{Limit}
use Rattle.cg_value.specs.Kind.{any_u64}
use Rattle.cg_value.specs.Lines.{HasParts, IsKey, AreLed}
use Rattle.cg_value.specs.declared.flat.FlatPair.{FlatPair}
use Rattle.cg_value.specs.declared.value.Averages.{Averages}
use Rattle.cg_value.specs.declared.value.FlatLimit.{FlatLimit}
use Rattle.cg_value.specs.declared.value.GroupMode.{GroupMode}
use Rattle.cg_value.specs.declared.value.GroupMode.TheVariants.{Domain, DomainThreaded, DomainInvalid, Threaded}
use Rattle.cg_value.specs.declared.value.LimitLine.{LimitLine}
use Rattle.cg_value.specs.declared.value.NestedLine.{NestedLine}
use Rattle.cg_value.specs.declared.value.NestedPair.{NestedPair}
use Rattle.cg_value.specs.declared.value.ParamLine.{ParamLine}
use Rattle.cg_value.specs.declared.value.ParamPair.{ParamPair}
use Rattle.cg_value.specs.declared.value.Role.{Role}
use Rattle.cg_value.specs.declared.value.Role.TheVariants.{Member, Root, Isolated}
use Rattle.cg_value.specs.declared.value.StatLine.{StatLine}
use Rattle.cg_value.specs.declared.value.StatPair.{StatPair}
use Rattle.cg_value.specs.declared.value.TargetLine.{TargetLine}
use Rattle.cg_value.specs.declared.value.Value.{Value}
use Rattle.cg_value.specs.declared.value.Value.TheVariants.{DeviceWeights}
use Rattle.cg_value.specs.declared.value.WeightLine.{WeightLine}

-- mode: cgroup.type.
abbrev pub mode_text : GroupMode → List ℕ
mode_text Domain = codes "domain"
mode_text DomainThreaded = codes "domain threaded"
mode_text DomainInvalid = codes "domain invalid"
mode_text Threaded = codes "threaded"

abbrev pub IsMode : GroupMode → List ℕ → Type 0
IsMode mode line = line ≡ mode_text mode

-- cpu_max: cpu.max. A quota, a space and a period.
abbrev pub IsCpuMax : Limit × ℕ → List ℕ → Type 0
IsCpuMax x line = HasParts (IsLimit 0 any_u64) (codes " ") (IsDecimal 0 any_u64) (x.0) (x.1) line

-- words: cgroup.controllers, cgroup.subtree_control. The words with single spaces between.
abbrev pub words_line : List (List ℕ) → List ℕ
words_line [] = []
words_line (w ∷ []) = w
words_line (w ∷ x ∷ ws) = w ++ 32 ∷ words_line (x ∷ ws)

-- They are controllers' words, all different. No words have one empty line, or no line.
pub record AreWords (words : List (List ℕ)) (lines : List (List ℕ)) : Type 0 where
  pub each : All IsControllerWord words
  pub distinct : AreDistinct words
  pub lines_are : (lines ≡ words_line words ∷ []) ⊎ ((words ≡ []) × (lines ≡ []))

-- flat: cgroup.events, cpu.stat, memory.stat and their like. A key, a space and a number a line, no key twice.
abbrev pub IsFlatLine : FlatPair → List ℕ → Type 0
IsFlatLine p line = HasParts IsKey (codes " ") (IsDecimal 0 any_u64) p.key p.number line

pub record AreFlatLines (pairs : List FlatPair) (lines : List (List ℕ)) : Type 0 where
  pub each : AllZip IsFlatLine pairs lines
  pub distinct : AreDistinct (map (λ p. p.key) pairs)

-- flat_limits: misc.max, dmem.min, dmem.low, dmem.max. A key, a space and a limit a line, no key twice.
abbrev pub IsFlatLimit : FlatLimit → List ℕ → Type 0
IsFlatLimit p line = HasParts IsKey (codes " ") (IsLimit 0 any_u64) p.key p.limit line

pub record AreFlatLimits (pairs : List FlatLimit) (lines : List (List ℕ)) : Type 0 where
  pub each : AllZip IsFlatLimit pairs lines
  pub distinct : AreDistinct (map (λ p. p.key) pairs)

-- device_stats: io.stat. A device, at most one space of its own, and pairs, no sub-key twice in a line. Where kernel, the
-- device may be gone, and an amount below 0.
abbrev pub IsStatPair : Bool → StatPair → List ℕ → Type 0
IsStatPair kernel p text = HasParts IsKey (codes "=") (IsAmount kernel) p.key p.amount text

abbrev pub pad_text : Bool → List ℕ
pad_text true = codes " "
pad_text false = []

pub record IsStatLine (kernel : Bool) (s : StatLine) (line : List ℕ) : Type 0 where
  pub device : List ℕ
  pub pairs : List ℕ
  pub line_is : line ≡ device ++ pad_text s.pad ++ pairs
  pub device_is : IsDeviceName kernel s.device device
  pub pairs_are : AreLed (IsStatPair kernel) s.pairs pairs
  pub distinct : AreDistinct (map (λ p. p.key) s.pairs)

-- device_limits: io.max. A device and its four limits in this order. Where kernel, the device may be gone.
pub record IsLimitLine (kernel : Bool) (l : LimitLine) (line : List ℕ) : Type 0 where
  pub device : List ℕ
  pub rbps : List ℕ
  pub wbps : List ℕ
  pub riops : List ℕ
  pub wiops : List ℕ
  pub line_is : line ≡ device ++ codes " rbps=" ++ rbps ++ codes " wbps=" ++ wbps ++ codes " riops=" ++ riops ++ codes " wiops=" ++ wiops
  pub device_is : IsDeviceName kernel l.device device
  pub rbps_is : IsLimit 0 any_u64 l.rbps rbps
  pub wbps_is : IsLimit 0 any_u64 l.wbps wbps
  pub riops_is : IsLimit 0 any_u64 l.riops riops
  pub wiops_is : IsLimit 0 any_u64 l.wiops wiops

-- device_weights: io.weight, io.bfq.weight. The default weight first, then a device and its weight a line; the weights are
-- at most most. Where kernel, a device may be gone.
abbrev pub IsDefaultLine : ℕ → ℕ → List ℕ → Type 0
IsDefaultLine most weight line = (back : List ℕ) × (line ≡ codes "default " ++ back) × IsDecimal 1 most weight back

abbrev pub IsWeightLine : ℕ → Bool → WeightLine → List ℕ → Type 0
IsWeightLine most kernel w line = HasParts (IsDeviceName kernel) (codes " ") (IsDecimal 1 most) w.device w.weight line

pub record AreWeightLines (most : ℕ) (kernel : Bool) (v : Value) (lines : List (List ℕ)) : Type 0 where
  pub default : ℕ
  pub devices : List WeightLine
  pub first : List ℕ
  pub others : List (List ℕ)
  pub value : v ≡ DeviceWeights default devices
  pub lines_are : lines ≡ first ∷ others
  pub first_is : IsDefaultLine most default first
  pub others_are : AllZip (IsWeightLine most kernel) devices others

-- device_targets: io.latency. A device and its target latency a line. Where kernel, the device may be gone.
abbrev pub IsTargetLine : Bool → TargetLine → List ℕ → Type 0
IsTargetLine kernel t line = HasParts (IsDeviceName kernel) (codes " target=") (IsDecimal 0 any_u64) t.device t.target line

-- device_params: io.cost.qos, io.cost.model. A device, which may be gone, and one or more pairs, no word twice in a line.
abbrev pub IsParamPair : ParamPair → List ℕ → Type 0
IsParamPair p text = HasParts IsKey (codes "=") IsParam p.key p.value text

pub record IsParamLine (l : ParamLine) (line : List ℕ) : Type 0 where
  pub device : List ℕ
  pub params : List ℕ
  pub line_is : line ≡ device ++ params
  pub device_is : IsDeviceName true l.device device
  pub some : 0 < length l.params
  pub params_are : AreLed IsParamPair l.params params
  pub distinct : AreDistinct (map (λ p. p.key) l.params)

-- partition: cpuset.cpus.partition. The role; of one that is not valid, also why, where that is known.
abbrev pub role_text : Role → List ℕ
role_text Member = codes "member"
role_text Root = codes "root"
role_text Isolated = codes "isolated"

abbrev pub CanBeInvalid : Role → Type 0
CanBeInvalid Member = ⊥
CanBeInvalid Root = Unit {0}
CanBeInvalid Isolated = Unit {0}

abbrev pub IsPartition : Role → Bool → Option (List ℕ) → List ℕ → Type 0
IsPartition role true None line = line ≡ role_text role
IsPartition role true (Some reason) line = ⊥
IsPartition role false None line = CanBeInvalid role × (line ≡ role_text role ++ codes " invalid")
IsPartition role false (Some reason) line = CanBeInvalid role × (line ≡ role_text role ++ codes " invalid (" ++ reason ++ codes ")") × IsRawLine reason

-- pressure: cpu.pressure and its like (psi.rst). A line of `some`, one of `full`, or both in this order.
pub record AreAverages (a : Averages) (text : List ℕ) : Type 0 where
  pub avg10 : List ℕ
  pub avg60 : List ℕ
  pub avg300 : List ℕ
  pub total : List ℕ
  pub text_is : text ≡ codes " avg10=" ++ avg10 ++ codes " avg60=" ++ avg60 ++ codes " avg300=" ++ avg300 ++ codes " total=" ++ total
  pub avg10_is : IsHundredths Read 99999 a.avg10 avg10
  pub avg60_is : IsHundredths Read 99999 a.avg60 avg60
  pub avg300_is : IsHundredths Read 99999 a.avg300 avg300
  pub total_is : IsDecimal 0 any_u64 a.total total

abbrev pub IsPressureLine : List ℕ → Averages → List ℕ → Type 0
IsPressureLine word a line = (back : List ℕ) × (line ≡ word ++ back) × AreAverages a back

abbrev pub ArePressureLines : Option Averages → Option Averages → List (List ℕ) → Type 0
ArePressureLines None None lines = ⊥
ArePressureLines (Some a) None lines = (first : List ℕ) × (lines ≡ first ∷ []) × IsPressureLine (codes "some") a first
ArePressureLines None (Some b) lines = (first : List ℕ) × (lines ≡ first ∷ []) × IsPressureLine (codes "full") b first
ArePressureLines (Some a) (Some b) lines = (first : List ℕ) × (second : List ℕ) × (lines ≡ first ∷ second ∷ []) × IsPressureLine (codes "some") a first × IsPressureLine (codes "full") b second

-- nested: memory.numa_stat. A key and pairs a line, no sub-key twice in a line, no key twice.
abbrev pub IsNestedPair : NestedPair → List ℕ → Type 0
IsNestedPair p text = HasParts IsKey (codes "=") (IsDecimal 0 any_u64) p.key p.number text

pub record IsNestedLine (l : NestedLine) (line : List ℕ) : Type 0 where
  pub pairs : List ℕ
  pub line_is : line ≡ l.key ++ pairs
  pub key_is : IsWord l.key
  pub pairs_are : AreLed IsNestedPair l.pairs pairs
  pub distinct : AreDistinct (map (λ p. p.key) l.pairs)

pub record AreNestedLines (ls : List NestedLine) (lines : List (List ℕ)) : Type 0 where
  pub each : AllZip IsNestedLine ls lines
  pub distinct : AreDistinct (map (λ l. l.key) ls)

-- node_stats: hugetlb.*.numa_stat. The total, and pairs, no word twice.
pub record IsNodeStats (x : ℕ × List NestedPair) (line : List ℕ) : Type 0 where
  pub total : List ℕ
  pub nodes : List ℕ
  pub line_is : line ≡ codes "total=" ++ total ++ nodes
  pub total_is : IsDecimal 0 any_u64 (x.0) total
  pub nodes_are : AreLed IsNestedPair (x.1) nodes
  pub distinct : AreDistinct (map (λ p. p.key) (x.1))

-- raw: every other file. Any bytes but NUL.
abbrev pub IsRaw : List ℕ → List ℕ → Type 0
IsRaw bytes line = (line ≡ bytes) × IsRawLine bytes

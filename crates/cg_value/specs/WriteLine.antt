-- The lines that are written, kind by kind (cgroup-v2.rst, "Interface Files", at the names given here; psi.rst).
-- The documents are those of Linux 6.1.192: https://www.kernel.org/doc/html/v6.1/admin-guide/cgroup-v2.html and
-- https://www.kernel.org/doc/html/v6.1/accounting/psi.html.
use Rattle.std.specs.Prelude.{◌≡◌, ◌≢◌, ℕ, Bool, true, false, List, [], ◌∷◌, ◌++◌, Option, Some, None, All, codes, ◌⊎◌, IsTrue}
use Rattle.cg_text.specs.Class.{IsClass}
use Rattle.cg_text.specs.Clamp.{IsClamp}
use Rattle.cg_text.specs.Decimal.{IsDecimal}
use Rattle.cg_text.specs.Device.{IsDevice}
use Rattle.cg_text.specs.Limit.{IsLimit}
use Rattle.cg_text.specs.LimitPairs.{AreLimits}
use Rattle.cg_text.specs.List.{IsLooseList}
use Rattle.cg_text.specs.Signed.{IsSigned}
use Rattle.cg_text.specs.Size.{IsSize}
use Rattle.cg_text.specs.Trigger.{AreTimes}
use Rattle.cg_text.specs.Word.{IsControllerWord}
use Rattle.cg_text.specs.declared.hundredths.Spelling.TheVariants.{Written}
use Rattle.cg_text.specs.declared.pairs.LimitPairs.{LimitPairs}
use Rattle.cg_text.specs.declared.trigger.Times.{Times}
use Rattle.cg_text.specs.declared.values.Device.{Device}
use Rattle.cg_text.specs.declared.values.Limit.{Limit}
use Rattle.cg_text.specs.declared.values.Limit.TheVariants.{Max, At}
use Rattle.cg_value.specs.Kind.{any_u64}
use Rattle.cg_value.specs.Lines.{HasParts, IsLineOf}
use Rattle.cg_value.specs.ReadLine.{role_text, IsRaw}
use Rattle.cg_value.specs.declared.kind.WriteForm.{WriteForm}
use Rattle.cg_value.specs.declared.kind.WriteForm.TheVariants as form
use Rattle.cg_value.specs.declared.setting.Setting.{Setting}
use Rattle.cg_value.specs.declared.setting.Setting.TheVariants as setting
use Rattle.cg_value.specs.declared.setting.Toggle.{Toggle}
use Rattle.cg_value.specs.declared.value.Role.{Role}

-- size_limit: memory.max and its like. max, or a size in bytes.
abbrev pub IsSizeLimit : Limit → List ℕ → Type 0
IsSizeLimit Max line = line ≡ codes "max"
IsSizeLimit (At n) line = IsSize n line

-- controllers: cgroup.subtree_control. One or more toggles, a sign and a controller's word, with single spaces between.
abbrev pub sign_of : Bool → ℕ
sign_of true = 43
sign_of false = 45

abbrev pub toggles_line : List Toggle → List ℕ
toggles_line [] = []
toggles_line (t ∷ []) = sign_of t.on ∷ t.name
toggles_line (t ∷ u ∷ ts) = (sign_of t.on ∷ t.name) ++ 32 ∷ toggles_line (u ∷ ts)

pub record AreToggles (toggles : List Toggle) (line : List ℕ) : Type 0 where
  pub some : toggles ≢ []
  pub each : All (λ t. IsControllerWord t.name) toggles
  pub line_is : line ≡ toggles_line toggles

-- cpu_max: cpu.max. A quota, or a quota, a space and a period.
abbrev pub IsQuota : Limit → Option ℕ → List ℕ → Type 0
IsQuota quota None line = IsLimit 1000 any_u64 quota line
IsQuota quota (Some period) line = HasParts (IsLimit 1000 any_u64) (codes " ") (IsDecimal 1000 1000000) quota period line

-- reclaim: memory.reclaim. A size, or a size and a swappiness: a number of at most 200 or, where it may be, max.
abbrev pub IsSwappiness : Bool → Limit → List ℕ → Type 0
IsSwappiness max Max text = IsTrue max × (text ≡ codes "max")
IsSwappiness max (At n) text = IsDecimal 0 200 n text

abbrev pub IsReclaim : Bool → ℕ → Option Limit → List ℕ → Type 0
IsReclaim max size None line = IsSize size line
IsReclaim max size (Some swappiness) line = HasParts IsSize (codes " swappiness=") (IsSwappiness max) size swappiness line

-- device_limits: io.max. A device and one to four of its limits, in any order, no key twice.
abbrev pub IsLimitWrite : Device × LimitPairs → List ℕ → Type 0
IsLimitWrite x line = HasParts IsDevice (codes " ") AreLimits (x.0) (x.1) line

abbrev pub limits_setting : Device × LimitPairs → Setting
limits_setting x = setting.DeviceLimits (x.0) x.1.rbps x.1.wbps x.1.riops x.1.wiops

-- device_weight: io.weight, io.bfq.weight. The default weight, with or without the word, or a device with its weight or with
-- default; the weight is at most most.
abbrev pub IsDefaultWrite : ℕ → ℕ → List ℕ → Type 0
IsDefaultWrite most weight line = IsDecimal 1 most weight line ⊎ ((back : List ℕ) × (line ≡ codes "default " ++ back) × IsDecimal 1 most weight back)

abbrev pub IsWeightWrite : ℕ → Device → Option ℕ → List ℕ → Type 0
IsWeightWrite most device (Some weight) line = HasParts IsDevice (codes " ") (IsDecimal 1 most) device weight line
IsWeightWrite most device None line = (front : List ℕ) × (line ≡ front ++ codes " default") × IsDevice device front

abbrev pub IsWeightSetting : ℕ → Setting → List ℕ → Type 0
IsWeightSetting most (setting.DefaultWeight weight) line = IsDefaultWrite most weight line
IsWeightSetting most (setting.DeviceWeight device weight) line = IsWeightWrite most device weight line
IsWeightSetting most _ line = ⊥

-- device_target: io.latency. A device and its target latency.
abbrev pub IsTargetWrite : Device × ℕ → List ℕ → Type 0
IsTargetWrite x line = HasParts IsDevice (codes " target=") (IsDecimal 0 any_u64) (x.0) (x.1) line

-- role: cpuset.cpus.partition.
abbrev pub IsRole : Role → List ℕ → Type 0
IsRole role line = line ≡ role_text role

-- trigger: cpu.pressure and its like (psi.rst, "Monitoring for pressure thresholds"). some or full, a stall and a window.
abbrev pub pressure_word : Bool → List ℕ
pressure_word true = codes "full"
pressure_word false = codes "some"

abbrev pub IsTrigger : Bool × Times → List ℕ → Type 0
IsTrigger x line = (back : List ℕ) × (line ≡ pressure_word (x.0) ++ codes " " ++ back) × AreTimes (x.1) back

-- The line spells the setting, by the kind of the file.
abbrev pub WriteLine : WriteForm → Setting → List ℕ → Type 0
WriteLine (form.Number lo hi) s line = IsLineOf (IsDecimal lo hi) setting.Number s line
WriteLine (form.Signed lo hi) s line = IsLineOf (IsSigned lo hi) setting.Signed s line
WriteLine (form.Limit lo hi) s line = IsLineOf (IsLimit lo hi) setting.Limit s line
WriteLine form.SizeLimit s line = IsLineOf IsSizeLimit setting.Limit s line
WriteLine form.Clamp s line = IsLineOf (IsClamp Written) setting.Clamp s line
WriteLine form.Mode s line = (s ≡ setting.Threaded) × (line ≡ codes "threaded")
WriteLine form.Class s line = IsLineOf IsClass setting.Class s line
WriteLine form.Controllers s line = IsLineOf AreToggles setting.Controllers s line
WriteLine form.CpuMax s line = IsLineOf (λ (x : Limit × Option ℕ) l. IsQuota (x.0) (x.1) l) (λ x. setting.CpuMax (x.0) (x.1)) s line
WriteLine (form.Reclaim max) s line = IsLineOf (λ (x : ℕ × Option Limit) l. IsReclaim max (x.0) (x.1) l) (λ x. setting.Reclaim (x.0) (x.1)) s line
WriteLine form.DeviceLimits s line = IsLineOf IsLimitWrite limits_setting s line
WriteLine (form.DeviceWeight most) s line = IsWeightSetting most s line
WriteLine form.DeviceTarget s line = IsLineOf IsTargetWrite (λ (x : Device × ℕ). setting.DeviceTarget (x.0) (x.1)) s line
WriteLine (form.Set most) s line = IsLineOf (IsLooseList most) setting.Set s line
WriteLine form.Role s line = IsLineOf IsRole setting.Role s line
WriteLine form.Trigger s line = IsLineOf IsTrigger (λ (x : Bool × Times). setting.Trigger (x.0) x.1.stall x.1.window) s line
WriteLine form.Raw s line = IsLineOf IsRaw setting.Raw s line

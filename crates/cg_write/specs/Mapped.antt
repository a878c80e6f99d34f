-- How the values of lines are turned into settings.
use Rattle.std.specs.Prelude.{ℕ, ℤ, Bool, true, false, List, Option, Some, None}
use Rattle.cg_text.specs.declared.pairs.LimitPairs.{LimitPairs}
use Rattle.cg_text.specs.declared.trigger.Times.{Times}
use Rattle.cg_text.specs.declared.values.Clamp.{Clamp}
use Rattle.cg_text.specs.declared.values.Device.{Device}
use Rattle.cg_text.specs.declared.values.IoClass.{IoClass}
use Rattle.cg_text.specs.declared.values.Limit.{Limit}
use Rattle.cg_join.specs.LimitState.{limit_of}
use Rattle.cg_join.specs.declared.choice.Either.{Either}
use Rattle.cg_join.specs.declared.choice.Either.TheVariants.{Left, Right}
use Rattle.cg_value.specs.WriteLine.{limits_setting}
use Rattle.cg_value.specs.declared.setting.Setting.{Setting}
use Rattle.cg_value.specs.declared.setting.Setting.TheVariants as setting
use Rattle.cg_value.specs.declared.setting.Toggle.{Toggle}
use Rattle.cg_value.specs.declared.value.Role.{Role}
use Rattle.cg_value.specs.declared.value.Role.TheVariants.{Member, Root, Isolated}
use Rattle.cg_write.specs.Texts.{OneOfThree, OneOfTwo}

abbrev pub number_setting : ℕ × Unit {0} → Setting
number_setting v = setting.Number v.0

abbrev pub signed_setting : ℤ × Unit {0} → Setting
signed_setting v = setting.Signed v.0

abbrev pub limit_setting : Limit × Unit {0} → Setting
limit_setting v = setting.Limit v.0

-- A limit that is spelled by a size or by max.
abbrev pub size_limit_setting : Either ℕ (Unit {0}) × Unit {0} → Setting
size_limit_setting v = setting.Limit (limit_of v.0)

abbrev pub clamp_setting : Clamp × Unit {0} → Setting
clamp_setting v = setting.Clamp v.0

abbrev pub class_setting : IoClass × Unit {0} → Setting
class_setting v = setting.Class v.0

-- The one word says all.
abbrev pub mode_setting : Unit {0} × Unit {0} → Setting
mode_setting v = setting.Threaded

abbrev pub role_of : OneOfThree → Role
role_of (Left _) = Member
role_of (Right (Left _)) = Root
role_of (Right (Right _)) = Isolated

abbrev pub role_setting : OneOfThree × Unit {0} → Setting
role_setting v = setting.Role (role_of v.0)

abbrev pub set_setting : List (ℕ × ℕ) × Unit {0} → Setting
set_setting v = setting.Set v.0

abbrev pub raw_setting : List ℕ × Unit {0} → Setting
raw_setting v = setting.Raw v.0

-- The second of two values, where there are two.
abbrev pub second_of : {W : Type 0} → Option (Unit {0} × W) → Option W
second_of None = None
second_of (Some v) = Some v.1

-- A value and perhaps another, without what stands between.
abbrev pub perhaps_both : {V W : Type 0} → V × Option (Unit {0} × W) → V × Option W
perhaps_both v = (v.0, second_of v.1)

abbrev pub cpu_max_setting : (Limit × Option (Unit {0} × ℕ)) × Unit {0} → Setting
cpu_max_setting v = setting.CpuMax v.0.0 (second_of v.0.1)

abbrev pub reclaim_setting : (ℕ × Option (Unit {0} × Limit)) × Unit {0} → Setting
reclaim_setting v = setting.Reclaim v.0.0 (second_of v.0.1)

-- Two values, without what stands between.
abbrev pub both_of : {V W : Type 0} → V × (Unit {0} × W) → V × W
both_of v = (v.0, v.1.1)

abbrev pub device_limits_setting : (Device × (Unit {0} × LimitPairs)) × Unit {0} → Setting
device_limits_setting v = limits_setting (both_of v.0)

abbrev pub device_target_setting : (Device × (Unit {0} × ℕ)) × Unit {0} → Setting
device_target_setting v = setting.DeviceTarget v.0.0 v.0.1.1

-- Whether the second of two words, which says that all tasks count.
abbrev pub is_full : OneOfTwo → Bool
is_full (Left _) = false
is_full (Right _) = true

-- Whether all tasks count, and the times.
abbrev pub threshold_of : OneOfTwo × (Unit {0} × Times) → Bool × Times
threshold_of v = (is_full v.0, v.1.1)

abbrev pub trigger_setting : (OneOfTwo × (Unit {0} × Times)) × Unit {0} → Setting
trigger_setting v = setting.Trigger (is_full v.0.0) v.0.1.1.stall v.0.1.1.window

-- Whether the first of two signs, which enables.
abbrev pub is_on : OneOfTwo → Bool
is_on (Left _) = true
is_on (Right _) = false

abbrev pub toggle_of : OneOfTwo × List ℕ → Toggle
toggle_of v = record { on = is_on v.0; name = v.1 }

abbrev pub controllers_setting : List Toggle × Unit {0} → Setting
controllers_setting v = setting.Controllers v.0

-- A weight, or default, which is none.
abbrev pub chosen_weight : Either (Unit {0}) ℕ → Option ℕ
chosen_weight (Left _) = None
chosen_weight (Right n) = Some n

-- A weight, alone or after a word.
abbrev pub default_weight : Either ℕ (Unit {0} × (Unit {0} × ℕ)) → ℕ
default_weight (Left n) = n
default_weight (Right v) = v.1.1

abbrev pub weight_of : Either ℕ (Device × (Unit {0} × Option ℕ)) → Setting
weight_of (Left n) = setting.DefaultWeight n
weight_of (Right v) = setting.DeviceWeight v.0 v.1.1

abbrev pub weight_setting : Either ℕ (Device × (Unit {0} × Option ℕ)) × Unit {0} → Setting
weight_setting v = weight_of v.0

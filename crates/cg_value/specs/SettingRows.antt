-- Writes by example: texts with their settings, the canonical texts of these, and the places where texts are refused.
use Rattle.std.specs.Prelude.{◌≡◌, ℕ, Bool, true, false, negsuc, List, [], ◌∷◌, Some, None, codes}
use Rattle.cg_text.specs.declared.values.Clamp.TheVariants as clamp
use Rattle.cg_text.specs.declared.values.Limit.TheVariants.{Max, At}
use Rattle.cg_value.specs.Print.{print_setting_of}
use Rattle.cg_value.specs.Rows.{device, hundredths}
use Rattle.cg_value.specs.Settings.{SettingText}
use Rattle.cg_value.specs.Table.{write_form_of}
use Rattle.cg_value.specs.declared.profile.Profile.TheVariants.{One}
use Rattle.cg_value.specs.declared.setting.Setting.{Setting}
use Rattle.cg_value.specs.declared.setting.Setting.TheVariants as setting
use Rattle.cg_value.specs.declared.setting.Toggle.{Toggle}

abbrev pub toggle : Bool → List ℕ → Toggle
toggle on name = record { on = on; name = name }

-- ---- Numbers and clamps

abbrev pub LowestNice : Type 0
LowestNice = SettingText One (codes "cpu.weight.nice") (setting.Signed (negsuc 19)) (codes "-20\n")

abbrev pub LowestNicePrints : Type 0
LowestNicePrints = print_setting_of (setting.Signed (negsuc 19)) ≡ codes "-20\n"

abbrev pub Kill : Type 0
Kill = SettingText One (codes "cgroup.kill") (setting.Number 1) (codes "1\n")

abbrev pub KillPrints : Type 0
KillPrints = print_setting_of (setting.Number 1) ≡ codes "1\n"

abbrev pub short_clamp : Setting
short_clamp = setting.Clamp (clamp.At (hundredths 1230))

abbrev pub ShortClamp : Type 0
ShortClamp = SettingText One (codes "cpu.uclamp.min") short_clamp (codes "12.3\n")

abbrev pub ShortClampPrints : Type 0
ShortClampPrints = print_setting_of short_clamp ≡ codes "12.30\n"

-- ---- Sizes and times

abbrev pub OnlyQuota : Type 0
OnlyQuota = SettingText One (codes "cpu.max") (setting.CpuMax Max None) (codes "max\n")

abbrev pub OnlyQuotaPrints : Type 0
OnlyQuotaPrints = print_setting_of (setting.CpuMax Max None) ≡ codes "max\n"

abbrev pub gibibyte : Setting
gibibyte = setting.Reclaim 1073741824 (Some (At 60))

abbrev pub Reclaim : Type 0
Reclaim = SettingText One (codes "memory.reclaim") gibibyte (codes "1G swappiness=60\n")

abbrev pub ReclaimPrints : Type 0
ReclaimPrints = print_setting_of gibibyte ≡ codes "1073741824 swappiness=60\n"

abbrev pub exbibytes : Setting
exbibytes = setting.Limit (At 17293822569102704640)

abbrev pub LargestSuffix : Type 0
LargestSuffix = SettingText One (codes "memory.max") exbibytes (codes "15E\n")

abbrev pub LargestSuffixPrints : Type 0
LargestSuffixPrints = print_setting_of exbibytes ≡ codes "17293822569102704640\n"

abbrev pub Trigger : Type 0
Trigger = SettingText One (codes "cpu.pressure") (setting.Trigger false 150000 1000000) (codes "some 150000 1000000\n")

abbrev pub TriggerPrints : Type 0
TriggerPrints = print_setting_of (setting.Trigger false 150000 1000000) ≡ codes "some 150000 1000000\n"

-- ---- Sets

abbrev pub loose_set : Setting
loose_set = setting.Set ((3, 5) ∷ (9, 9) ∷ [])

abbrev pub LooseSet : Type 0
LooseSet = SettingText One (codes "cpuset.cpus") loose_set (codes "9,3-5,4\n")

abbrev pub LooseSetPrints : Type 0
LooseSetPrints = print_setting_of loose_set ≡ codes "3-5,9\n"

abbrev pub NoMembers : Type 0
NoMembers = SettingText One (codes "cpuset.cpus") (setting.Set []) (codes "\n")

abbrev pub NoMembersPrint : Type 0
NoMembersPrint = print_setting_of (setting.Set []) ≡ codes "\n"

-- ---- Devices

abbrev pub WeightAlone : Type 0
WeightAlone = SettingText One (codes "io.weight") (setting.DefaultWeight 50) (codes "50\n")

abbrev pub WeightAlonePrints : Type 0
WeightAlonePrints = print_setting_of (setting.DefaultWeight 50) ≡ codes "default 50\n"

abbrev pub DeviceDefault : Type 0
DeviceDefault = SettingText One (codes "io.weight") (setting.DeviceWeight (device 8 16) None) (codes "8:16 default\n")

abbrev pub DeviceDefaultPrints : Type 0
DeviceDefaultPrints = print_setting_of (setting.DeviceWeight (device 8 16) None) ≡ codes "8:16 default\n"

abbrev pub two_limits : Setting
two_limits = setting.DeviceLimits (device 8 16) (Some Max) None None (Some (At 7))

abbrev pub TwoLimits : Type 0
TwoLimits = SettingText One (codes "io.max") two_limits (codes "8:16 wiops=7 rbps=max\n")

abbrev pub TwoLimitsPrint : Type 0
TwoLimitsPrint = print_setting_of two_limits ≡ codes "8:16 rbps=max wiops=7\n"

-- ---- Controllers, and what can't be written

abbrev pub repeated_toggles : Setting
repeated_toggles = setting.Controllers (toggle true (codes "cpu") ∷ toggle false (codes "io") ∷ toggle true (codes "cpu") ∷ [])

abbrev pub Toggles : Type 0
Toggles = SettingText One (codes "cgroup.subtree_control") repeated_toggles (codes "+cpu -io +cpu\n")

abbrev pub TogglesPrint : Type 0
TogglesPrint = print_setting_of repeated_toggles ≡ codes "+cpu -io +cpu\n"

abbrev pub NotWritable : Type 0
NotWritable = write_form_of One (codes "memory.stat") ≡ None

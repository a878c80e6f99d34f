-- The canonical texts of values and settings, which depend on the value or setting alone. Where a line can be spelled in
-- one way only, this is that way, in the order of the kinds.
use Rattle.std.specs.Prelude.{ℕ, ◌+◌, ◌/◌, ◌%◌, Bool, true, false, cond, nat_eq, List, [], ◌∷◌, ◌++◌, Option, Some, None, decimal, codes, map}
use Rattle.std.specs.Fmt.{signed_decimal}
use Rattle.cg_text.specs.Class.{class_text}
use Rattle.cg_text.specs.declared.values.Amount.{Amount}
use Rattle.cg_text.specs.declared.values.Amount.TheVariants as amount
use Rattle.cg_text.specs.declared.values.Clamp.{Clamp}
use Rattle.cg_text.specs.declared.values.Clamp.TheVariants as clamp
use Rattle.cg_text.specs.declared.values.Device.{Device}
use Rattle.cg_text.specs.declared.values.Hundredths.{Hundredths}
use Rattle.cg_text.specs.declared.values.Limit.{Limit}
use Rattle.cg_text.specs.declared.values.Limit.TheVariants.{Max, At}
use Rattle.cg_text.specs.declared.values.ParamValue.{ParamValue}
use Rattle.cg_text.specs.declared.values.ParamValue.TheVariants as param
use Rattle.cg_value.specs.Lines.{unlines}
use Rattle.cg_value.specs.ReadLine.{mode_text, words_line, pad_text, role_text}
use Rattle.cg_value.specs.WriteLine.{toggles_line, pressure_word}
use Rattle.cg_value.specs.declared.flat.FlatPair.{FlatPair}
use Rattle.cg_value.specs.declared.setting.Setting.{Setting}
use Rattle.cg_value.specs.declared.setting.Setting.TheVariants as setting
use Rattle.cg_value.specs.declared.value.Averages.{Averages}
use Rattle.cg_value.specs.declared.value.FlatLimit.{FlatLimit}
use Rattle.cg_value.specs.declared.value.LimitLine.{LimitLine}
use Rattle.cg_value.specs.declared.value.NestedLine.{NestedLine}
use Rattle.cg_value.specs.declared.value.NestedPair.{NestedPair}
use Rattle.cg_value.specs.declared.value.ParamLine.{ParamLine}
use Rattle.cg_value.specs.declared.value.ParamPair.{ParamPair}
use Rattle.cg_value.specs.declared.value.Role.{Role}
use Rattle.cg_value.specs.declared.value.StatLine.{StatLine}
use Rattle.cg_value.specs.declared.value.StatPair.{StatPair}
use Rattle.cg_value.specs.declared.value.TargetLine.{TargetLine}
use Rattle.cg_value.specs.declared.value.Value.{Value}
use Rattle.cg_value.specs.declared.value.Value.TheVariants as value
use Rattle.cg_value.specs.declared.value.WeightLine.{WeightLine}

-- Tokens.
abbrev pub print_limit : Limit → List ℕ
print_limit Max = codes "max"
print_limit (At n) = decimal n

-- Two decimals.
abbrev pub print_hundredths : Hundredths → List ℕ
print_hundredths h = decimal (h.count / 100) ++ 46 ∷ (48 + h.count / 10 % 10) ∷ (48 + h.count % 10) ∷ []

abbrev pub print_clamp : Clamp → List ℕ
print_clamp clamp.Max = codes "max"
print_clamp (clamp.At h) = print_hundredths h

abbrev pub print_amount : Amount → List ℕ
print_amount (amount.Whole n) = decimal n
print_amount (amount.Decimal h) = print_hundredths h
print_amount amount.Max = codes "max"
print_amount (amount.Below n) = 45 ∷ decimal n

abbrev pub print_device : Device → List ℕ
print_device d = decimal d.major ++ 58 ∷ decimal d.minor

-- A device that is gone has a word of its own.
abbrev pub print_device_name : Option Device → List ℕ
print_device_name (Some d) = print_device d
print_device_name None = codes "(unknown)"

abbrev pub print_param : ParamValue → List ℕ
print_param (param.Whole n) = decimal n
print_param (param.Decimal h) = print_hundredths h
print_param (param.Name name) = name

-- The maximal ranges in order, a-b or a, with commas between.
abbrev pub print_range : ℕ × ℕ → List ℕ
print_range r = cond (nat_eq (r.0) (r.1)) (decimal (r.0)) (decimal (r.0) ++ 45 ∷ decimal (r.1))

abbrev pub print_set : List (ℕ × ℕ) → List ℕ
print_set [] = []
print_set (r ∷ []) = print_range r
print_set (r ∷ q ∷ rs) = print_range r ++ 44 ∷ print_set (q ∷ rs)

-- Each with a space before it.
abbrev pub print_led : {X : Type 0} → (X → List ℕ) → List X → List ℕ
print_led f [] = []
print_led f (x ∷ xs) = 32 ∷ (f x ++ print_led f xs)

-- Lines.
abbrev pub print_flat_line : FlatPair → List ℕ
print_flat_line p = p.key ++ 32 ∷ decimal p.number

abbrev pub print_flat_limit : FlatLimit → List ℕ
print_flat_limit p = p.key ++ 32 ∷ print_limit p.limit

abbrev pub print_stat_pair : StatPair → List ℕ
print_stat_pair p = p.key ++ 61 ∷ print_amount p.amount

abbrev pub print_stat_line : StatLine → List ℕ
print_stat_line s = print_device_name s.device ++ pad_text s.pad ++ print_led print_stat_pair s.pairs

abbrev pub print_limit_line : LimitLine → List ℕ
print_limit_line l = print_device_name l.device ++ codes " rbps=" ++ print_limit l.rbps ++ codes " wbps=" ++ print_limit l.wbps ++ codes " riops=" ++ print_limit l.riops ++ codes " wiops=" ++ print_limit l.wiops

abbrev pub print_default_line : ℕ → List ℕ
print_default_line weight = codes "default " ++ decimal weight

abbrev pub print_weight_line : WeightLine → List ℕ
print_weight_line w = print_device_name w.device ++ 32 ∷ decimal w.weight

abbrev pub print_target_line : TargetLine → List ℕ
print_target_line t = print_device_name t.device ++ codes " target=" ++ decimal t.target

abbrev pub print_param_pair : ParamPair → List ℕ
print_param_pair p = p.key ++ 61 ∷ print_param p.value

abbrev pub print_param_line : ParamLine → List ℕ
print_param_line l = print_device_name l.device ++ print_led print_param_pair l.params

abbrev pub print_reason : Option (List ℕ) → List ℕ
print_reason None = []
print_reason (Some reason) = codes " (" ++ reason ++ codes ")"

abbrev pub print_partition : Role → Bool → Option (List ℕ) → List ℕ
print_partition role true reason = role_text role
print_partition role false reason = role_text role ++ codes " invalid" ++ print_reason reason

abbrev pub print_averages : Averages → List ℕ
print_averages a = codes " avg10=" ++ print_hundredths a.avg10 ++ codes " avg60=" ++ print_hundredths a.avg60 ++ codes " avg300=" ++ print_hundredths a.avg300 ++ codes " total=" ++ decimal a.total

abbrev pub print_pressure_line : List ℕ → Option Averages → List (List ℕ)
print_pressure_line word None = []
print_pressure_line word (Some a) = (word ++ print_averages a) ∷ []

abbrev pub print_nested_pair : NestedPair → List ℕ
print_nested_pair p = p.key ++ 61 ∷ decimal p.number

abbrev pub print_nested_line : NestedLine → List ℕ
print_nested_line l = l.key ++ print_led print_nested_pair l.pairs

abbrev pub print_node_stats : ℕ → List NestedPair → List ℕ
print_node_stats total nodes = codes "total=" ++ decimal total ++ print_led print_nested_pair nodes

-- The lines of the canonical text of a value.
abbrev pub print_lines : Value → List (List ℕ)
print_lines (value.Number n) = decimal n ∷ []
print_lines (value.Signed z) = signed_decimal z ∷ []
print_lines (value.Limit l) = print_limit l ∷ []
print_lines (value.Mode m) = mode_text m ∷ []
print_lines (value.Class c) = class_text c ∷ []
print_lines (value.CpuMax quota period) = (print_limit quota ++ 32 ∷ decimal period) ∷ []
print_lines (value.Clamp c) = print_clamp c ∷ []
print_lines (value.Numbers ns) = map decimal ns
print_lines (value.Words ws) = words_line ws ∷ []
print_lines (value.Flat ps) = map print_flat_line ps
print_lines (value.FlatLimits ps) = map print_flat_limit ps
print_lines (value.DeviceStats ls) = map print_stat_line ls
print_lines (value.DeviceLimits ls) = map print_limit_line ls
print_lines (value.DeviceWeights default ls) = print_default_line default ∷ map print_weight_line ls
print_lines (value.DeviceTargets ls) = map print_target_line ls
print_lines (value.DeviceParams ls) = map print_param_line ls
print_lines (value.Set set) = print_set set ∷ []
print_lines (value.Partition role valid reason) = print_partition role valid reason ∷ []
print_lines (value.Pressure some full) = print_pressure_line (codes "some") some ++ print_pressure_line (codes "full") full
print_lines (value.Nested ls) = map print_nested_line ls
print_lines (value.NodeStats total nodes) = print_node_stats total nodes ∷ []
print_lines (value.Raw ls) = ls

-- The canonical text of a value. Of no words it is one empty line.
abbrev pub print_of : Value → List ℕ
print_of v = unlines (print_lines v)

-- The parts of a write, where they are given.
abbrev pub print_given : {X : Type 0} → List ℕ → (X → List ℕ) → Option X → List ℕ
print_given label f None = []
print_given label f (Some x) = label ++ f x

abbrev pub print_device_weight : Option ℕ → List ℕ
print_device_weight None = codes " default"
print_device_weight (Some weight) = 32 ∷ decimal weight

-- The canonical line of a setting: sizes in bytes, two decimals, limits in one order, the strict list of a set.
abbrev pub print_setting_line : Setting → List ℕ
print_setting_line (setting.Number n) = decimal n
print_setting_line (setting.Signed z) = signed_decimal z
print_setting_line (setting.Limit l) = print_limit l
print_setting_line (setting.Clamp c) = print_clamp c
print_setting_line setting.Threaded = codes "threaded"
print_setting_line (setting.Class c) = class_text c
print_setting_line (setting.Controllers ts) = toggles_line ts
print_setting_line (setting.CpuMax quota period) = print_limit quota ++ print_given (codes " ") decimal period
print_setting_line (setting.Reclaim size swappiness) = decimal size ++ print_given (codes " swappiness=") print_limit swappiness
print_setting_line (setting.DeviceLimits device rbps wbps riops wiops) =
    print_device device ++ print_given (codes " rbps=") print_limit rbps ++ print_given
    (codes " wbps=") print_limit wbps ++ print_given (codes " riops=") print_limit riops ++ print_given
    (codes " wiops=") print_limit wiops
print_setting_line (setting.DefaultWeight weight) = codes "default " ++ decimal weight
print_setting_line (setting.DeviceWeight device weight) = print_device device ++ print_device_weight weight
print_setting_line (setting.DeviceTarget device target) = print_device device ++ codes " target=" ++ decimal target
print_setting_line (setting.Set set) = print_set set
print_setting_line (setting.Role role) = role_text role
print_setting_line (setting.Trigger full stall window) = pressure_word full ++ 32 ∷ (decimal stall ++ 32 ∷ decimal window)
print_setting_line (setting.Raw bytes) = bytes

-- The canonical text of a setting.
abbrev pub print_setting_of : Setting → List ℕ
print_setting_of s = print_setting_line s ++ 10 ∷ []

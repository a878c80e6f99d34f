-- The JSON trees of what files hold (RFC 8259). An object has its keys in the order of their bytes.
use Rattle.std.specs.Prelude.{ℕ, zero, suc, min, ℤ, pos, negsuc, Bool, List, [], ◌∷◌, Option, Some, None, map, codes, if◌then◌else◌}
use Rattle.std.specs.List.{fold}
use Rattle.std.specs.Str.{is_utf8}
use Rattle.serde_json.specs.Data.{Data, null, boolean, number, unsigned, string, array, object, no_members, put}
use Rattle.serde_json.specs.Find.{of_integer}
use Rattle.serde_json.specs.View.{items_of}
use Rattle.cg_text.specs.declared.values.Amount.{Amount}
use Rattle.cg_text.specs.declared.values.Amount.TheVariants as amount
use Rattle.cg_text.specs.declared.values.Clamp.{Clamp}
use Rattle.cg_text.specs.declared.values.Clamp.TheVariants as clamp
use Rattle.cg_text.specs.declared.values.Device.{Device}
use Rattle.cg_text.specs.declared.values.Hundredths.{Hundredths}
use Rattle.cg_text.specs.declared.values.ParamValue.{ParamValue}
use Rattle.cg_text.specs.declared.values.ParamValue.TheVariants as param
use Rattle.cg_text.specs.declared.values.Limit.{Limit}
use Rattle.cg_text.specs.declared.values.Limit.TheVariants as limit
use Rattle.cg_value.specs.Print.{print_device}
use Rattle.cg_value.specs.ReadLine.{role_text}
use Rattle.cg_value.specs.declared.value.Averages.{Averages}
use Rattle.cg_value.specs.declared.value.LimitLine.{LimitLine}
use Rattle.cg_value.specs.declared.value.NestedLine.{NestedLine}
use Rattle.cg_value.specs.declared.value.NestedPair.{NestedPair}
use Rattle.cg_value.specs.declared.value.Role.{Role}
use Rattle.cg_value.specs.declared.value.StatLine.{StatLine}
use Rattle.cg_value.specs.declared.value.ParamLine.{ParamLine}
use Rattle.cg_value.specs.declared.value.TargetLine.{TargetLine}
use Rattle.cg_value.specs.declared.value.WeightLine.{WeightLine}

-- ---- Trees of trees

abbrev pub array_of : {X : Type 0} → (X → Data) → List X → Data
array_of f xs = array (items_of (map f xs))

-- The object that has these keys.
abbrev pub keyed : {X : Type 0} → (X → List ℕ) → (X → Data) → List X → Data
keyed key f xs = object (fold (λ ms x. put (key x) (f x) ms) no_members xs)

abbrev pub fields : List (List ℕ × Data) → Data
fields ms = keyed (λ m. m.0) (λ m. m.1) ms

-- What is given, or null.
abbrev pub given_data : {X : Type 0} → (X → Data) → Option X → Data
given_data f None = null
given_data f (Some x) = f x

-- ---- Tokens

abbrev pub number_data : ℕ → Data
number_data n = number (unsigned n)

abbrev pub signed_data : ℤ → Data
signed_data z = number (of_integer z)

-- The string of the bytes where they are UTF-8, else the array of their numbers.
abbrev pub text_data : List ℕ → Data
text_data bytes = if is_utf8 bytes then string bytes else array_of number_data bytes

abbrev pub limit_data : Limit → Data
limit_data limit.Max = string (codes "max")
limit_data (limit.At n) = number_data n

abbrev pub hundredths_data : Hundredths → Data
hundredths_data h = number_data h.count

abbrev pub clamp_data : Clamp → Data
clamp_data clamp.Max = string (codes "max")
clamp_data (clamp.At h) = hundredths_data h

-- So much below 0, as far as 64 bits tell it.
abbrev pub below_zero : ℕ → ℤ
below_zero zero = pos 0
below_zero (suc n) = negsuc (min n 9223372036854775807)

abbrev pub amount_data : Amount → Data
amount_data (amount.Whole n) = number_data n
amount_data (amount.Decimal h) = fields ((codes "hundredths", hundredths_data h) ∷ [])
amount_data amount.Max = string (codes "max")
amount_data (amount.Below n) = signed_data (below_zero n)

-- Major and minor, as 8:0.
-- A number, an object with its hundredths, or the name.
abbrev pub param_data : ParamValue → Data
param_data (param.Whole n) = number_data n
param_data (param.Decimal h) = amount_data (amount.Decimal h)
param_data (param.Name name) = string name

abbrev pub device_data : Device → Data
device_data d = string (print_device d)

abbrev pub range_data : ℕ × ℕ → Data
range_data r = array_of number_data (r.0 ∷ r.1 ∷ [])

-- ---- Lines and files

abbrev pub cpu_max_data : Limit → ℕ → Data
cpu_max_data quota period = fields ((codes "period", number_data period) ∷ (codes "quota", limit_data quota) ∷ [])

-- The pad isn't shown.
abbrev pub stat_data : StatLine → Data
stat_data l = fields ((codes "device", given_data device_data l.device) ∷ (codes "stats", keyed (λ p. p.key) (λ p. amount_data p.amount) l.pairs) ∷ [])

abbrev pub limits_data : LimitLine → Data
limits_data l = fields ((codes "device", given_data device_data l.device) ∷ (codes "rbps", limit_data l.rbps) ∷ (codes "riops", limit_data l.riops)
    ∷ (codes "wbps", limit_data l.wbps) ∷ (codes "wiops", limit_data l.wiops) ∷ [])

abbrev pub weight_data : WeightLine → Data
weight_data l = fields ((codes "device", given_data device_data l.device) ∷ (codes "weight", number_data l.weight) ∷ [])

abbrev pub weights_data : ℕ → List WeightLine → Data
weights_data default ls = fields ((codes "default", number_data default) ∷ (codes "devices", array_of weight_data ls) ∷ [])

abbrev pub target_data : TargetLine → Data
target_data l = fields ((codes "device", given_data device_data l.device) ∷ (codes "target", number_data l.target) ∷ [])

abbrev pub params_data : ParamLine → Data
params_data l = fields ((codes "device", given_data device_data l.device) ∷ (codes "params", keyed (λ p. p.key) (λ p. param_data p.value) l.params) ∷ [])

abbrev pub partition_data : Role → Bool → Option (List ℕ) → Data
partition_data role valid reason = fields ((codes "reason", given_data text_data reason) ∷ (codes "role", string (role_text role)) ∷ (codes "valid", boolean valid) ∷ [])

abbrev pub averages_data : Averages → Data
averages_data a = fields ((codes "avg10", hundredths_data a.avg10) ∷ (codes "avg300", hundredths_data a.avg300) ∷ (codes "avg60", hundredths_data a.avg60)
    ∷ (codes "total", number_data a.total) ∷ [])

abbrev pub pressure_data : Option Averages → Option Averages → Data
pressure_data some full = fields ((codes "full", given_data averages_data full) ∷ (codes "some", given_data averages_data some) ∷ [])

abbrev pub nested_data : NestedLine → Data
nested_data l = keyed (λ p. p.key) (λ p. number_data p.number) l.pairs

abbrev pub node_stats_data : ℕ → List NestedPair → Data
node_stats_data total nodes = fields ((codes "nodes", keyed (λ p. p.key) (λ p. number_data p.number) nodes) ∷ (codes "total", number_data total) ∷ [])

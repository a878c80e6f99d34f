-- The JSON trees of values, and the words of their kinds.
use Rattle.std.specs.Prelude.{ℕ, List, codes}
use Rattle.serde_json.specs.Data.{Data, string}
use Rattle.cg_text.specs.Class.{class_text}
use Rattle.cg_value.specs.ReadLine.{mode_text}
use Rattle.cg_value.specs.declared.value.Value.{Value}
use Rattle.cg_value.specs.declared.value.Value.TheVariants as value
use Rattle.cg_json.specs.Json.{array_of, keyed, number_data, signed_data, text_data, limit_data, clamp_data, range_data}
use Rattle.cg_json.specs.Json.{cpu_max_data, stat_data, limits_data, weights_data, target_data, partition_data, pressure_data, nested_data, node_stats_data, params_data}

-- The word of the kind of files that hold such a value.
abbrev pub kind_word : Value → List ℕ
kind_word (value.Number n) = codes "number"
kind_word (value.Signed z) = codes "signed"
kind_word (value.Limit l) = codes "limit"
kind_word (value.Mode m) = codes "mode"
kind_word (value.Class c) = codes "class"
kind_word (value.CpuMax quota period) = codes "cpu_max"
kind_word (value.Clamp c) = codes "clamp"
kind_word (value.Numbers ns) = codes "numbers"
kind_word (value.Words ws) = codes "words"
kind_word (value.Flat ps) = codes "flat"
kind_word (value.FlatLimits ps) = codes "flat_limits"
kind_word (value.DeviceStats ls) = codes "device_stats"
kind_word (value.DeviceLimits ls) = codes "device_limits"
kind_word (value.DeviceWeights default ls) = codes "device_weights"
kind_word (value.DeviceTargets ls) = codes "device_targets"
kind_word (value.DeviceParams ls) = codes "device_params"
kind_word (value.Set rs) = codes "set"
kind_word (value.Partition role valid reason) = codes "partition"
kind_word (value.Pressure some full) = codes "pressure"
kind_word (value.Nested ls) = codes "nested"
kind_word (value.NodeStats total nodes) = codes "node_stats"
kind_word (value.Raw ls) = codes "raw"

abbrev pub value_data : Value → Data
value_data (value.Number n) = number_data n
value_data (value.Signed z) = signed_data z
value_data (value.Limit l) = limit_data l
value_data (value.Mode m) = string (mode_text m)
value_data (value.Class c) = string (class_text c)
value_data (value.CpuMax quota period) = cpu_max_data quota period
value_data (value.Clamp c) = clamp_data c
value_data (value.Numbers ns) = array_of number_data ns
value_data (value.Words ws) = array_of string ws
value_data (value.Flat ps) = keyed (λ p. p.key) (λ p. number_data p.number) ps
value_data (value.FlatLimits ps) = keyed (λ p. p.key) (λ p. limit_data p.limit) ps
value_data (value.DeviceStats ls) = array_of stat_data ls
value_data (value.DeviceLimits ls) = array_of limits_data ls
value_data (value.DeviceWeights default ls) = weights_data default ls
value_data (value.DeviceTargets ls) = array_of target_data ls
value_data (value.DeviceParams ls) = array_of params_data ls
value_data (value.Set rs) = array_of range_data rs
value_data (value.Partition role valid reason) = partition_data role valid reason
value_data (value.Pressure some full) = pressure_data some full
value_data (value.Nested ls) = keyed (λ l. l.key) nested_data ls
value_data (value.NodeStats total nodes) = node_stats_data total nodes
value_data (value.Raw ls) = array_of text_data ls

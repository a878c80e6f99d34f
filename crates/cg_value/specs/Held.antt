-- How much a reader may hold of whole lines: a place a line, and what its keys, words, ranges and raw bytes hold.
use Rattle.std.specs.Prelude.{ℕ, ◌+◌, List, length, Option, Some, None}
use Rattle.std.specs.List.{sum_by}
use Rattle.cg_text.specs.declared.values.ParamValue.{ParamValue}
use Rattle.cg_text.specs.declared.values.ParamValue.TheVariants as param
use Rattle.cg_value.specs.declared.value.Value.{Value}
use Rattle.cg_value.specs.declared.value.Value.TheVariants as value

-- A key of a pair.
abbrev pub held_of_key : List ℕ → ℕ
held_of_key key = length key + 2

-- A parameter, whose name is held.
abbrev pub held_of_param : ParamValue → ℕ
held_of_param (param.Name name) = length name
held_of_param _ = 0

abbrev pub held_of_reason : Option (List ℕ) → ℕ
held_of_reason None = 0
held_of_reason (Some reason) = length reason

abbrev pub held_of_value : Value → ℕ
held_of_value (value.Words ws) = sum_by (λ w. length w + 1) ws
held_of_value (value.Flat ps) = sum_by (λ p. held_of_key p.key) ps
held_of_value (value.FlatLimits ps) = sum_by (λ p. held_of_key p.key) ps
held_of_value (value.DeviceStats ls) = sum_by (λ s. sum_by (λ p. held_of_key p.key) s.pairs) ls
held_of_value (value.DeviceParams ls) = sum_by (λ l. sum_by (λ p. held_of_key p.key + held_of_param p.value) l.params) ls
held_of_value (value.Set set) = length set
held_of_value (value.Partition role valid reason) = held_of_reason reason
held_of_value (value.Nested ls) = sum_by (λ l. held_of_key l.key + sum_by (λ p. held_of_key p.key) l.pairs) ls
held_of_value (value.NodeStats total nodes) = sum_by (λ p. held_of_key p.key) nodes
held_of_value (value.Raw ls) = sum_by length ls
held_of_value _ = 0

-- Of lines that spell the value.
abbrev pub held_of_lines : Value → List (List ℕ) → ℕ
held_of_lines v lines = length lines + held_of_value v

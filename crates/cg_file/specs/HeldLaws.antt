-- How much is held of a file where its text may end, by its value: no more than a place for each line, and its keys, words,
-- ranges and raw bytes.
use Rattle.std.proofs.Common.{ℕ, ◌+◌, ◌≤◌, List, [], length, Option, refl, arith}
use Rattle.cg_text.specs.RangesState.{number_rest}
use Rattle.cg_text.specs.Decimal.{IsDecimal}
use Rattle.cg_text.specs.contracts.byte.ByteTextToken.TheImpl as byte
use Rattle.cg_text.specs.contracts.decimal.DecimalTextToken.TheImpl as decimal
use Rattle.cg_text.specs.contracts.keyword.KeywordTextToken.TheImpl as keyword
use Rattle.cg_text.specs.contracts.list.StrictListTextToken.TheImpl as list_text
use Rattle.cg_text.specs.contracts.reason.ReasonTextToken.TheImpl as reason
use Rattle.cg_text.specs.contracts.word.WordTextToken.TheImpl as word
use Rattle.cg_join.specs.Choice.{either_size}
use Rattle.cg_join.specs.Distinct.{IsDistinctAfter}
use Rattle.cg_join.specs.Join.{IsSequence}
use Rattle.cg_join.specs.Maybe.{maybe_size}
use Rattle.cg_join.specs.Pairs.{IsPairText, pair_size}
use Rattle.cg_join.specs.Repeat.{items_size}
use Rattle.cg_join.specs.SettledLaws.{joined_bound, keyed_settled, lines_settled, list_settled, maybe_settled, or_ready_settled, pairs_settled, ranges_settled, reason_settled, same_settled, second_nil, sequence_settled, mapped_text_settled, word_settled, zero_least}
use Rattle.cg_join.specs.WordStartLaws.{SpellsWord}
use Rattle.cg_value.specs.Flat.{flat_size}
use Rattle.cg_value.specs.Print.{print_default_line, print_weight_line}
use Rattle.cg_value.specs.declared.flat.FlatPair.{FlatPair}
use Rattle.cg_value.specs.declared.value.FlatLimit.{FlatLimit}
use Rattle.cg_value.specs.declared.value.NestedLine.{NestedLine}
use Rattle.cg_value.specs.declared.value.NestedPair.{NestedPair}
use Rattle.cg_value.specs.declared.value.Value.{Value}
use Rattle.cg_file.specs.BranchLaws.{branch_settled}
use Rattle.cg_file.specs.DeviceLineLaws.{limits_value, targets_value}
use Rattle.cg_file.specs.FlatFileLaws.{flat_value}
use Rattle.cg_file.specs.FlatLimitsFileLaws.{flat_limits_value}
use Rattle.cg_file.specs.Kinds.{held_of_whole}
use Rattle.cg_file.specs.ManyFileLaws.{numbers_value}
use Rattle.cg_file.specs.NestedFileLaws.{nested_value}
use Rattle.cg_file.specs.NodeStatsFileLaws.{NodesValue, node_stats_value, nodes_held}
use Rattle.cg_file.specs.OneLineMapped.{set_value}
use Rattle.cg_file.specs.PartitionFileLaws.{partition_held}
use Rattle.cg_file.specs.PartitionMapped.{InvalidValue, ReasonValue, RootValue, partition_value}
use Rattle.cg_file.specs.ParamFileLaws.{device_params_value, params_held, params_size}
use Rattle.cg_file.specs.StatFileLaws.{stat_size, stats_value, stats_held}
use Rattle.cg_file.specs.RawFileLaws.{raw_file_held}
use Rattle.cg_file.specs.LineHeldLaws.{bare_lines_held, bare_lines_held_after, flat_held, flat_limits_held, line_held, nested_held, words_held}
use Rattle.cg_file.specs.WeightFileLaws.{weights_value}
use Rattle.cg_file.specs.WordsMapped.{words_value}
use Rattle.cg_file.specs.contracts.device_params.ParamLineTextToken.TheImpl as param_line
use Rattle.cg_file.specs.contracts.device_stats.StatLineTextToken.TheImpl as stat_line
use Rattle.cg_file.specs.contracts.node_stats.NodePairsToken.TheImpl as node_pairs
use Rattle.cg_file.specs.contracts.node_stats.NodesTextToken.TheImpl as nodes
use Rattle.cg_file.specs.contracts.partition.InvalidTextToken.TheImpl as invalid
use Rattle.cg_file.specs.contracts.partition.RootTextToken.TheImpl as root
use Rattle.cg_file.specs.contracts.partition.WhyTextToken.TheImpl as why
use Rattle.cg_file.specs.contracts.words.SpacedWordsToken.TheImpl as spaced
use Rattle.cg_file.specs.declared.words.SpacedWords.{SpacedWords}
use Rattle.cg_file.specs.declared.partition.InvalidText.{InvalidText}
use Rattle.cg_file.specs.declared.partition.RootText.{RootText}
use Rattle.cg_file.specs.declared.partition.WhyText.{WhyText}
use Rattle.cg_file.specs.contracts.cpu_max.CpuMaxFileToken.TheImpl as cpu_max
use Rattle.cg_file.specs.contracts.device_limits.DeviceLimitsFileToken.TheImpl as device_limits
use Rattle.cg_file.specs.contracts.device_params.DeviceParamsFileToken.TheImpl as device_params
use Rattle.cg_file.specs.contracts.device_stats.DeviceStatsFileToken.TheImpl as device_stats
use Rattle.cg_file.specs.contracts.device_targets.DeviceTargetsFileToken.TheImpl as device_targets
use Rattle.cg_file.specs.contracts.device_weights.DeviceWeightsFileToken.TheImpl as device_weights
use Rattle.cg_file.specs.contracts.flat.FlatFileToken.TheImpl as flat
use Rattle.cg_file.specs.contracts.flat_limits.FlatLimitsFileToken.TheImpl as flat_limits
use Rattle.cg_file.specs.contracts.nested.NestedFileToken.TheImpl as nested
use Rattle.cg_file.specs.contracts.node_stats.NodeStatsFileToken.TheImpl as node_stats
use Rattle.cg_file.specs.contracts.numbers.NumbersFileToken.TheImpl as numbers
use Rattle.cg_file.specs.contracts.partition.PartitionFileToken.TheImpl as partition
use Rattle.cg_file.specs.contracts.pressure.PressureFileToken.TheImpl as pressure
use Rattle.cg_file.specs.contracts.raw.RawFileToken.TheImpl as raw
use Rattle.cg_file.specs.contracts.set.SetFileToken.TheImpl as set
use Rattle.cg_file.specs.contracts.words.WordsFileToken.TheImpl as words
use Rattle.cg_file.specs.declared.cpu_max.CpuMaxFile.{CpuMaxFile}
use Rattle.cg_file.specs.declared.device_limits.DeviceLimitsFile.{DeviceLimitsFile}
use Rattle.cg_file.specs.declared.device_params.DeviceParamsFile.{DeviceParamsFile}
use Rattle.cg_file.specs.declared.device_stats.DeviceStatsFile.{DeviceStatsFile}
use Rattle.cg_file.specs.declared.device_targets.DeviceTargetsFile.{DeviceTargetsFile}
use Rattle.cg_file.specs.declared.device_weights.DeviceWeightsFile.{DeviceWeightsFile}
use Rattle.cg_file.specs.declared.flat.FlatFile.{FlatFile}
use Rattle.cg_file.specs.declared.flat_limits.FlatLimitsFile.{FlatLimitsFile}
use Rattle.cg_file.specs.declared.nested.NestedFile.{NestedFile}
use Rattle.cg_file.specs.declared.node_stats.NodePairs.{NodePairs}
use Rattle.cg_file.specs.declared.node_stats.NodeStatsFile.{NodeStatsFile}
use Rattle.cg_file.specs.declared.node_stats.NodesText.{NodesText}
use Rattle.cg_file.specs.declared.numbers.NumbersFile.{NumbersFile}
use Rattle.cg_file.specs.declared.partition.PartitionFile.{PartitionFile}
use Rattle.cg_file.specs.declared.pressure.PressureFile.{PressureFile}
use Rattle.cg_file.specs.declared.raw.RawFile.{RawFile}
use Rattle.cg_file.specs.declared.set.SetFile.{SetFile}
use Rattle.cg_file.specs.declared.words.WordsFile.{WordsFile}
use Rattle.cg_file.specs.AnyFile.{file_rests, file_size}
use Rattle.cg_file.specs.declared.any_file.AnyFile.{AnyFile}
use Rattle.cg_file.specs.declared.any_file.AnyFile.TheVariants as text

cpu_max_settled : (s : CpuMaxFile) (v : Value) → cpu_max.ghosts.means s [] v → cpu_max.ghosts.size s ≤ held_of_whole v
cpu_max_settled s v h = zero_least (held_of_whole v)

numbers_settled : (s : NumbersFile) (v : Value) → numbers.ghosts.means s [] v → numbers.ghosts.size s ≤ held_of_whole v
numbers_settled s v h =
    let l = s.text.token in
    mapped_text_settled numbers_value _ (items_size (λ _. 0)) held_of_whole h.0 v h.2 (lines_settled _ _ l.end l.items.items l.begun (λ _. 0) 0 l.fresh h.0 h.1) (bare_lines_held _ h.0)

spaced_settled : (s : SpacedWords) (ws : List (List ℕ)) → spaced.ghosts.means s [] ws → spaced.ghosts.size s ≤ joined_bound length length ws
spaced_settled s ws h =
    let d = s.words.token in
    let words : List ℕ → List (List ℕ) → Type 0 = IsDistinctAfter d.items.items (word.ghosts.means d.current) (SpellsWord d.start.controller) d.separator in
    or_ready_settled s.words.begun words s.words.value (items_size length d.items.items + length d.current.bytes.items) (joined_bound length length) s.words.fresh
    (λ all g. list_settled (word.ghosts.means d.current)
    (SpellsWord d.start.controller) d.separator d.items.items length length (length d.current.bytes.items)
    (λ w f. word_settled d.current.controller d.current.bytes.items w f) all g.0) ws h

words_settled : (s : WordsFile) (v : Value) → words.ghosts.means s [] v → words.ghosts.size s ≤ held_of_whole v
words_settled s v h =
    let o = s.text.token in
    let q = o.token in
    let line : List ℕ → List (List ℕ) × Unit {0} → Type 0 = λ rest x. IsSequence spaced.ghosts.means byte.ghosts.means q.in_second q.first q.second rest x.0 x.1 in
    mapped_text_settled words_value _ (λ x. joined_bound length length x.0 + 0) held_of_whole h.0 v h.2
    (or_ready_settled o.begun line o.value (spaced.ghosts.size q.first + 0) (λ x. joined_bound length length x.0 + 0) o.fresh
    (λ x k. sequence_settled spaced.ghosts.means byte.ghosts.means q.in_second q.first q.second (spaced.ghosts.size q.first) 0 (joined_bound length length) (λ _. 0) (spaced_settled q.first) (λ u j. zero_least 0) x.0 x.1 k) h.0 h.1)
    (words_held h.0.0)

flat_settled : (s : FlatFile) (v : Value) → flat.ghosts.means s [] v → flat.ghosts.size s ≤ held_of_whole v
flat_settled s v h =
    let k = s.text.token in
    let pairs = k.pairs.building.pairs in
    mapped_text_settled flat_value _ flat_size held_of_whole h.0 v h.2
    (keyed_settled (λ (p : FlatPair). p.key) (λ ps. ps) pairs _ _ k.end k.stage k.ended.items length flat_size
    (flat_size pairs) (length k.key.bytes.items) 0 k.kept k.new_key k.new_value
    (same_settled (flat_size pairs) (flat_size pairs) refl) h.0 h.1)
    (flat_held h.0)

flat_limits_settled : (s : FlatLimitsFile) (v : Value) → flat_limits.ghosts.means s [] v → flat_limits.ghosts.size s ≤ held_of_whole v
flat_limits_settled s v h =
    let k = s.text.token in
    let pairs = k.pairs.pairs.items in
    let size : List FlatLimit → ℕ = items_size (pair_size (λ (p : FlatLimit). p.key) (λ p. p.limit) length (λ _. 0)) in
    mapped_text_settled flat_limits_value _ size held_of_whole h.0 v h.2
    (keyed_settled (λ (p : FlatLimit). p.key) (λ ps. ps) pairs _ _ k.end k.stage k.ended.items length size
    (size pairs) (length k.key.bytes.items) 0 k.kept k.new_key k.new_value
    (same_settled (size pairs) (size pairs) refl) h.0 h.1)
    (flat_limits_held h.0)

device_stats_settled : (s : DeviceStatsFile) (v : Value) → device_stats.ghosts.means s [] v → device_stats.ghosts.size s ≤ held_of_whole v
device_stats_settled s v h =
    let l = s.text.token in
    mapped_text_settled stats_value _ (items_size stat_size) held_of_whole h.0 v h.2 (lines_settled _ _ l.end l.items.items l.begun stat_size (stat_line.ghosts.size l.current) l.fresh h.0 h.1) (stats_held h.0)

device_limits_settled : (s : DeviceLimitsFile) (v : Value) → device_limits.ghosts.means s [] v → device_limits.ghosts.size s ≤ held_of_whole v
device_limits_settled s v h =
    let l = s.text.token in
    mapped_text_settled limits_value _ (items_size (λ _. 0)) held_of_whole h.0 v h.2 (lines_settled _ _ l.end l.items.items l.begun (λ _. 0) 0 l.fresh h.0 h.1) (bare_lines_held _ h.0)

device_weights_settled : (s : DeviceWeightsFile) (v : Value) → device_weights.ghosts.means s [] v → device_weights.ghosts.size s ≤ held_of_whole v
device_weights_settled s v h =
    let q = s.text.token in
    let l = q.second in
    mapped_text_settled weights_value _ (λ x. 0 + items_size (λ _. 0) x.1) held_of_whole h.0 v h.2
    (sequence_settled _ _ q.in_second q.first l 0 (items_size (λ _. 0) l.items.items + 0) (λ _. 0) (items_size (λ _. 0)) (λ x k. zero_least 0) (λ ws k. lines_settled _ _ l.end l.items.items l.begun (λ _. 0) 0 l.fresh ws k) h.0.0 h.0.1 h.1)
    (bare_lines_held_after print_weight_line (print_default_line h.0.0.0.1.1) h.0.1 0 refl)

device_targets_settled : (s : DeviceTargetsFile) (v : Value) → device_targets.ghosts.means s [] v → device_targets.ghosts.size s ≤ held_of_whole v
device_targets_settled s v h =
    let l = s.text.token in
    mapped_text_settled targets_value _ (items_size (λ _. 0)) held_of_whole h.0 v h.2 (lines_settled _ _ l.end l.items.items l.begun (λ _. 0) 0 l.fresh h.0 h.1) (bare_lines_held _ h.0)

device_params_settled : (s : DeviceParamsFile) (v : Value) → device_params.ghosts.means s [] v → device_params.ghosts.size s ≤ held_of_whole v
device_params_settled s v h =
    let l = s.text.token in
    mapped_text_settled device_params_value _ (items_size params_size) held_of_whole h.0 v h.2 (lines_settled _ _ l.end l.items.items l.begun params_size (param_line.ghosts.size l.current) l.fresh h.0 h.1) (params_held h.0)

set_settled : (s : SetFile) (v : Value) → set.ghosts.means s [] v → set.ghosts.size s ≤ held_of_whole v
set_settled s v h =
    let q = s.text.token in
    let list = q.first.list in
    mapped_text_settled set_value _ (λ x. length x.0 + 0) held_of_whole h.0 v h.2
    (sequence_settled list_text.ghosts.means byte.ghosts.means q.in_second q.first q.second (length list.ranges.items) 0 length (λ _. 0)
    (λ all k. ranges_settled list.strict list.ranges.items list.most list.low (number_rest list.number) all k) (λ u k. zero_least 0) h.0.0 h.0.1 h.1)
    (line_held (length h.0.0) 0 refl)

why_settled : (s : WhyText) (v : Option ReasonValue) → why.ghosts.means s [] v → why.ghosts.size s ≤ maybe_size (λ (x : ReasonValue). length x.1 + 1) v
why_settled s = maybe_settled s.parts.begun (λ rest (v : ReasonValue). IsSequence keyword.ghosts.means reason.ghosts.means s.parts.token.in_second s.parts.token.first s.parts.token.second rest v.0 v.1) (0 + length s.parts.token.second.bytes.items) (λ x. length x.1 + 1) s.parts.fresh
    (λ v h. omega (arith, reason_settled s.parts.token.second.bytes.items v.1 (second_nil keyword.ghosts.means reason.ghosts.means s.parts.token.in_second s.parts.token.first s.parts.token.second v.0 v.1 h)))

invalid_settled : (s : InvalidText) (v : Option InvalidValue) → invalid.ghosts.means s [] v → invalid.ghosts.size s ≤ maybe_size (λ (x : InvalidValue). maybe_size (λ (y : ReasonValue). length y.1 + 1) x.1) v
invalid_settled s = maybe_settled s.parts.begun
    (λ rest (v : InvalidValue). IsSequence keyword.ghosts.means why.ghosts.means s.parts.token.in_second s.parts.token.first s.parts.token.second rest v.0
    v.1) (0 + why.ghosts.size s.parts.token.second) (λ x. maybe_size (λ y. length y.1 + 1) x.1) s.parts.fresh
    (λ v h. omega (arith, why_settled s.parts.token.second v.1 (second_nil keyword.ghosts.means why.ghosts.means s.parts.token.in_second s.parts.token.first s.parts.token.second v.0 v.1 h)))

root_settled : (s : RootText) (v : RootValue × Option InvalidValue) → root.ghosts.means s [] v → root.ghosts.size s ≤ 0 + maybe_size (λ (x : InvalidValue). maybe_size (λ (y : ReasonValue). length y.1 + 1) x.1) v.1
root_settled s v h = sequence_settled _ invalid.ghosts.means s.parts.in_second s.parts.first s.parts.second 0
    (invalid.ghosts.size s.parts.second) (λ _. 0) (maybe_size (λ x. maybe_size (λ y. length y.1 + 1) x.1))
    (λ x k. zero_least 0) (invalid_settled s.parts.second) v.0 v.1 h

partition_settled : (s : PartitionFile) (v : Value) → partition.ghosts.means s [] v → partition.ghosts.size s ≤ held_of_whole v
partition_settled s v h =
    let q = s.text.token in
    let b = q.first in
    let bound : RootValue × Option InvalidValue → ℕ = λ w. 0 + maybe_size (λ (x : InvalidValue). maybe_size (λ (y : ReasonValue). length y.1 + 1) x.1) w.1 in
    mapped_text_settled partition_value _ (λ x. either_size (λ _. 0) bound x.0 + 0) held_of_whole h.0 v h.2
    (sequence_settled _ byte.ghosts.means q.in_second b q.second (0 + root.ghosts.size b.second) 0 (either_size (λ _. 0) bound) (λ _. 0)
    (λ x k. branch_settled keyword.ghosts.means root.ghosts.means b.place b.first b.second 0 (root.ghosts.size b.second) bound refl b.fresh (root_settled b.second) x k) (λ u k. zero_least 0) h.0.0 h.0.1 h.1)
    (partition_held h.0)

pressure_settled : (s : PressureFile) (v : Value) → pressure.ghosts.means s [] v → pressure.ghosts.size s ≤ held_of_whole v
pressure_settled s v h = zero_least (held_of_whole v)

nested_settled : (s : NestedFile) (v : Value) → nested.ghosts.means s [] v → nested.ghosts.size s ≤ held_of_whole v
nested_settled s v h =
    let k = s.text.token in
    let lines = k.pairs.pairs.items in
    let size : List NestedLine → ℕ = items_size (pair_size (λ (q : NestedLine). q.key) (λ q. q.pairs) length (items_size (pair_size (λ (p : NestedPair). p.key) (λ p. p.number) length (λ _. 0)))) in
    mapped_text_settled nested_value _ size held_of_whole h.0 v h.2
    (keyed_settled (λ (q : NestedLine). q.key) (λ ps. ps) lines _ _ k.end k.stage k.ended.items length size (size lines) (length k.key.bytes.items) _ k.kept k.new_key k.new_value (same_settled (size lines) (size lines) refl) h.0 h.1)
    (nested_held h.0)

node_pairs_settled : (s : NodePairs) (ps : List NestedPair) → node_pairs.ghosts.means s [] ps → node_pairs.ghosts.size s ≤ items_size (pair_size (λ (p : NestedPair). p.key) (λ p. p.number) length (λ _. 0)) ps
node_pairs_settled s ps h =
    let d = s.pairs in
    pairs_settled (λ (p : NestedPair). p.key) (λ p. p.number) (word.ghosts.means d.word) (decimal.ghosts.means d.value)
    (IsPairText (λ p. p.key) (λ p. p.number) (SpellsWord d.words.controller) (λ t n. IsDecimal d.values.lo d.values.hi n t) d.delimiter) d.delimiter d.separator d.items.items d.stage length (length d.word.bytes.items) 0 d.new_word refl ps h

nodes_settled : (s : NodesText) (v : NodesValue) → nodes.ghosts.means s [] v → nodes.ghosts.size s ≤ 0 + items_size (pair_size (λ (p : NestedPair). p.key) (λ p. p.number) length (λ _. 0)) (v.1.1)
nodes_settled s v h =
    let q = s.parts.second in
    let both : List ℕ → ℕ × List NestedPair → Type 0 = λ rest x. IsSequence decimal.ghosts.means node_pairs.ghosts.means q.in_second q.first q.second rest (x.0) (x.1) in
    let held = sequence_settled decimal.ghosts.means node_pairs.ghosts.means q.in_second q.first q.second 0 (node_pairs.ghosts.size q.second) (λ _. 0)
    (items_size (pair_size (λ (p : NestedPair). p.key) (λ p. p.number) length (λ _. 0)))
    (λ n k. zero_least 0) (node_pairs_settled q.second) (v.1.0) (v.1.1) (second_nil keyword.ghosts.means (λ r rest (x : ℕ × List NestedPair). IsSequence decimal.ghosts.means node_pairs.ghosts.means r.in_second r.first r.second rest (x.0) (x.1)) s.parts.in_second s.parts.first q v.0 v.1 h) in
    omega (arith, held)

node_stats_settled : (s : NodeStatsFile) (v : Value) → node_stats.ghosts.means s [] v → node_stats.ghosts.size s ≤ held_of_whole v
node_stats_settled s v h =
    let q = s.text.token in
    let bound : NodesValue → ℕ = λ x. 0 + items_size (pair_size (λ (p : NestedPair). p.key) (λ p. p.number) length (λ _. 0)) (x.1.1) in
    mapped_text_settled node_stats_value _ (λ x. bound x.0 + 0) held_of_whole h.0 v h.2
    (sequence_settled nodes.ghosts.means byte.ghosts.means q.in_second q.first q.second (nodes.ghosts.size q.first) 0 bound (λ _. 0) (nodes_settled q.first) (λ u k. zero_least 0) h.0.0 h.0.1 h.1)
    (nodes_held h.0)

raw_file_settled : (s : RawFile) (v : Value) → raw.ghosts.means s [] v → raw.ghosts.size s ≤ held_of_whole v
raw_file_settled s v h = rw h.value (raw_file_held s.text.items h.whole)

-- Of a file of any kind.
pub file_settled : (s : AnyFile) (v : Value) → file_rests s [] v → file_size s ≤ held_of_whole v
file_settled (text.Number t) = λ v h. zero_least (held_of_whole v)
file_settled (text.Signed t) = λ v h. zero_least (held_of_whole v)
file_settled (text.Limit t) = λ v h. zero_least (held_of_whole v)
file_settled (text.Mode t) = λ v h. zero_least (held_of_whole v)
file_settled (text.Class t) = λ v h. zero_least (held_of_whole v)
file_settled (text.CpuMax t) = cpu_max_settled t
file_settled (text.Clamp t) = λ v h. zero_least (held_of_whole v)
file_settled (text.Numbers t) = numbers_settled t
file_settled (text.Words t) = words_settled t
file_settled (text.Flat t) = flat_settled t
file_settled (text.FlatLimits t) = flat_limits_settled t
file_settled (text.DeviceStats t) = device_stats_settled t
file_settled (text.DeviceLimits t) = device_limits_settled t
file_settled (text.DeviceWeights t) = device_weights_settled t
file_settled (text.DeviceTargets t) = device_targets_settled t
file_settled (text.DeviceParams t) = device_params_settled t
file_settled (text.Set t) = set_settled t
file_settled (text.Partition t) = partition_settled t
file_settled (text.Pressure t) = pressure_settled t
file_settled (text.Nested t) = nested_settled t
file_settled (text.NodeStats t) = node_stats_settled t
file_settled (text.Raw t) = raw_file_settled t

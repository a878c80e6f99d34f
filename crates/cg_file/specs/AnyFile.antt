-- What a file of any kind has left to take, how much it holds, and whether nothing need follow.
use Rattle.std.specs.Prelude.{ℕ, Bool, List}
use Rattle.cg_value.specs.declared.value.Value.{Value}
use Rattle.cg_file.specs.contracts.clamp.ToClampNamedTokenClampFile.TheImpl as clamp
use Rattle.cg_file.specs.contracts.class.ToClassNamedTokenClassFile.TheImpl as class
use Rattle.cg_file.specs.contracts.cpu_max.CpuMaxFileToken.TheImpl as cpu_max
use Rattle.cg_file.specs.contracts.device_limits.DeviceLimitsFileToken.TheImpl as device_limits
use Rattle.cg_file.specs.contracts.device_params.DeviceParamsFileToken.TheImpl as device_params
use Rattle.cg_file.specs.contracts.device_stats.DeviceStatsFileToken.TheImpl as device_stats
use Rattle.cg_file.specs.contracts.device_targets.DeviceTargetsFileToken.TheImpl as device_targets
use Rattle.cg_file.specs.contracts.device_weights.DeviceWeightsFileToken.TheImpl as device_weights
use Rattle.cg_file.specs.contracts.flat.FlatFileToken.TheImpl as flat
use Rattle.cg_file.specs.contracts.flat_limits.FlatLimitsFileToken.TheImpl as flat_limits
use Rattle.cg_file.specs.contracts.limit.ToLimitNamedTokenLimitFile.TheImpl as limit
use Rattle.cg_file.specs.contracts.mode.ToModeNamedTokenModeFile.TheImpl as mode
use Rattle.cg_file.specs.contracts.nested.NestedFileToken.TheImpl as nested
use Rattle.cg_file.specs.contracts.node_stats.NodeStatsFileToken.TheImpl as node_stats
use Rattle.cg_file.specs.contracts.number.ToNumberNamedTokenNumberFile.TheImpl as number
use Rattle.cg_file.specs.contracts.numbers.NumbersFileToken.TheImpl as numbers
use Rattle.cg_file.specs.contracts.partition.PartitionFileToken.TheImpl as partition
use Rattle.cg_file.specs.contracts.pressure.PressureFileToken.TheImpl as pressure
use Rattle.cg_file.specs.contracts.raw.RawFileToken.TheImpl as raw
use Rattle.cg_file.specs.contracts.set.SetFileToken.TheImpl as set
use Rattle.cg_file.specs.contracts.signed.ToSignedNamedTokenSignedFile.TheImpl as signed
use Rattle.cg_file.specs.contracts.words.WordsFileToken.TheImpl as words
use Rattle.cg_file.specs.declared.any_file.AnyFile.{AnyFile}
use Rattle.cg_file.specs.declared.any_file.AnyFile.TheVariants as text

abbrev pub file_rests : AnyFile → List ℕ → Value → Type 0
file_rests (text.Number t) = number.ghosts.token.means t
file_rests (text.Signed t) = signed.ghosts.token.means t
file_rests (text.Limit t) = limit.ghosts.token.means t
file_rests (text.Mode t) = mode.ghosts.token.means t
file_rests (text.Class t) = class.ghosts.token.means t
file_rests (text.CpuMax t) = cpu_max.ghosts.means t
file_rests (text.Clamp t) = clamp.ghosts.token.means t
file_rests (text.Numbers t) = numbers.ghosts.means t
file_rests (text.Words t) = words.ghosts.means t
file_rests (text.Flat t) = flat.ghosts.means t
file_rests (text.FlatLimits t) = flat_limits.ghosts.means t
file_rests (text.DeviceStats t) = device_stats.ghosts.means t
file_rests (text.DeviceLimits t) = device_limits.ghosts.means t
file_rests (text.DeviceWeights t) = device_weights.ghosts.means t
file_rests (text.DeviceTargets t) = device_targets.ghosts.means t
file_rests (text.DeviceParams t) = device_params.ghosts.means t
file_rests (text.Set t) = set.ghosts.means t
file_rests (text.Partition t) = partition.ghosts.means t
file_rests (text.Pressure t) = pressure.ghosts.means t
file_rests (text.Nested t) = nested.ghosts.means t
file_rests (text.NodeStats t) = node_stats.ghosts.means t
file_rests (text.Raw t) = raw.ghosts.means t

abbrev pub file_size : AnyFile → ℕ
file_size (text.Number t) = number.ghosts.token.size t
file_size (text.Signed t) = signed.ghosts.token.size t
file_size (text.Limit t) = limit.ghosts.token.size t
file_size (text.Mode t) = mode.ghosts.token.size t
file_size (text.Class t) = class.ghosts.token.size t
file_size (text.CpuMax t) = cpu_max.ghosts.size t
file_size (text.Clamp t) = clamp.ghosts.token.size t
file_size (text.Numbers t) = numbers.ghosts.size t
file_size (text.Words t) = words.ghosts.size t
file_size (text.Flat t) = flat.ghosts.size t
file_size (text.FlatLimits t) = flat_limits.ghosts.size t
file_size (text.DeviceStats t) = device_stats.ghosts.size t
file_size (text.DeviceLimits t) = device_limits.ghosts.size t
file_size (text.DeviceWeights t) = device_weights.ghosts.size t
file_size (text.DeviceTargets t) = device_targets.ghosts.size t
file_size (text.DeviceParams t) = device_params.ghosts.size t
file_size (text.Set t) = set.ghosts.size t
file_size (text.Partition t) = partition.ghosts.size t
file_size (text.Pressure t) = pressure.ghosts.size t
file_size (text.Nested t) = nested.ghosts.size t
file_size (text.NodeStats t) = node_stats.ghosts.size t
file_size (text.Raw t) = raw.ghosts.size t

abbrev pub file_ends : AnyFile → Bool
file_ends (text.Number t) = number.ghosts.token.ends t
file_ends (text.Signed t) = signed.ghosts.token.ends t
file_ends (text.Limit t) = limit.ghosts.token.ends t
file_ends (text.Mode t) = mode.ghosts.token.ends t
file_ends (text.Class t) = class.ghosts.token.ends t
file_ends (text.CpuMax t) = cpu_max.ghosts.ends t
file_ends (text.Clamp t) = clamp.ghosts.token.ends t
file_ends (text.Numbers t) = numbers.ghosts.ends t
file_ends (text.Words t) = words.ghosts.ends t
file_ends (text.Flat t) = flat.ghosts.ends t
file_ends (text.FlatLimits t) = flat_limits.ghosts.ends t
file_ends (text.DeviceStats t) = device_stats.ghosts.ends t
file_ends (text.DeviceLimits t) = device_limits.ghosts.ends t
file_ends (text.DeviceWeights t) = device_weights.ghosts.ends t
file_ends (text.DeviceTargets t) = device_targets.ghosts.ends t
file_ends (text.DeviceParams t) = device_params.ghosts.ends t
file_ends (text.Set t) = set.ghosts.ends t
file_ends (text.Partition t) = partition.ghosts.ends t
file_ends (text.Pressure t) = pressure.ghosts.ends t
file_ends (text.Nested t) = nested.ghosts.ends t
file_ends (text.NodeStats t) = node_stats.ghosts.ends t
file_ends (text.Raw t) = raw.ghosts.ends t

-- The laws of the text of a file of any kind.
use Rattle.std.proofs.Common.{◌↔◌, IsTrue}
use Rattle.cg_text.specs.Token.{Completes, Ends, HasOneValue, HoldsBytes}
use Rattle.cg_file.specs.AnyFile.{file_ends, file_rests}
use Rattle.cg_file.specs.contracts.clamp.ToClampNamedTokenClampFile.TheImpl as clamp
use Rattle.cg_file.specs.contracts.class.ToClassNamedTokenClassFile.TheImpl as class
use Rattle.cg_file.specs.contracts.cpu_max.CpuMaxFileToken.TheImpl as cpu_max
use Rattle.cg_file.specs.contracts.device_limits.DeviceLimitsFileToken.TheImpl as device_limits
use Rattle.cg_file.specs.contracts.device_params.DeviceParamsFileToken.TheImpl as device_params
use Rattle.cg_file.specs.contracts.device_stats.DeviceStatsFileToken.TheImpl as device_stats
use Rattle.cg_file.specs.contracts.device_targets.DeviceTargetsFileToken.TheImpl as device_targets
use Rattle.cg_file.specs.contracts.device_weights.DeviceWeightsFileToken.TheImpl as device_weights
use Rattle.cg_file.specs.contracts.flat.FlatFileToken.TheImpl as flat
use Rattle.cg_file.specs.contracts.flat_limits.FlatLimitsFileToken.TheImpl as flat_limits
use Rattle.cg_file.specs.contracts.limit.ToLimitNamedTokenLimitFile.TheImpl as limit
use Rattle.cg_file.specs.contracts.mode.ToModeNamedTokenModeFile.TheImpl as mode
use Rattle.cg_file.specs.contracts.nested.NestedFileToken.TheImpl as nested
use Rattle.cg_file.specs.contracts.node_stats.NodeStatsFileToken.TheImpl as node_stats
use Rattle.cg_file.specs.contracts.number.ToNumberNamedTokenNumberFile.TheImpl as number
use Rattle.cg_file.specs.contracts.numbers.NumbersFileToken.TheImpl as numbers
use Rattle.cg_file.specs.contracts.partition.PartitionFileToken.TheImpl as partition
use Rattle.cg_file.specs.contracts.pressure.PressureFileToken.TheImpl as pressure
use Rattle.cg_file.specs.contracts.raw.RawFileToken.TheImpl as raw
use Rattle.cg_file.specs.contracts.set.SetFileToken.TheImpl as set
use Rattle.cg_file.specs.contracts.signed.ToSignedNamedTokenSignedFile.TheImpl as signed
use Rattle.cg_file.specs.contracts.words.WordsFileToken.TheImpl as words
use Rattle.cg_file.specs.declared.any_file.AnyFile.{AnyFile}
use Rattle.cg_file.specs.declared.any_file.AnyFile.TheVariants as text

pub file_completes : (s : AnyFile) → Completes file_rests s
file_completes (text.Number t) = number.ghosts.token.completes t
file_completes (text.Signed t) = signed.ghosts.token.completes t
file_completes (text.Limit t) = limit.ghosts.token.completes t
file_completes (text.Mode t) = mode.ghosts.token.completes t
file_completes (text.Class t) = class.ghosts.token.completes t
file_completes (text.CpuMax t) = cpu_max.ghosts.completes t
file_completes (text.Clamp t) = clamp.ghosts.token.completes t
file_completes (text.Numbers t) = numbers.ghosts.completes t
file_completes (text.Words t) = words.ghosts.completes t
file_completes (text.Flat t) = flat.ghosts.completes t
file_completes (text.FlatLimits t) = flat_limits.ghosts.completes t
file_completes (text.DeviceStats t) = device_stats.ghosts.completes t
file_completes (text.DeviceLimits t) = device_limits.ghosts.completes t
file_completes (text.DeviceWeights t) = device_weights.ghosts.completes t
file_completes (text.DeviceTargets t) = device_targets.ghosts.completes t
file_completes (text.DeviceParams t) = device_params.ghosts.completes t
file_completes (text.Set t) = set.ghosts.completes t
file_completes (text.Partition t) = partition.ghosts.completes t
file_completes (text.Pressure t) = pressure.ghosts.completes t
file_completes (text.Nested t) = nested.ghosts.completes t
file_completes (text.NodeStats t) = node_stats.ghosts.completes t
file_completes (text.Raw t) = raw.ghosts.completes t

pub file_ends_is : (s : AnyFile) → IsTrue (file_ends s) ↔ Ends file_rests s
file_ends_is (text.Number t) = number.ghosts.token.ends_is t
file_ends_is (text.Signed t) = signed.ghosts.token.ends_is t
file_ends_is (text.Limit t) = limit.ghosts.token.ends_is t
file_ends_is (text.Mode t) = mode.ghosts.token.ends_is t
file_ends_is (text.Class t) = class.ghosts.token.ends_is t
file_ends_is (text.CpuMax t) = cpu_max.ghosts.ends_is t
file_ends_is (text.Clamp t) = clamp.ghosts.token.ends_is t
file_ends_is (text.Numbers t) = numbers.ghosts.ends_is t
file_ends_is (text.Words t) = words.ghosts.ends_is t
file_ends_is (text.Flat t) = flat.ghosts.ends_is t
file_ends_is (text.FlatLimits t) = flat_limits.ghosts.ends_is t
file_ends_is (text.DeviceStats t) = device_stats.ghosts.ends_is t
file_ends_is (text.DeviceLimits t) = device_limits.ghosts.ends_is t
file_ends_is (text.DeviceWeights t) = device_weights.ghosts.ends_is t
file_ends_is (text.DeviceTargets t) = device_targets.ghosts.ends_is t
file_ends_is (text.DeviceParams t) = device_params.ghosts.ends_is t
file_ends_is (text.Set t) = set.ghosts.ends_is t
file_ends_is (text.Partition t) = partition.ghosts.ends_is t
file_ends_is (text.Pressure t) = pressure.ghosts.ends_is t
file_ends_is (text.Nested t) = nested.ghosts.ends_is t
file_ends_is (text.NodeStats t) = node_stats.ghosts.ends_is t
file_ends_is (text.Raw t) = raw.ghosts.ends_is t

pub file_one_value : (s : AnyFile) → HasOneValue file_rests s
file_one_value (text.Number t) = number.ghosts.token.one_value t
file_one_value (text.Signed t) = signed.ghosts.token.one_value t
file_one_value (text.Limit t) = limit.ghosts.token.one_value t
file_one_value (text.Mode t) = mode.ghosts.token.one_value t
file_one_value (text.Class t) = class.ghosts.token.one_value t
file_one_value (text.CpuMax t) = cpu_max.ghosts.one_value t
file_one_value (text.Clamp t) = clamp.ghosts.token.one_value t
file_one_value (text.Numbers t) = numbers.ghosts.one_value t
file_one_value (text.Words t) = words.ghosts.one_value t
file_one_value (text.Flat t) = flat.ghosts.one_value t
file_one_value (text.FlatLimits t) = flat_limits.ghosts.one_value t
file_one_value (text.DeviceStats t) = device_stats.ghosts.one_value t
file_one_value (text.DeviceLimits t) = device_limits.ghosts.one_value t
file_one_value (text.DeviceWeights t) = device_weights.ghosts.one_value t
file_one_value (text.DeviceTargets t) = device_targets.ghosts.one_value t
file_one_value (text.DeviceParams t) = device_params.ghosts.one_value t
file_one_value (text.Set t) = set.ghosts.one_value t
file_one_value (text.Partition t) = partition.ghosts.one_value t
file_one_value (text.Pressure t) = pressure.ghosts.one_value t
file_one_value (text.Nested t) = nested.ghosts.one_value t
file_one_value (text.NodeStats t) = node_stats.ghosts.one_value t
file_one_value (text.Raw t) = raw.ghosts.one_value t

pub file_holds_bytes : (s : AnyFile) → HoldsBytes file_rests s
file_holds_bytes (text.Number t) = number.ghosts.token.holds_bytes t
file_holds_bytes (text.Signed t) = signed.ghosts.token.holds_bytes t
file_holds_bytes (text.Limit t) = limit.ghosts.token.holds_bytes t
file_holds_bytes (text.Mode t) = mode.ghosts.token.holds_bytes t
file_holds_bytes (text.Class t) = class.ghosts.token.holds_bytes t
file_holds_bytes (text.CpuMax t) = cpu_max.ghosts.holds_bytes t
file_holds_bytes (text.Clamp t) = clamp.ghosts.token.holds_bytes t
file_holds_bytes (text.Numbers t) = numbers.ghosts.holds_bytes t
file_holds_bytes (text.Words t) = words.ghosts.holds_bytes t
file_holds_bytes (text.Flat t) = flat.ghosts.holds_bytes t
file_holds_bytes (text.FlatLimits t) = flat_limits.ghosts.holds_bytes t
file_holds_bytes (text.DeviceStats t) = device_stats.ghosts.holds_bytes t
file_holds_bytes (text.DeviceLimits t) = device_limits.ghosts.holds_bytes t
file_holds_bytes (text.DeviceWeights t) = device_weights.ghosts.holds_bytes t
file_holds_bytes (text.DeviceTargets t) = device_targets.ghosts.holds_bytes t
file_holds_bytes (text.DeviceParams t) = device_params.ghosts.holds_bytes t
file_holds_bytes (text.Set t) = set.ghosts.holds_bytes t
file_holds_bytes (text.Partition t) = partition.ghosts.holds_bytes t
file_holds_bytes (text.Pressure t) = pressure.ghosts.holds_bytes t
file_holds_bytes (text.Nested t) = nested.ghosts.holds_bytes t
file_holds_bytes (text.NodeStats t) = node_stats.ghosts.holds_bytes t
file_holds_bytes (text.Raw t) = raw.ghosts.holds_bytes t

-- What a write of any kind has left to take, how much it holds, and whether nothing need follow.
use Rattle.std.specs.Prelude.{ℕ, Bool, List}
use Rattle.cg_value.specs.declared.setting.Setting.{Setting}
use Rattle.cg_write.specs.contracts.clamp.ToClampNamedTokenClampWrite.TheImpl as clamp
use Rattle.cg_write.specs.contracts.class.ToClassNamedTokenClassWrite.TheImpl as class
use Rattle.cg_write.specs.contracts.controllers.ControllersWriteToken.TheImpl as controllers
use Rattle.cg_write.specs.contracts.cpu_max.CpuMaxWriteToken.TheImpl as cpu_max
use Rattle.cg_write.specs.contracts.device_limits.DeviceLimitsWriteToken.TheImpl as device_limits
use Rattle.cg_write.specs.contracts.device_target.DeviceTargetWriteToken.TheImpl as device_target
use Rattle.cg_write.specs.contracts.device_weight.DeviceWeightWriteToken.TheImpl as device_weight
use Rattle.cg_write.specs.contracts.limit.ToLimitNamedTokenLimitWrite.TheImpl as limit
use Rattle.cg_write.specs.contracts.mode.ToModeNamedTokenModeWrite.TheImpl as mode
use Rattle.cg_write.specs.contracts.number.ToNumberNamedTokenNumberWrite.TheImpl as number
use Rattle.cg_write.specs.contracts.raw.RawWriteToken.TheImpl as raw
use Rattle.cg_write.specs.contracts.reclaim.ReclaimWriteToken.TheImpl as reclaim
use Rattle.cg_write.specs.contracts.role.RoleWriteToken.TheImpl as role
use Rattle.cg_write.specs.contracts.set.SetWriteToken.TheImpl as set
use Rattle.cg_write.specs.contracts.signed.ToSignedNamedTokenSignedWrite.TheImpl as signed
use Rattle.cg_write.specs.contracts.size_limit.SizeLimitWriteToken.TheImpl as size_limit
use Rattle.cg_write.specs.contracts.trigger.TriggerWriteToken.TheImpl as trigger
use Rattle.cg_write.specs.declared.any_write.AnyWrite.{AnyWrite}
use Rattle.cg_write.specs.declared.any_write.AnyWrite.TheVariants as text

abbrev pub write_rests : AnyWrite → List ℕ → Setting → Type 0
write_rests (text.Number t) = number.ghosts.token.means t
write_rests (text.Signed t) = signed.ghosts.token.means t
write_rests (text.Limit t) = limit.ghosts.token.means t
write_rests (text.SizeLimit t) = size_limit.ghosts.means t
write_rests (text.Clamp t) = clamp.ghosts.token.means t
write_rests (text.Mode t) = mode.ghosts.token.means t
write_rests (text.Controllers t) = controllers.ghosts.means t
write_rests (text.CpuMax t) = cpu_max.ghosts.means t
write_rests (text.Reclaim t) = reclaim.ghosts.means t
write_rests (text.DeviceLimits t) = device_limits.ghosts.means t
write_rests (text.DeviceWeight t) = device_weight.ghosts.means t
write_rests (text.DeviceTarget t) = device_target.ghosts.means t
write_rests (text.Set t) = set.ghosts.means t
write_rests (text.Role t) = role.ghosts.means t
write_rests (text.Class t) = class.ghosts.token.means t
write_rests (text.Trigger t) = trigger.ghosts.means t
write_rests (text.Raw t) = raw.ghosts.means t

abbrev pub write_size : AnyWrite → ℕ
write_size (text.Number t) = number.ghosts.token.size t
write_size (text.Signed t) = signed.ghosts.token.size t
write_size (text.Limit t) = limit.ghosts.token.size t
write_size (text.SizeLimit t) = size_limit.ghosts.size t
write_size (text.Clamp t) = clamp.ghosts.token.size t
write_size (text.Mode t) = mode.ghosts.token.size t
write_size (text.Controllers t) = controllers.ghosts.size t
write_size (text.CpuMax t) = cpu_max.ghosts.size t
write_size (text.Reclaim t) = reclaim.ghosts.size t
write_size (text.DeviceLimits t) = device_limits.ghosts.size t
write_size (text.DeviceWeight t) = device_weight.ghosts.size t
write_size (text.DeviceTarget t) = device_target.ghosts.size t
write_size (text.Set t) = set.ghosts.size t
write_size (text.Role t) = role.ghosts.size t
write_size (text.Class t) = class.ghosts.token.size t
write_size (text.Trigger t) = trigger.ghosts.size t
write_size (text.Raw t) = raw.ghosts.size t

abbrev pub write_ends : AnyWrite → Bool
write_ends (text.Number t) = number.ghosts.token.ends t
write_ends (text.Signed t) = signed.ghosts.token.ends t
write_ends (text.Limit t) = limit.ghosts.token.ends t
write_ends (text.SizeLimit t) = size_limit.ghosts.ends t
write_ends (text.Clamp t) = clamp.ghosts.token.ends t
write_ends (text.Mode t) = mode.ghosts.token.ends t
write_ends (text.Controllers t) = controllers.ghosts.ends t
write_ends (text.CpuMax t) = cpu_max.ghosts.ends t
write_ends (text.Reclaim t) = reclaim.ghosts.ends t
write_ends (text.DeviceLimits t) = device_limits.ghosts.ends t
write_ends (text.DeviceWeight t) = device_weight.ghosts.ends t
write_ends (text.DeviceTarget t) = device_target.ghosts.ends t
write_ends (text.Set t) = set.ghosts.ends t
write_ends (text.Role t) = role.ghosts.ends t
write_ends (text.Class t) = class.ghosts.token.ends t
write_ends (text.Trigger t) = trigger.ghosts.ends t
write_ends (text.Raw t) = raw.ghosts.ends t

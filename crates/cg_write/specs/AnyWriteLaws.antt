-- The laws of the text of a write of any kind.
use Rattle.std.proofs.Common.{◌↔◌, IsTrue}
use Rattle.cg_text.specs.Token.{Completes, Ends, HasOneValue, HoldsBytes}
use Rattle.cg_write.specs.AnyWrite.{write_ends, write_rests}
use Rattle.cg_write.specs.contracts.clamp.ToClampNamedTokenClampWrite.TheImpl as clamp
use Rattle.cg_write.specs.contracts.class.ToClassNamedTokenClassWrite.TheImpl as class
use Rattle.cg_write.specs.contracts.controllers.ControllersWriteToken.TheImpl as controllers
use Rattle.cg_write.specs.contracts.cpu_max.CpuMaxWriteToken.TheImpl as cpu_max
use Rattle.cg_write.specs.contracts.device_limits.DeviceLimitsWriteToken.TheImpl as device_limits
use Rattle.cg_write.specs.contracts.device_target.DeviceTargetWriteToken.TheImpl as device_target
use Rattle.cg_write.specs.contracts.device_weight.DeviceWeightWriteToken.TheImpl as device_weight
use Rattle.cg_write.specs.contracts.limit.ToLimitNamedTokenLimitWrite.TheImpl as limit
use Rattle.cg_write.specs.contracts.mode.ToModeNamedTokenModeWrite.TheImpl as mode
use Rattle.cg_write.specs.contracts.number.ToNumberNamedTokenNumberWrite.TheImpl as number
use Rattle.cg_write.specs.contracts.raw.RawWriteToken.TheImpl as raw
use Rattle.cg_write.specs.contracts.reclaim.ReclaimWriteToken.TheImpl as reclaim
use Rattle.cg_write.specs.contracts.role.RoleWriteToken.TheImpl as role
use Rattle.cg_write.specs.contracts.set.SetWriteToken.TheImpl as set
use Rattle.cg_write.specs.contracts.signed.ToSignedNamedTokenSignedWrite.TheImpl as signed
use Rattle.cg_write.specs.contracts.size_limit.SizeLimitWriteToken.TheImpl as size_limit
use Rattle.cg_write.specs.contracts.trigger.TriggerWriteToken.TheImpl as trigger
use Rattle.cg_write.specs.declared.any_write.AnyWrite.{AnyWrite}
use Rattle.cg_write.specs.declared.any_write.AnyWrite.TheVariants as text

pub write_completes : (s : AnyWrite) → Completes write_rests s
write_completes (text.Number t) = number.ghosts.token.completes t
write_completes (text.Signed t) = signed.ghosts.token.completes t
write_completes (text.Limit t) = limit.ghosts.token.completes t
write_completes (text.SizeLimit t) = size_limit.ghosts.completes t
write_completes (text.Clamp t) = clamp.ghosts.token.completes t
write_completes (text.Mode t) = mode.ghosts.token.completes t
write_completes (text.Controllers t) = controllers.ghosts.completes t
write_completes (text.CpuMax t) = cpu_max.ghosts.completes t
write_completes (text.Reclaim t) = reclaim.ghosts.completes t
write_completes (text.DeviceLimits t) = device_limits.ghosts.completes t
write_completes (text.DeviceWeight t) = device_weight.ghosts.completes t
write_completes (text.DeviceTarget t) = device_target.ghosts.completes t
write_completes (text.Set t) = set.ghosts.completes t
write_completes (text.Role t) = role.ghosts.completes t
write_completes (text.Class t) = class.ghosts.token.completes t
write_completes (text.Trigger t) = trigger.ghosts.completes t
write_completes (text.Raw t) = raw.ghosts.completes t

pub write_ends_is : (s : AnyWrite) → IsTrue (write_ends s) ↔ Ends write_rests s
write_ends_is (text.Number t) = number.ghosts.token.ends_is t
write_ends_is (text.Signed t) = signed.ghosts.token.ends_is t
write_ends_is (text.Limit t) = limit.ghosts.token.ends_is t
write_ends_is (text.SizeLimit t) = size_limit.ghosts.ends_is t
write_ends_is (text.Clamp t) = clamp.ghosts.token.ends_is t
write_ends_is (text.Mode t) = mode.ghosts.token.ends_is t
write_ends_is (text.Controllers t) = controllers.ghosts.ends_is t
write_ends_is (text.CpuMax t) = cpu_max.ghosts.ends_is t
write_ends_is (text.Reclaim t) = reclaim.ghosts.ends_is t
write_ends_is (text.DeviceLimits t) = device_limits.ghosts.ends_is t
write_ends_is (text.DeviceWeight t) = device_weight.ghosts.ends_is t
write_ends_is (text.DeviceTarget t) = device_target.ghosts.ends_is t
write_ends_is (text.Set t) = set.ghosts.ends_is t
write_ends_is (text.Role t) = role.ghosts.ends_is t
write_ends_is (text.Class t) = class.ghosts.token.ends_is t
write_ends_is (text.Trigger t) = trigger.ghosts.ends_is t
write_ends_is (text.Raw t) = raw.ghosts.ends_is t

pub write_one_value : (s : AnyWrite) → HasOneValue write_rests s
write_one_value (text.Number t) = number.ghosts.token.one_value t
write_one_value (text.Signed t) = signed.ghosts.token.one_value t
write_one_value (text.Limit t) = limit.ghosts.token.one_value t
write_one_value (text.SizeLimit t) = size_limit.ghosts.one_value t
write_one_value (text.Clamp t) = clamp.ghosts.token.one_value t
write_one_value (text.Mode t) = mode.ghosts.token.one_value t
write_one_value (text.Controllers t) = controllers.ghosts.one_value t
write_one_value (text.CpuMax t) = cpu_max.ghosts.one_value t
write_one_value (text.Reclaim t) = reclaim.ghosts.one_value t
write_one_value (text.DeviceLimits t) = device_limits.ghosts.one_value t
write_one_value (text.DeviceWeight t) = device_weight.ghosts.one_value t
write_one_value (text.DeviceTarget t) = device_target.ghosts.one_value t
write_one_value (text.Set t) = set.ghosts.one_value t
write_one_value (text.Role t) = role.ghosts.one_value t
write_one_value (text.Class t) = class.ghosts.token.one_value t
write_one_value (text.Trigger t) = trigger.ghosts.one_value t
write_one_value (text.Raw t) = raw.ghosts.one_value t

pub write_holds_bytes : (s : AnyWrite) → HoldsBytes write_rests s
write_holds_bytes (text.Number t) = number.ghosts.token.holds_bytes t
write_holds_bytes (text.Signed t) = signed.ghosts.token.holds_bytes t
write_holds_bytes (text.Limit t) = limit.ghosts.token.holds_bytes t
write_holds_bytes (text.SizeLimit t) = size_limit.ghosts.holds_bytes t
write_holds_bytes (text.Clamp t) = clamp.ghosts.token.holds_bytes t
write_holds_bytes (text.Mode t) = mode.ghosts.token.holds_bytes t
write_holds_bytes (text.Controllers t) = controllers.ghosts.holds_bytes t
write_holds_bytes (text.CpuMax t) = cpu_max.ghosts.holds_bytes t
write_holds_bytes (text.Reclaim t) = reclaim.ghosts.holds_bytes t
write_holds_bytes (text.DeviceLimits t) = device_limits.ghosts.holds_bytes t
write_holds_bytes (text.DeviceWeight t) = device_weight.ghosts.holds_bytes t
write_holds_bytes (text.DeviceTarget t) = device_target.ghosts.holds_bytes t
write_holds_bytes (text.Set t) = set.ghosts.holds_bytes t
write_holds_bytes (text.Role t) = role.ghosts.holds_bytes t
write_holds_bytes (text.Class t) = class.ghosts.token.holds_bytes t
write_holds_bytes (text.Trigger t) = trigger.ghosts.holds_bytes t
write_holds_bytes (text.Raw t) = raw.ghosts.holds_bytes t

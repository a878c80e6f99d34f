use Rattle.std.proofs.Common.{arith, FitsSigned, to_z-of_z, w64}
use Rattle.cg_write.specs.contracts.signed.ToSignedNamedTokenSignedWrite.TheImpl.{ghosts}
use Rattle.cg_write.proofs.Values.{spelled_value}
use Rattle.cg_write.proofs.any_write.setting_of.Goals as goal

pub returns-in-Number : goal.returns-in-Number
returns-in-Number c = rw c.in-Number.is (spelled_value _ _ _ _ _ c.number_write.ensures.spells c.value_of.ensures)

pub returns-in-Signed : goal.returns-in-Signed
returns-in-Signed c =
    let bounds = rw c.in-Signed.is at c.requires in
    let low : FitsSigned w64 c.in-Signed.lo = omega (arith, bounds.0) in
    let high : FitsSigned w64 c.in-Signed.hi = omega (arith, bounds.1) in
    let whole = simp to_z-of_z at c.signed_write.ensures.spells in
    rw c.in-Signed.is (spelled_value ghosts.token.means c.signed_write.result _ _ _ (record { is = whole.is }) c.value_of-in-Signed.ensures)

pub returns-in-Limit : goal.returns-in-Limit
returns-in-Limit c = rw c.in-Limit.is (spelled_value _ _ _ _ _ c.limit_write.ensures.spells c.value_of-in-Limit.ensures)

pub returns-in-SizeLimit : goal.returns-in-SizeLimit
returns-in-SizeLimit c = rw c.in-SizeLimit.is (spelled_value _ _ _ _ _ c.new.ensures.spells c.value_of-in-SizeLimit.ensures)

pub returns-in-Clamp : goal.returns-in-Clamp
returns-in-Clamp c = rw c.in-Clamp.is (spelled_value _ _ _ _ _ c.clamp_write.ensures.spells c.value_of-in-Clamp.ensures)

pub returns-in-Mode : goal.returns-in-Mode
returns-in-Mode c = rw c.in-Mode.is (spelled_value _ _ _ _ _ c.mode_write.ensures.spells c.value_of-in-Mode.ensures)

pub returns-in-Controllers : goal.returns-in-Controllers
returns-in-Controllers c = rw c.in-Controllers.is (spelled_value _ _ _ _ _ c.new-in-Controllers.ensures.spells c.value_of-in-Controllers.ensures)

pub returns-in-CpuMax : goal.returns-in-CpuMax
returns-in-CpuMax c = rw c.in-CpuMax.is (spelled_value _ _ _ _ _ c.new-in-CpuMax.ensures.spells c.value_of-in-CpuMax.ensures)

pub returns-in-Reclaim : goal.returns-in-Reclaim
returns-in-Reclaim c = rw c.in-Reclaim.is (spelled_value _ _ _ _ _ c.new-in-Reclaim.ensures.spells c.value_of-in-Reclaim.ensures)

pub returns-in-DeviceLimits : goal.returns-in-DeviceLimits
returns-in-DeviceLimits c = rw c.in-DeviceLimits.is (spelled_value _ _ _ _ _ c.new-in-DeviceLimits.ensures.spells c.value_of-in-DeviceLimits.ensures)

pub returns-in-DeviceWeight : goal.returns-in-DeviceWeight
returns-in-DeviceWeight c = rw c.in-DeviceWeight.is (spelled_value _ _ _ _ _ c.new-in-DeviceWeight.ensures.spells c.value_of-in-DeviceWeight.ensures)

pub returns-in-DeviceTarget : goal.returns-in-DeviceTarget
returns-in-DeviceTarget c = rw c.in-DeviceTarget.is (spelled_value _ _ _ _ _ c.new-in-DeviceTarget.ensures.spells c.value_of-in-DeviceTarget.ensures)

pub returns-in-Set : goal.returns-in-Set
returns-in-Set c = rw c.in-Set.is (spelled_value _ _ _ _ _ c.new-in-Set.ensures.spells c.value_of-in-Set.ensures)

pub returns-in-Role : goal.returns-in-Role
returns-in-Role c = rw c.in-Role.is (spelled_value _ _ _ _ _ c.new-in-Role.ensures.spells c.value_of-in-Role.ensures)

pub returns-in-Class : goal.returns-in-Class
returns-in-Class c = rw c.in-Class.is (spelled_value _ _ _ _ _ c.class_write.ensures.spells c.value_of-in-Class.ensures)

pub returns-in-Trigger : goal.returns-in-Trigger
returns-in-Trigger c = rw c.in-Trigger.is (spelled_value _ _ _ _ _ c.new-in-Trigger.ensures.spells c.value_of-in-Trigger.ensures)

pub returns-in-Raw : goal.returns-in-Raw
returns-in-Raw c = rw c.in-Raw.is (spelled_value _ _ _ _ _ c.new-in-Raw.ensures.spells c.value_of-in-Raw.ensures)

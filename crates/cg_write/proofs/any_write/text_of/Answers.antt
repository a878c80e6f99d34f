use Rattle.std.proofs.Common.{arith, FitsSigned, to_z-of_z, w64}
use Rattle.cg_write.proofs.any_write.text_of.Goals as goal

pub returns-in-Number-clause-spells : goal.returns-in-Number-clause-spells
returns-in-Number-clause-spells c = rw c.in-Number.is (let whole = c.number_write.ensures.spells in record { is = whole.is })

pub returns-in-Signed-clause-spells : goal.returns-in-Signed-clause-spells
returns-in-Signed-clause-spells c =
    let bounds = rw c.in-Signed.is at c.requires in
    let low : FitsSigned w64 c.in-Signed.lo = omega (arith, bounds.0) in
    let high : FitsSigned w64 c.in-Signed.hi = omega (arith, bounds.1) in
    let whole = simp to_z-of_z at c.signed_write.ensures.spells in
    rw c.in-Signed.is (record { is = whole.is })

pub returns-in-Limit-clause-spells : goal.returns-in-Limit-clause-spells
returns-in-Limit-clause-spells c = rw c.in-Limit.is (let whole = c.limit_write.ensures.spells in record { is = whole.is })

pub returns-in-SizeLimit-clause-spells : goal.returns-in-SizeLimit-clause-spells
returns-in-SizeLimit-clause-spells c = rw c.in-SizeLimit.is (let whole = c.new.ensures.spells in record { is = whole.is })

pub returns-in-Clamp-clause-spells : goal.returns-in-Clamp-clause-spells
returns-in-Clamp-clause-spells c = rw c.in-Clamp.is (let whole = c.clamp_write.ensures.spells in record { is = whole.is })

pub returns-in-Mode-clause-spells : goal.returns-in-Mode-clause-spells
returns-in-Mode-clause-spells c = rw c.in-Mode.is (let whole = c.mode_write.ensures.spells in record { is = whole.is })

pub returns-in-Controllers-clause-spells : goal.returns-in-Controllers-clause-spells
returns-in-Controllers-clause-spells c = rw c.in-Controllers.is (let whole = c.new-in-Controllers.ensures.spells in record { is = whole.is })

pub returns-in-CpuMax-clause-spells : goal.returns-in-CpuMax-clause-spells
returns-in-CpuMax-clause-spells c = rw c.in-CpuMax.is (let whole = c.new-in-CpuMax.ensures.spells in record { is = whole.is })

pub returns-in-Reclaim-clause-spells : goal.returns-in-Reclaim-clause-spells
returns-in-Reclaim-clause-spells c = rw c.in-Reclaim.is (let whole = c.new-in-Reclaim.ensures.spells in record { is = whole.is })

pub returns-in-DeviceLimits-clause-spells : goal.returns-in-DeviceLimits-clause-spells
returns-in-DeviceLimits-clause-spells c = rw c.in-DeviceLimits.is (let whole = c.new-in-DeviceLimits.ensures.spells in record { is = whole.is })

pub returns-in-DeviceWeight-clause-spells : goal.returns-in-DeviceWeight-clause-spells
returns-in-DeviceWeight-clause-spells c = rw c.in-DeviceWeight.is (let whole = c.new-in-DeviceWeight.ensures.spells in record { is = whole.is })

pub returns-in-DeviceTarget-clause-spells : goal.returns-in-DeviceTarget-clause-spells
returns-in-DeviceTarget-clause-spells c = rw c.in-DeviceTarget.is (let whole = c.new-in-DeviceTarget.ensures.spells in record { is = whole.is })

pub returns-in-Set-clause-spells : goal.returns-in-Set-clause-spells
returns-in-Set-clause-spells c = rw c.in-Set.is (let whole = c.new-in-Set.ensures.spells in record { is = whole.is })

pub returns-in-Role-clause-spells : goal.returns-in-Role-clause-spells
returns-in-Role-clause-spells c = rw c.in-Role.is (let whole = c.new-in-Role.ensures.spells in record { is = whole.is })

pub returns-in-Class-clause-spells : goal.returns-in-Class-clause-spells
returns-in-Class-clause-spells c = rw c.in-Class.is (let whole = c.class_write.ensures.spells in record { is = whole.is })

pub returns-in-Trigger-clause-spells : goal.returns-in-Trigger-clause-spells
returns-in-Trigger-clause-spells c = rw c.in-Trigger.is (let whole = c.new-in-Trigger.ensures.spells in record { is = whole.is })

pub returns-in-Raw-clause-spells : goal.returns-in-Raw-clause-spells
returns-in-Raw-clause-spells c = rw c.in-Raw.is (let whole = c.new-in-Raw.ensures.spells in record { is = whole.is })

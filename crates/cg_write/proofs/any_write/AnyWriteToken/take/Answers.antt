use Rattle.cg_write.proofs.any_write.AnyWriteToken.take.Goals as goal

pub returns-in-Number-clause-value : goal.returns-in-Number-clause-value
returns-in-Number-clause-value c = rw c.in-Number.is c.take.ensures.value

pub returns-in-Number-clause-value_size : goal.returns-in-Number-clause-value_size
returns-in-Number-clause-value_size c = rw c.in-Number.is c.take.ensures.value_size

pub returns-in-Signed-clause-value : goal.returns-in-Signed-clause-value
returns-in-Signed-clause-value c = rw c.in-Signed.is c.take-in-Signed.ensures.value

pub returns-in-Signed-clause-value_size : goal.returns-in-Signed-clause-value_size
returns-in-Signed-clause-value_size c = rw c.in-Signed.is c.take-in-Signed.ensures.value_size

pub returns-in-Limit-clause-value : goal.returns-in-Limit-clause-value
returns-in-Limit-clause-value c = rw c.in-Limit.is c.take-in-Limit.ensures.value

pub returns-in-Limit-clause-value_size : goal.returns-in-Limit-clause-value_size
returns-in-Limit-clause-value_size c = rw c.in-Limit.is c.take-in-Limit.ensures.value_size

pub returns-in-SizeLimit-clause-value : goal.returns-in-SizeLimit-clause-value
returns-in-SizeLimit-clause-value c = rw c.in-SizeLimit.is c.take-in-SizeLimit.ensures.value

pub returns-in-SizeLimit-clause-value_size : goal.returns-in-SizeLimit-clause-value_size
returns-in-SizeLimit-clause-value_size c = rw c.in-SizeLimit.is c.take-in-SizeLimit.ensures.value_size

pub returns-in-Clamp-clause-value : goal.returns-in-Clamp-clause-value
returns-in-Clamp-clause-value c = rw c.in-Clamp.is c.take-in-Clamp.ensures.value

pub returns-in-Clamp-clause-value_size : goal.returns-in-Clamp-clause-value_size
returns-in-Clamp-clause-value_size c = rw c.in-Clamp.is c.take-in-Clamp.ensures.value_size

pub returns-in-Mode-clause-value : goal.returns-in-Mode-clause-value
returns-in-Mode-clause-value c = rw c.in-Mode.is c.take-in-Mode.ensures.value

pub returns-in-Mode-clause-value_size : goal.returns-in-Mode-clause-value_size
returns-in-Mode-clause-value_size c = rw c.in-Mode.is c.take-in-Mode.ensures.value_size

pub returns-in-Controllers-clause-value : goal.returns-in-Controllers-clause-value
returns-in-Controllers-clause-value c = rw c.in-Controllers.is c.take-in-Controllers.ensures.value

pub returns-in-Controllers-clause-value_size : goal.returns-in-Controllers-clause-value_size
returns-in-Controllers-clause-value_size c = rw c.in-Controllers.is c.take-in-Controllers.ensures.value_size

pub returns-in-CpuMax-clause-value : goal.returns-in-CpuMax-clause-value
returns-in-CpuMax-clause-value c = rw c.in-CpuMax.is c.take-in-CpuMax.ensures.value

pub returns-in-CpuMax-clause-value_size : goal.returns-in-CpuMax-clause-value_size
returns-in-CpuMax-clause-value_size c = rw c.in-CpuMax.is c.take-in-CpuMax.ensures.value_size

pub returns-in-Reclaim-clause-value : goal.returns-in-Reclaim-clause-value
returns-in-Reclaim-clause-value c = rw c.in-Reclaim.is c.take-in-Reclaim.ensures.value

pub returns-in-Reclaim-clause-value_size : goal.returns-in-Reclaim-clause-value_size
returns-in-Reclaim-clause-value_size c = rw c.in-Reclaim.is c.take-in-Reclaim.ensures.value_size

pub returns-in-DeviceLimits-clause-value : goal.returns-in-DeviceLimits-clause-value
returns-in-DeviceLimits-clause-value c = rw c.in-DeviceLimits.is c.take-in-DeviceLimits.ensures.value

pub returns-in-DeviceLimits-clause-value_size : goal.returns-in-DeviceLimits-clause-value_size
returns-in-DeviceLimits-clause-value_size c = rw c.in-DeviceLimits.is c.take-in-DeviceLimits.ensures.value_size

pub returns-in-DeviceWeight-clause-value : goal.returns-in-DeviceWeight-clause-value
returns-in-DeviceWeight-clause-value c = rw c.in-DeviceWeight.is c.take-in-DeviceWeight.ensures.value

pub returns-in-DeviceWeight-clause-value_size : goal.returns-in-DeviceWeight-clause-value_size
returns-in-DeviceWeight-clause-value_size c = rw c.in-DeviceWeight.is c.take-in-DeviceWeight.ensures.value_size

pub returns-in-DeviceTarget-clause-value : goal.returns-in-DeviceTarget-clause-value
returns-in-DeviceTarget-clause-value c = rw c.in-DeviceTarget.is c.take-in-DeviceTarget.ensures.value

pub returns-in-DeviceTarget-clause-value_size : goal.returns-in-DeviceTarget-clause-value_size
returns-in-DeviceTarget-clause-value_size c = rw c.in-DeviceTarget.is c.take-in-DeviceTarget.ensures.value_size

pub returns-in-Set-clause-value : goal.returns-in-Set-clause-value
returns-in-Set-clause-value c = rw c.in-Set.is c.take-in-Set.ensures.value

pub returns-in-Set-clause-value_size : goal.returns-in-Set-clause-value_size
returns-in-Set-clause-value_size c = rw c.in-Set.is c.take-in-Set.ensures.value_size

pub returns-in-Role-clause-value : goal.returns-in-Role-clause-value
returns-in-Role-clause-value c = rw c.in-Role.is c.take-in-Role.ensures.value

pub returns-in-Class-clause-value : goal.returns-in-Class-clause-value
returns-in-Class-clause-value c = rw c.in-Class.is c.take-in-Class.ensures.value

pub returns-in-Role-clause-value_size : goal.returns-in-Role-clause-value_size
returns-in-Role-clause-value_size c = rw c.in-Role.is c.take-in-Role.ensures.value_size

pub returns-in-Class-clause-value_size : goal.returns-in-Class-clause-value_size
returns-in-Class-clause-value_size c = rw c.in-Class.is c.take-in-Class.ensures.value_size

pub returns-in-Trigger-clause-value : goal.returns-in-Trigger-clause-value
returns-in-Trigger-clause-value c = rw c.in-Trigger.is c.take-in-Trigger.ensures.value

pub returns-in-Trigger-clause-value_size : goal.returns-in-Trigger-clause-value_size
returns-in-Trigger-clause-value_size c = rw c.in-Trigger.is c.take-in-Trigger.ensures.value_size

pub returns-in-Raw-clause-value : goal.returns-in-Raw-clause-value
returns-in-Raw-clause-value c = rw c.in-Raw.is c.take-in-Raw.ensures.value

pub returns-in-Raw-clause-value_size : goal.returns-in-Raw-clause-value_size
returns-in-Raw-clause-value_size c = rw c.in-Raw.is c.take-in-Raw.ensures.value_size

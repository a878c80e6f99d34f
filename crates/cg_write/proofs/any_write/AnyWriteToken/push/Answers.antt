use Rattle.cg_write.proofs.any_write.AnyWriteToken.push.Goals as goal

pub returns-in-Number-clause-follows : goal.returns-in-Number-clause-follows
returns-in-Number-clause-follows c = rw c.in-Number.is c.push.ensures.follows

pub returns-in-Number-clause-size : goal.returns-in-Number-clause-size
returns-in-Number-clause-size c = rw c.in-Number.is c.push.ensures.size

pub returns-in-Number-clause-same_size : goal.returns-in-Number-clause-same_size
returns-in-Number-clause-same_size c = rw c.in-Number.is c.push.ensures.same_size

pub returns-in-Signed-clause-follows : goal.returns-in-Signed-clause-follows
returns-in-Signed-clause-follows c = rw c.in-Signed.is c.push-in-Signed.ensures.follows

pub returns-in-Signed-clause-size : goal.returns-in-Signed-clause-size
returns-in-Signed-clause-size c = rw c.in-Signed.is c.push-in-Signed.ensures.size

pub returns-in-Signed-clause-same_size : goal.returns-in-Signed-clause-same_size
returns-in-Signed-clause-same_size c = rw c.in-Signed.is c.push-in-Signed.ensures.same_size

pub returns-in-Limit-clause-follows : goal.returns-in-Limit-clause-follows
returns-in-Limit-clause-follows c = rw c.in-Limit.is c.push-in-Limit.ensures.follows

pub returns-in-Limit-clause-size : goal.returns-in-Limit-clause-size
returns-in-Limit-clause-size c = rw c.in-Limit.is c.push-in-Limit.ensures.size

pub returns-in-Limit-clause-same_size : goal.returns-in-Limit-clause-same_size
returns-in-Limit-clause-same_size c = rw c.in-Limit.is c.push-in-Limit.ensures.same_size

pub returns-in-SizeLimit-clause-follows : goal.returns-in-SizeLimit-clause-follows
returns-in-SizeLimit-clause-follows c = rw c.in-SizeLimit.is c.push-in-SizeLimit.ensures.follows

pub returns-in-SizeLimit-clause-size : goal.returns-in-SizeLimit-clause-size
returns-in-SizeLimit-clause-size c = rw c.in-SizeLimit.is c.push-in-SizeLimit.ensures.size

pub returns-in-SizeLimit-clause-same_size : goal.returns-in-SizeLimit-clause-same_size
returns-in-SizeLimit-clause-same_size c = rw c.in-SizeLimit.is c.push-in-SizeLimit.ensures.same_size

pub returns-in-Clamp-clause-follows : goal.returns-in-Clamp-clause-follows
returns-in-Clamp-clause-follows c = rw c.in-Clamp.is c.push-in-Clamp.ensures.follows

pub returns-in-Clamp-clause-size : goal.returns-in-Clamp-clause-size
returns-in-Clamp-clause-size c = rw c.in-Clamp.is c.push-in-Clamp.ensures.size

pub returns-in-Clamp-clause-same_size : goal.returns-in-Clamp-clause-same_size
returns-in-Clamp-clause-same_size c = rw c.in-Clamp.is c.push-in-Clamp.ensures.same_size

pub returns-in-Mode-clause-follows : goal.returns-in-Mode-clause-follows
returns-in-Mode-clause-follows c = rw c.in-Mode.is c.push-in-Mode.ensures.follows

pub returns-in-Mode-clause-size : goal.returns-in-Mode-clause-size
returns-in-Mode-clause-size c = rw c.in-Mode.is c.push-in-Mode.ensures.size

pub returns-in-Mode-clause-same_size : goal.returns-in-Mode-clause-same_size
returns-in-Mode-clause-same_size c = rw c.in-Mode.is c.push-in-Mode.ensures.same_size

pub returns-in-Controllers-clause-follows : goal.returns-in-Controllers-clause-follows
returns-in-Controllers-clause-follows c = rw c.in-Controllers.is c.push-in-Controllers.ensures.follows

pub returns-in-Controllers-clause-size : goal.returns-in-Controllers-clause-size
returns-in-Controllers-clause-size c = rw c.in-Controllers.is c.push-in-Controllers.ensures.size

pub returns-in-Controllers-clause-same_size : goal.returns-in-Controllers-clause-same_size
returns-in-Controllers-clause-same_size c = rw c.in-Controllers.is c.push-in-Controllers.ensures.same_size

pub returns-in-CpuMax-clause-follows : goal.returns-in-CpuMax-clause-follows
returns-in-CpuMax-clause-follows c = rw c.in-CpuMax.is c.push-in-CpuMax.ensures.follows

pub returns-in-CpuMax-clause-size : goal.returns-in-CpuMax-clause-size
returns-in-CpuMax-clause-size c = rw c.in-CpuMax.is c.push-in-CpuMax.ensures.size

pub returns-in-CpuMax-clause-same_size : goal.returns-in-CpuMax-clause-same_size
returns-in-CpuMax-clause-same_size c = rw c.in-CpuMax.is c.push-in-CpuMax.ensures.same_size

pub returns-in-Reclaim-clause-follows : goal.returns-in-Reclaim-clause-follows
returns-in-Reclaim-clause-follows c = rw c.in-Reclaim.is c.push-in-Reclaim.ensures.follows

pub returns-in-Reclaim-clause-size : goal.returns-in-Reclaim-clause-size
returns-in-Reclaim-clause-size c = rw c.in-Reclaim.is c.push-in-Reclaim.ensures.size

pub returns-in-Reclaim-clause-same_size : goal.returns-in-Reclaim-clause-same_size
returns-in-Reclaim-clause-same_size c = rw c.in-Reclaim.is c.push-in-Reclaim.ensures.same_size

pub returns-in-DeviceLimits-clause-follows : goal.returns-in-DeviceLimits-clause-follows
returns-in-DeviceLimits-clause-follows c = rw c.in-DeviceLimits.is c.push-in-DeviceLimits.ensures.follows

pub returns-in-DeviceLimits-clause-size : goal.returns-in-DeviceLimits-clause-size
returns-in-DeviceLimits-clause-size c = rw c.in-DeviceLimits.is c.push-in-DeviceLimits.ensures.size

pub returns-in-DeviceLimits-clause-same_size : goal.returns-in-DeviceLimits-clause-same_size
returns-in-DeviceLimits-clause-same_size c = rw c.in-DeviceLimits.is c.push-in-DeviceLimits.ensures.same_size

pub returns-in-DeviceWeight-clause-follows : goal.returns-in-DeviceWeight-clause-follows
returns-in-DeviceWeight-clause-follows c = rw c.in-DeviceWeight.is c.push-in-DeviceWeight.ensures.follows

pub returns-in-DeviceWeight-clause-size : goal.returns-in-DeviceWeight-clause-size
returns-in-DeviceWeight-clause-size c = rw c.in-DeviceWeight.is c.push-in-DeviceWeight.ensures.size

pub returns-in-DeviceWeight-clause-same_size : goal.returns-in-DeviceWeight-clause-same_size
returns-in-DeviceWeight-clause-same_size c = rw c.in-DeviceWeight.is c.push-in-DeviceWeight.ensures.same_size

pub returns-in-DeviceTarget-clause-follows : goal.returns-in-DeviceTarget-clause-follows
returns-in-DeviceTarget-clause-follows c = rw c.in-DeviceTarget.is c.push-in-DeviceTarget.ensures.follows

pub returns-in-DeviceTarget-clause-size : goal.returns-in-DeviceTarget-clause-size
returns-in-DeviceTarget-clause-size c = rw c.in-DeviceTarget.is c.push-in-DeviceTarget.ensures.size

pub returns-in-DeviceTarget-clause-same_size : goal.returns-in-DeviceTarget-clause-same_size
returns-in-DeviceTarget-clause-same_size c = rw c.in-DeviceTarget.is c.push-in-DeviceTarget.ensures.same_size

pub returns-in-Set-clause-follows : goal.returns-in-Set-clause-follows
returns-in-Set-clause-follows c = rw c.in-Set.is c.push-in-Set.ensures.follows

pub returns-in-Set-clause-size : goal.returns-in-Set-clause-size
returns-in-Set-clause-size c = rw c.in-Set.is c.push-in-Set.ensures.size

pub returns-in-Set-clause-same_size : goal.returns-in-Set-clause-same_size
returns-in-Set-clause-same_size c = rw c.in-Set.is c.push-in-Set.ensures.same_size

pub returns-in-Role-clause-follows : goal.returns-in-Role-clause-follows
returns-in-Role-clause-follows c = rw c.in-Role.is c.push-in-Role.ensures.follows

pub returns-in-Role-clause-size : goal.returns-in-Role-clause-size
returns-in-Role-clause-size c = rw c.in-Role.is c.push-in-Role.ensures.size

pub returns-in-Role-clause-same_size : goal.returns-in-Role-clause-same_size
returns-in-Role-clause-same_size c = rw c.in-Role.is c.push-in-Role.ensures.same_size

pub returns-in-Class-clause-follows : goal.returns-in-Class-clause-follows
returns-in-Class-clause-follows c = rw c.in-Class.is c.push-in-Class.ensures.follows

pub returns-in-Class-clause-size : goal.returns-in-Class-clause-size
returns-in-Class-clause-size c = rw c.in-Class.is c.push-in-Class.ensures.size

pub returns-in-Class-clause-same_size : goal.returns-in-Class-clause-same_size
returns-in-Class-clause-same_size c = rw c.in-Class.is c.push-in-Class.ensures.same_size

pub returns-in-Trigger-clause-follows : goal.returns-in-Trigger-clause-follows
returns-in-Trigger-clause-follows c = rw c.in-Trigger.is c.push-in-Trigger.ensures.follows

pub returns-in-Trigger-clause-size : goal.returns-in-Trigger-clause-size
returns-in-Trigger-clause-size c = rw c.in-Trigger.is c.push-in-Trigger.ensures.size

pub returns-in-Trigger-clause-same_size : goal.returns-in-Trigger-clause-same_size
returns-in-Trigger-clause-same_size c = rw c.in-Trigger.is c.push-in-Trigger.ensures.same_size

pub returns-in-Raw-clause-follows : goal.returns-in-Raw-clause-follows
returns-in-Raw-clause-follows c = rw c.in-Raw.is c.push-in-Raw.ensures.follows

pub returns-in-Raw-clause-size : goal.returns-in-Raw-clause-size
returns-in-Raw-clause-size c = rw c.in-Raw.is c.push-in-Raw.ensures.size

pub returns-in-Raw-clause-same_size : goal.returns-in-Raw-clause-same_size
returns-in-Raw-clause-same_size c = rw c.in-Raw.is c.push-in-Raw.ensures.same_size

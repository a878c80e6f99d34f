use Rattle.cg_write.proofs.any_write.AnyWriteToken.held.Goals as goal

pub returns-in-Number : goal.returns-in-Number
returns-in-Number c = rw c.in-Number.is c.held.ensures

pub returns-in-Signed : goal.returns-in-Signed
returns-in-Signed c = rw c.in-Signed.is c.held-in-Signed.ensures

pub returns-in-Limit : goal.returns-in-Limit
returns-in-Limit c = rw c.in-Limit.is c.held-in-Limit.ensures

pub returns-in-SizeLimit : goal.returns-in-SizeLimit
returns-in-SizeLimit c = rw c.in-SizeLimit.is c.held-in-SizeLimit.ensures

pub returns-in-Clamp : goal.returns-in-Clamp
returns-in-Clamp c = rw c.in-Clamp.is c.held-in-Clamp.ensures

pub returns-in-Mode : goal.returns-in-Mode
returns-in-Mode c = rw c.in-Mode.is c.held-in-Mode.ensures

pub returns-in-Controllers : goal.returns-in-Controllers
returns-in-Controllers c = rw c.in-Controllers.is c.held-in-Controllers.ensures

pub returns-in-CpuMax : goal.returns-in-CpuMax
returns-in-CpuMax c = rw c.in-CpuMax.is c.held-in-CpuMax.ensures

pub returns-in-Reclaim : goal.returns-in-Reclaim
returns-in-Reclaim c = rw c.in-Reclaim.is c.held-in-Reclaim.ensures

pub returns-in-DeviceLimits : goal.returns-in-DeviceLimits
returns-in-DeviceLimits c = rw c.in-DeviceLimits.is c.held-in-DeviceLimits.ensures

pub returns-in-DeviceWeight : goal.returns-in-DeviceWeight
returns-in-DeviceWeight c = rw c.in-DeviceWeight.is c.held-in-DeviceWeight.ensures

pub returns-in-DeviceTarget : goal.returns-in-DeviceTarget
returns-in-DeviceTarget c = rw c.in-DeviceTarget.is c.held-in-DeviceTarget.ensures

pub returns-in-Set : goal.returns-in-Set
returns-in-Set c = rw c.in-Set.is c.held-in-Set.ensures

pub returns-in-Role : goal.returns-in-Role
returns-in-Role c = rw c.in-Role.is c.held-in-Role.ensures

pub returns-in-Class : goal.returns-in-Class
returns-in-Class c = rw c.in-Class.is c.held-in-Class.ensures

pub returns-in-Trigger : goal.returns-in-Trigger
returns-in-Trigger c = rw c.in-Trigger.is c.held-in-Trigger.ensures

pub returns-in-Raw : goal.returns-in-Raw
returns-in-Raw c = rw c.in-Raw.is c.held-in-Raw.ensures

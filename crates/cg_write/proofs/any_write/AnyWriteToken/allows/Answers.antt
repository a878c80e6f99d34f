use Rattle.cg_write.proofs.any_write.AnyWriteToken.allows.Goals as goal

pub returns-in-Number : goal.returns-in-Number
returns-in-Number c = rw c.in-Number.is c.allows.ensures

pub returns-in-Signed : goal.returns-in-Signed
returns-in-Signed c = rw c.in-Signed.is c.allows-in-Signed.ensures

pub returns-in-Limit : goal.returns-in-Limit
returns-in-Limit c = rw c.in-Limit.is c.allows-in-Limit.ensures

pub returns-in-SizeLimit : goal.returns-in-SizeLimit
returns-in-SizeLimit c = rw c.in-SizeLimit.is c.allows-in-SizeLimit.ensures

pub returns-in-Clamp : goal.returns-in-Clamp
returns-in-Clamp c = rw c.in-Clamp.is c.allows-in-Clamp.ensures

pub returns-in-Mode : goal.returns-in-Mode
returns-in-Mode c = rw c.in-Mode.is c.allows-in-Mode.ensures

pub returns-in-Controllers : goal.returns-in-Controllers
returns-in-Controllers c = rw c.in-Controllers.is c.allows-in-Controllers.ensures

pub returns-in-CpuMax : goal.returns-in-CpuMax
returns-in-CpuMax c = rw c.in-CpuMax.is c.allows-in-CpuMax.ensures

pub returns-in-Reclaim : goal.returns-in-Reclaim
returns-in-Reclaim c = rw c.in-Reclaim.is c.allows-in-Reclaim.ensures

pub returns-in-DeviceLimits : goal.returns-in-DeviceLimits
returns-in-DeviceLimits c = rw c.in-DeviceLimits.is c.allows-in-DeviceLimits.ensures

pub returns-in-DeviceWeight : goal.returns-in-DeviceWeight
returns-in-DeviceWeight c = rw c.in-DeviceWeight.is c.allows-in-DeviceWeight.ensures

pub returns-in-DeviceTarget : goal.returns-in-DeviceTarget
returns-in-DeviceTarget c = rw c.in-DeviceTarget.is c.allows-in-DeviceTarget.ensures

pub returns-in-Set : goal.returns-in-Set
returns-in-Set c = rw c.in-Set.is c.allows-in-Set.ensures

pub returns-in-Role : goal.returns-in-Role
returns-in-Role c = rw c.in-Role.is c.allows-in-Role.ensures

pub returns-in-Class : goal.returns-in-Class
returns-in-Class c = rw c.in-Class.is c.allows-in-Class.ensures

pub returns-in-Trigger : goal.returns-in-Trigger
returns-in-Trigger c = rw c.in-Trigger.is c.allows-in-Trigger.ensures

pub returns-in-Raw : goal.returns-in-Raw
returns-in-Raw c = rw c.in-Raw.is c.allows-in-Raw.ensures

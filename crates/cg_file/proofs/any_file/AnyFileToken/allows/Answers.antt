use Rattle.cg_file.proofs.any_file.AnyFileToken.allows.Goals as goal

pub returns-in-Number : goal.returns-in-Number
returns-in-Number c = rw c.in-Number.is c.allows.ensures

pub returns-in-Signed : goal.returns-in-Signed
returns-in-Signed c = rw c.in-Signed.is c.allows-in-Signed.ensures

pub returns-in-Limit : goal.returns-in-Limit
returns-in-Limit c = rw c.in-Limit.is c.allows-in-Limit.ensures

pub returns-in-Mode : goal.returns-in-Mode
returns-in-Mode c = rw c.in-Mode.is c.allows-in-Mode.ensures

pub returns-in-Class : goal.returns-in-Class
returns-in-Class c = rw c.in-Class.is c.allows-in-Class.ensures

pub returns-in-CpuMax : goal.returns-in-CpuMax
returns-in-CpuMax c = rw c.in-CpuMax.is c.allows-in-CpuMax.ensures

pub returns-in-Clamp : goal.returns-in-Clamp
returns-in-Clamp c = rw c.in-Clamp.is c.allows-in-Clamp.ensures

pub returns-in-Numbers : goal.returns-in-Numbers
returns-in-Numbers c = rw c.in-Numbers.is c.allows-in-Numbers.ensures

pub returns-in-Words : goal.returns-in-Words
returns-in-Words c = rw c.in-Words.is c.allows-in-Words.ensures

pub returns-in-Flat : goal.returns-in-Flat
returns-in-Flat c = rw c.in-Flat.is c.allows-in-Flat.ensures

pub returns-in-FlatLimits : goal.returns-in-FlatLimits
returns-in-FlatLimits c = rw c.in-FlatLimits.is c.allows-in-FlatLimits.ensures

pub returns-in-DeviceStats : goal.returns-in-DeviceStats
returns-in-DeviceStats c = rw c.in-DeviceStats.is c.allows-in-DeviceStats.ensures

pub returns-in-DeviceLimits : goal.returns-in-DeviceLimits
returns-in-DeviceLimits c = rw c.in-DeviceLimits.is c.allows-in-DeviceLimits.ensures

pub returns-in-DeviceWeights : goal.returns-in-DeviceWeights
returns-in-DeviceWeights c = rw c.in-DeviceWeights.is c.allows-in-DeviceWeights.ensures

pub returns-in-DeviceTargets : goal.returns-in-DeviceTargets
returns-in-DeviceTargets c = rw c.in-DeviceTargets.is c.allows-in-DeviceTargets.ensures

pub returns-in-DeviceParams : goal.returns-in-DeviceParams
returns-in-DeviceParams c = rw c.in-DeviceParams.is c.allows-in-DeviceParams.ensures

pub returns-in-Set : goal.returns-in-Set
returns-in-Set c = rw c.in-Set.is c.allows-in-Set.ensures

pub returns-in-Partition : goal.returns-in-Partition
returns-in-Partition c = rw c.in-Partition.is c.allows-in-Partition.ensures

pub returns-in-Pressure : goal.returns-in-Pressure
returns-in-Pressure c = rw c.in-Pressure.is c.allows-in-Pressure.ensures

pub returns-in-Nested : goal.returns-in-Nested
returns-in-Nested c = rw c.in-Nested.is c.allows-in-Nested.ensures

pub returns-in-NodeStats : goal.returns-in-NodeStats
returns-in-NodeStats c = rw c.in-NodeStats.is c.allows-in-NodeStats.ensures

pub returns-in-Raw : goal.returns-in-Raw
returns-in-Raw c = rw c.in-Raw.is c.allows-in-Raw.ensures

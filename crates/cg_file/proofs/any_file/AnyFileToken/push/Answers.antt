use Rattle.cg_file.proofs.any_file.AnyFileToken.push.Goals as goal

pub returns-in-Number-clause-follows : goal.returns-in-Number-clause-follows
returns-in-Number-clause-follows c = rw c.in-Number.is c.push.ensures.follows

pub returns-in-Number-clause-size : goal.returns-in-Number-clause-size
returns-in-Number-clause-size c = rw c.in-Number.is c.push.ensures.size

pub returns-in-Number-clause-same_size : goal.returns-in-Number-clause-same_size
returns-in-Number-clause-same_size c = rw c.in-Number.is c.push.ensures.same_size

pub returns-in-Signed-clause-follows : goal.returns-in-Signed-clause-follows
returns-in-Signed-clause-follows c = rw c.in-Signed.is c.push-in-Signed.ensures.follows

pub returns-in-Signed-clause-size : goal.returns-in-Signed-clause-size
returns-in-Signed-clause-size c = rw c.in-Signed.is c.push-in-Signed.ensures.size

pub returns-in-Signed-clause-same_size : goal.returns-in-Signed-clause-same_size
returns-in-Signed-clause-same_size c = rw c.in-Signed.is c.push-in-Signed.ensures.same_size

pub returns-in-Limit-clause-follows : goal.returns-in-Limit-clause-follows
returns-in-Limit-clause-follows c = rw c.in-Limit.is c.push-in-Limit.ensures.follows

pub returns-in-Limit-clause-size : goal.returns-in-Limit-clause-size
returns-in-Limit-clause-size c = rw c.in-Limit.is c.push-in-Limit.ensures.size

pub returns-in-Limit-clause-same_size : goal.returns-in-Limit-clause-same_size
returns-in-Limit-clause-same_size c = rw c.in-Limit.is c.push-in-Limit.ensures.same_size

pub returns-in-Mode-clause-follows : goal.returns-in-Mode-clause-follows
returns-in-Mode-clause-follows c = rw c.in-Mode.is c.push-in-Mode.ensures.follows

pub returns-in-Mode-clause-size : goal.returns-in-Mode-clause-size
returns-in-Mode-clause-size c = rw c.in-Mode.is c.push-in-Mode.ensures.size

pub returns-in-Mode-clause-same_size : goal.returns-in-Mode-clause-same_size
returns-in-Mode-clause-same_size c = rw c.in-Mode.is c.push-in-Mode.ensures.same_size

pub returns-in-Class-clause-follows : goal.returns-in-Class-clause-follows
returns-in-Class-clause-follows c = rw c.in-Class.is c.push-in-Class.ensures.follows

pub returns-in-Class-clause-size : goal.returns-in-Class-clause-size
returns-in-Class-clause-size c = rw c.in-Class.is c.push-in-Class.ensures.size

pub returns-in-Class-clause-same_size : goal.returns-in-Class-clause-same_size
returns-in-Class-clause-same_size c = rw c.in-Class.is c.push-in-Class.ensures.same_size

pub returns-in-CpuMax-clause-follows : goal.returns-in-CpuMax-clause-follows
returns-in-CpuMax-clause-follows c = rw c.in-CpuMax.is c.push-in-CpuMax.ensures.follows

pub returns-in-CpuMax-clause-size : goal.returns-in-CpuMax-clause-size
returns-in-CpuMax-clause-size c = rw c.in-CpuMax.is c.push-in-CpuMax.ensures.size

pub returns-in-CpuMax-clause-same_size : goal.returns-in-CpuMax-clause-same_size
returns-in-CpuMax-clause-same_size c = rw c.in-CpuMax.is c.push-in-CpuMax.ensures.same_size

pub returns-in-Clamp-clause-follows : goal.returns-in-Clamp-clause-follows
returns-in-Clamp-clause-follows c = rw c.in-Clamp.is c.push-in-Clamp.ensures.follows

pub returns-in-Clamp-clause-size : goal.returns-in-Clamp-clause-size
returns-in-Clamp-clause-size c = rw c.in-Clamp.is c.push-in-Clamp.ensures.size

pub returns-in-Clamp-clause-same_size : goal.returns-in-Clamp-clause-same_size
returns-in-Clamp-clause-same_size c = rw c.in-Clamp.is c.push-in-Clamp.ensures.same_size

pub returns-in-Numbers-clause-follows : goal.returns-in-Numbers-clause-follows
returns-in-Numbers-clause-follows c = rw c.in-Numbers.is c.push-in-Numbers.ensures.follows

pub returns-in-Numbers-clause-size : goal.returns-in-Numbers-clause-size
returns-in-Numbers-clause-size c = rw c.in-Numbers.is c.push-in-Numbers.ensures.size

pub returns-in-Numbers-clause-same_size : goal.returns-in-Numbers-clause-same_size
returns-in-Numbers-clause-same_size c = rw c.in-Numbers.is c.push-in-Numbers.ensures.same_size

pub returns-in-Words-clause-follows : goal.returns-in-Words-clause-follows
returns-in-Words-clause-follows c = rw c.in-Words.is c.push-in-Words.ensures.follows

pub returns-in-Words-clause-size : goal.returns-in-Words-clause-size
returns-in-Words-clause-size c = rw c.in-Words.is c.push-in-Words.ensures.size

pub returns-in-Words-clause-same_size : goal.returns-in-Words-clause-same_size
returns-in-Words-clause-same_size c = rw c.in-Words.is c.push-in-Words.ensures.same_size

pub returns-in-Flat-clause-follows : goal.returns-in-Flat-clause-follows
returns-in-Flat-clause-follows c = rw c.in-Flat.is c.push-in-Flat.ensures.follows

pub returns-in-Flat-clause-size : goal.returns-in-Flat-clause-size
returns-in-Flat-clause-size c = rw c.in-Flat.is c.push-in-Flat.ensures.size

pub returns-in-Flat-clause-same_size : goal.returns-in-Flat-clause-same_size
returns-in-Flat-clause-same_size c = rw c.in-Flat.is c.push-in-Flat.ensures.same_size

pub returns-in-FlatLimits-clause-follows : goal.returns-in-FlatLimits-clause-follows
returns-in-FlatLimits-clause-follows c = rw c.in-FlatLimits.is c.push-in-FlatLimits.ensures.follows

pub returns-in-FlatLimits-clause-size : goal.returns-in-FlatLimits-clause-size
returns-in-FlatLimits-clause-size c = rw c.in-FlatLimits.is c.push-in-FlatLimits.ensures.size

pub returns-in-FlatLimits-clause-same_size : goal.returns-in-FlatLimits-clause-same_size
returns-in-FlatLimits-clause-same_size c = rw c.in-FlatLimits.is c.push-in-FlatLimits.ensures.same_size

pub returns-in-DeviceStats-clause-follows : goal.returns-in-DeviceStats-clause-follows
returns-in-DeviceStats-clause-follows c = rw c.in-DeviceStats.is c.push-in-DeviceStats.ensures.follows

pub returns-in-DeviceStats-clause-size : goal.returns-in-DeviceStats-clause-size
returns-in-DeviceStats-clause-size c = rw c.in-DeviceStats.is c.push-in-DeviceStats.ensures.size

pub returns-in-DeviceStats-clause-same_size : goal.returns-in-DeviceStats-clause-same_size
returns-in-DeviceStats-clause-same_size c = rw c.in-DeviceStats.is c.push-in-DeviceStats.ensures.same_size

pub returns-in-DeviceLimits-clause-follows : goal.returns-in-DeviceLimits-clause-follows
returns-in-DeviceLimits-clause-follows c = rw c.in-DeviceLimits.is c.push-in-DeviceLimits.ensures.follows

pub returns-in-DeviceLimits-clause-size : goal.returns-in-DeviceLimits-clause-size
returns-in-DeviceLimits-clause-size c = rw c.in-DeviceLimits.is c.push-in-DeviceLimits.ensures.size

pub returns-in-DeviceLimits-clause-same_size : goal.returns-in-DeviceLimits-clause-same_size
returns-in-DeviceLimits-clause-same_size c = rw c.in-DeviceLimits.is c.push-in-DeviceLimits.ensures.same_size

pub returns-in-DeviceWeights-clause-follows : goal.returns-in-DeviceWeights-clause-follows
returns-in-DeviceWeights-clause-follows c = rw c.in-DeviceWeights.is c.push-in-DeviceWeights.ensures.follows

pub returns-in-DeviceWeights-clause-size : goal.returns-in-DeviceWeights-clause-size
returns-in-DeviceWeights-clause-size c = rw c.in-DeviceWeights.is c.push-in-DeviceWeights.ensures.size

pub returns-in-DeviceWeights-clause-same_size : goal.returns-in-DeviceWeights-clause-same_size
returns-in-DeviceWeights-clause-same_size c = rw c.in-DeviceWeights.is c.push-in-DeviceWeights.ensures.same_size

pub returns-in-DeviceTargets-clause-follows : goal.returns-in-DeviceTargets-clause-follows
returns-in-DeviceTargets-clause-follows c = rw c.in-DeviceTargets.is c.push-in-DeviceTargets.ensures.follows

pub returns-in-DeviceTargets-clause-size : goal.returns-in-DeviceTargets-clause-size
returns-in-DeviceTargets-clause-size c = rw c.in-DeviceTargets.is c.push-in-DeviceTargets.ensures.size

pub returns-in-DeviceTargets-clause-same_size : goal.returns-in-DeviceTargets-clause-same_size
returns-in-DeviceTargets-clause-same_size c = rw c.in-DeviceTargets.is c.push-in-DeviceTargets.ensures.same_size

pub returns-in-DeviceParams-clause-follows : goal.returns-in-DeviceParams-clause-follows
returns-in-DeviceParams-clause-follows c = rw c.in-DeviceParams.is c.push-in-DeviceParams.ensures.follows

pub returns-in-DeviceParams-clause-size : goal.returns-in-DeviceParams-clause-size
returns-in-DeviceParams-clause-size c = rw c.in-DeviceParams.is c.push-in-DeviceParams.ensures.size

pub returns-in-DeviceParams-clause-same_size : goal.returns-in-DeviceParams-clause-same_size
returns-in-DeviceParams-clause-same_size c = rw c.in-DeviceParams.is c.push-in-DeviceParams.ensures.same_size

pub returns-in-Set-clause-follows : goal.returns-in-Set-clause-follows
returns-in-Set-clause-follows c = rw c.in-Set.is c.push-in-Set.ensures.follows

pub returns-in-Set-clause-size : goal.returns-in-Set-clause-size
returns-in-Set-clause-size c = rw c.in-Set.is c.push-in-Set.ensures.size

pub returns-in-Set-clause-same_size : goal.returns-in-Set-clause-same_size
returns-in-Set-clause-same_size c = rw c.in-Set.is c.push-in-Set.ensures.same_size

pub returns-in-Partition-clause-follows : goal.returns-in-Partition-clause-follows
returns-in-Partition-clause-follows c = rw c.in-Partition.is c.push-in-Partition.ensures.follows

pub returns-in-Partition-clause-size : goal.returns-in-Partition-clause-size
returns-in-Partition-clause-size c = rw c.in-Partition.is c.push-in-Partition.ensures.size

pub returns-in-Partition-clause-same_size : goal.returns-in-Partition-clause-same_size
returns-in-Partition-clause-same_size c = rw c.in-Partition.is c.push-in-Partition.ensures.same_size

pub returns-in-Pressure-clause-follows : goal.returns-in-Pressure-clause-follows
returns-in-Pressure-clause-follows c = rw c.in-Pressure.is c.push-in-Pressure.ensures.follows

pub returns-in-Pressure-clause-size : goal.returns-in-Pressure-clause-size
returns-in-Pressure-clause-size c = rw c.in-Pressure.is c.push-in-Pressure.ensures.size

pub returns-in-Pressure-clause-same_size : goal.returns-in-Pressure-clause-same_size
returns-in-Pressure-clause-same_size c = rw c.in-Pressure.is c.push-in-Pressure.ensures.same_size

pub returns-in-Nested-clause-follows : goal.returns-in-Nested-clause-follows
returns-in-Nested-clause-follows c = rw c.in-Nested.is c.push-in-Nested.ensures.follows

pub returns-in-Nested-clause-size : goal.returns-in-Nested-clause-size
returns-in-Nested-clause-size c = rw c.in-Nested.is c.push-in-Nested.ensures.size

pub returns-in-Nested-clause-same_size : goal.returns-in-Nested-clause-same_size
returns-in-Nested-clause-same_size c = rw c.in-Nested.is c.push-in-Nested.ensures.same_size

pub returns-in-NodeStats-clause-follows : goal.returns-in-NodeStats-clause-follows
returns-in-NodeStats-clause-follows c = rw c.in-NodeStats.is c.push-in-NodeStats.ensures.follows

pub returns-in-NodeStats-clause-size : goal.returns-in-NodeStats-clause-size
returns-in-NodeStats-clause-size c = rw c.in-NodeStats.is c.push-in-NodeStats.ensures.size

pub returns-in-NodeStats-clause-same_size : goal.returns-in-NodeStats-clause-same_size
returns-in-NodeStats-clause-same_size c = rw c.in-NodeStats.is c.push-in-NodeStats.ensures.same_size

pub returns-in-Raw-clause-follows : goal.returns-in-Raw-clause-follows
returns-in-Raw-clause-follows c = rw c.in-Raw.is c.push-in-Raw.ensures.follows

pub returns-in-Raw-clause-size : goal.returns-in-Raw-clause-size
returns-in-Raw-clause-size c = rw c.in-Raw.is c.push-in-Raw.ensures.size

pub returns-in-Raw-clause-same_size : goal.returns-in-Raw-clause-same_size
returns-in-Raw-clause-same_size c = rw c.in-Raw.is c.push-in-Raw.ensures.same_size

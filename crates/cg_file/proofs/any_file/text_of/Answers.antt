use Rattle.std.proofs.Common.{arith, FitsSigned, to_z-of_z, w64}
use Rattle.cg_file.proofs.any_file.text_of.Goals as goal

pub returns-in-Number-clause-spells : goal.returns-in-Number-clause-spells
returns-in-Number-clause-spells c = rw c.in-Number.is (let whole = c.number_file.ensures.spells in record { is = whole.is })

pub returns-in-Limit-clause-spells : goal.returns-in-Limit-clause-spells
returns-in-Limit-clause-spells c = rw c.in-Limit.is (let whole = c.limit_file.ensures.spells in record { is = whole.is })

pub returns-in-Mode-clause-spells : goal.returns-in-Mode-clause-spells
returns-in-Mode-clause-spells c = rw c.in-Mode.is (let whole = c.mode_file.ensures.spells in record { is = whole.is })

pub returns-in-Class-clause-spells : goal.returns-in-Class-clause-spells
returns-in-Class-clause-spells c = rw c.in-Class.is (let whole = c.class_file.ensures.spells in record { is = whole.is })

pub returns-in-CpuMax-clause-spells : goal.returns-in-CpuMax-clause-spells
returns-in-CpuMax-clause-spells c = rw c.in-CpuMax.is (let whole = c.new.ensures.spells in record { is = whole.is })

pub returns-in-Clamp-clause-spells : goal.returns-in-Clamp-clause-spells
returns-in-Clamp-clause-spells c = rw c.in-Clamp.is (let whole = c.clamp_file.ensures.spells in record { is = whole.is })

pub returns-in-Numbers-clause-spells : goal.returns-in-Numbers-clause-spells
returns-in-Numbers-clause-spells c = rw c.in-Numbers.is (let whole = c.new-in-Numbers.ensures.spells in record { is = whole.is })

pub returns-in-Words-clause-spells : goal.returns-in-Words-clause-spells
returns-in-Words-clause-spells c = rw c.in-Words.is (let whole = c.new-in-Words.ensures.spells in record { is = whole.is })

pub returns-in-Flat-clause-spells : goal.returns-in-Flat-clause-spells
returns-in-Flat-clause-spells c = rw c.in-Flat.is (let whole = c.new-in-Flat.ensures.spells in record { is = whole.is })

pub returns-in-FlatLimits-clause-spells : goal.returns-in-FlatLimits-clause-spells
returns-in-FlatLimits-clause-spells c = rw c.in-FlatLimits.is (let whole = c.new-in-FlatLimits.ensures.spells in record { is = whole.is })

pub returns-in-DeviceStats-clause-spells : goal.returns-in-DeviceStats-clause-spells
returns-in-DeviceStats-clause-spells c = rw c.in-DeviceStats.is (let whole = c.new-in-DeviceStats.ensures.spells in record { is = whole.is })

pub returns-in-DeviceLimits-clause-spells : goal.returns-in-DeviceLimits-clause-spells
returns-in-DeviceLimits-clause-spells c = rw c.in-DeviceLimits.is (let whole = c.new-in-DeviceLimits.ensures.spells in record { is = whole.is })

pub returns-in-DeviceWeights-clause-spells : goal.returns-in-DeviceWeights-clause-spells
returns-in-DeviceWeights-clause-spells c = rw c.in-DeviceWeights.is (let whole = c.new-in-DeviceWeights.ensures.spells in record { is = whole.is })

pub returns-in-DeviceTargets-clause-spells : goal.returns-in-DeviceTargets-clause-spells
returns-in-DeviceTargets-clause-spells c = rw c.in-DeviceTargets.is (let whole = c.new-in-DeviceTargets.ensures.spells in record { is = whole.is })

pub returns-in-DeviceParams-clause-spells : goal.returns-in-DeviceParams-clause-spells
returns-in-DeviceParams-clause-spells c = rw c.in-DeviceParams.is (let whole = c.new-in-DeviceParams.ensures.spells in record { is = whole.is })

pub returns-in-Set-clause-spells : goal.returns-in-Set-clause-spells
returns-in-Set-clause-spells c = rw c.in-Set.is (let whole = c.new-in-Set.ensures.spells in record { is = whole.is })

pub returns-in-Partition-clause-spells : goal.returns-in-Partition-clause-spells
returns-in-Partition-clause-spells c = rw c.in-Partition.is (let whole = c.new-in-Partition.ensures.spells in record { is = whole.is })

pub returns-in-Pressure-clause-spells : goal.returns-in-Pressure-clause-spells
returns-in-Pressure-clause-spells c = rw c.in-Pressure.is (let whole = c.new-in-Pressure.ensures.spells in record { is = whole.is })

pub returns-in-Nested-clause-spells : goal.returns-in-Nested-clause-spells
returns-in-Nested-clause-spells c = rw c.in-Nested.is (let whole = c.new-in-Nested.ensures.spells in record { is = whole.is })

pub returns-in-NodeStats-clause-spells : goal.returns-in-NodeStats-clause-spells
returns-in-NodeStats-clause-spells c = rw c.in-NodeStats.is (let whole = c.new-in-NodeStats.ensures.spells in record { is = whole.is })

pub returns-in-Raw-clause-spells : goal.returns-in-Raw-clause-spells
returns-in-Raw-clause-spells c = rw c.in-Raw.is (let whole = c.new-in-Raw.ensures.spells in record { is = whole.is })

pub returns-in-Signed-clause-spells : goal.returns-in-Signed-clause-spells
returns-in-Signed-clause-spells c =
    let bounds = rw c.in-Signed.is at c.requires in
    let low : FitsSigned w64 c.in-Signed.lo = omega (arith, bounds.0) in
    let high : FitsSigned w64 c.in-Signed.hi = omega (arith, bounds.1) in
    let whole = simp to_z-of_z at c.signed_file.ensures.spells in
    rw c.in-Signed.is (record { is = whole.is })

use Rattle.cg_join.specs.DeviceLaws.{device_of}
use Rattle.cg_join.specs.DeviceState.{numbers_of}
use Rattle.cg_join.proofs.device.DeviceTextToken.allows.Goals as goal

pub returns : goal.returns
returns c = (
  λ h. (let b = c.allows.ensures.0 h in (b.0, device_of b.1, b.2)),
  λ h. c.allows.ensures.1 (h.0, numbers_of h.1, h.2),
)

use Rattle.cg_value.specs.FitsWriteLaws.{limits_fit}
use Rattle.cg_value.proofs.setting.Setting.fits_device_limits.Goals as goal

pub returns-in-DeviceLimits : goal.returns-in-DeviceLimits
returns-in-DeviceLimits c =
    let arm = c.in-DeviceLimits in
    let fit = limits_fit (arm.device, record { rbps = arm.rbps; wbps = arm.wbps; riops = arm.riops; wiops = arm.wiops }) in
    rw arm.is (λ e. fit.0 (c.limits_fit.ensures.0 e), λ h. c.limits_fit.ensures.1 (fit.1 h))

use Rattle.std.proofs.Common.{FitsSigned, refl, rules, to_z-of_z, w64}
use Rattle.cg_value.specs.FitsWriteLaws.{number_fits, signed_fits, limit_fits, size_limit_fits, clamp_fits, mode_fits, class_fits, toggles_fit, quota_fits, reclaim_fits, default_fits, weight_fits, target_fits}
use Rattle.cg_value.specs.FitsWriteLaws.{set_fits, list_end_small, role_fits, times_fit}
use Rattle.cg_value.proofs.setting.Setting.fits.Goals as goal

pub returns-in-Number-Number : goal.returns-in-Number-Number
returns-in-Number-Number c =
    let arm = c.in-Number-Number in
    let fit = number_fits arm.lo arm.hi arm.number in
    rw (arm.is-1, ← c.form.ensures.form, arm.is-0) (λ e. fit.0 (c.is_within.ensures.range.0 e), λ h. c.is_within.ensures.range.1 (fit.1 h))

pub returns-in-Signed-Signed : goal.returns-in-Signed-Signed
returns-in-Signed-Signed c =
    let arm = c.in-Signed-Signed in
    let fit = signed_fits arm.lo arm.hi arm.number in
    let low : FitsSigned w64 arm.lo = search rules in
    let high : FitsSigned w64 arm.hi = search rules in
    let number : FitsSigned w64 arm.number = search rules in
    let is = simp to_z-of_z at c.is_signed_within.ensures in
    rw (arm.is-1, ← c.form.ensures.form, arm.is-0) (λ e. fit.0 (is.0 e), λ h. is.1 (fit.1 h))

pub returns-in-Limit-Limit : goal.returns-in-Limit-Limit
returns-in-Limit-Limit c =
    let arm = c.in-Limit-Limit in
    let fit = limit_fits arm.lo arm.hi arm.limit in
    rw (arm.is-1, ← c.form.ensures.form, arm.is-0) (λ e. fit.0 (c.limit_is_within.ensures.0 e), λ h. c.limit_is_within.ensures.1 (fit.1 h))

pub returns-in-SizeLimit-Limit : goal.returns-in-SizeLimit-Limit
returns-in-SizeLimit-Limit c =
    let arm = c.in-SizeLimit-Limit in
    let fit = size_limit_fits arm.limit in
    rw (arm.is-1, ← c.form.ensures.form, arm.is-0) (λ e. fit.0 (c.limit_is_within-in-SizeLimit-Limit.ensures.0 e), λ h. c.limit_is_within-in-SizeLimit-Limit.ensures.1 (fit.1 h))

pub returns-in-Clamp-Clamp : goal.returns-in-Clamp-Clamp
returns-in-Clamp-Clamp c =
    let arm = c.in-Clamp-Clamp in
    let fit = clamp_fits arm.clamp in
    rw (arm.is-1, ← c.form.ensures.form, arm.is-0) (λ e. fit.0 (c.clamp_fits.ensures.0 e), λ h. c.clamp_fits.ensures.1 (fit.1 h))

pub returns-in-CpuMax-CpuMax : goal.returns-in-CpuMax-CpuMax
returns-in-CpuMax-CpuMax c =
    let arm = c.in-CpuMax-CpuMax in
    let fit = quota_fits arm.quota arm.period in
    rw (arm.is-1, ← c.form.ensures.form, arm.is-0) (λ e. fit.0 (c.quota_fits.ensures.0 e), λ h. c.quota_fits.ensures.1 (fit.1 h))

pub returns-in-Reclaim-Reclaim : goal.returns-in-Reclaim-Reclaim
returns-in-Reclaim-Reclaim c =
    let arm = c.in-Reclaim-Reclaim in
    let fit = reclaim_fits arm.max arm.size arm.swappiness in
    rw (arm.is-1, ← c.form.ensures.form, arm.is-0) (λ e. fit.0 (c.reclaim_fits.ensures.0 e), λ h. c.reclaim_fits.ensures.1 (fit.1 h))

pub returns-in-DeviceWeight-DefaultWeight : goal.returns-in-DeviceWeight-DefaultWeight
returns-in-DeviceWeight-DefaultWeight c =
    let arm = c.in-DeviceWeight-DefaultWeight in
    let fit = default_fits arm.most arm.weight (rw (← c.form.ensures.form, arm.is-0) at c.form.ensures.bounds).1 in
    rw (arm.is-1, ← c.form.ensures.form, arm.is-0) (λ e. fit.0 (c.is_within-in-DeviceWeight-DefaultWeight.ensures.range.0 e), λ h. c.is_within-in-DeviceWeight-DefaultWeight.ensures.range.1 (fit.1 h))

pub returns-in-DeviceWeight-DeviceWeight : goal.returns-in-DeviceWeight-DeviceWeight
returns-in-DeviceWeight-DeviceWeight c =
    let arm = c.in-DeviceWeight-DeviceWeight in
    let fit = weight_fits arm.most arm.device arm.weight (rw (← c.form.ensures.form, arm.is-0) at c.form.ensures.bounds).1 in
    rw (arm.is-1, ← c.form.ensures.form, arm.is-0) (λ e. fit.0 (c.weight_fits.ensures.0 e), λ h. c.weight_fits.ensures.1 (fit.1 h))

pub returns-in-DeviceTarget-DeviceTarget : goal.returns-in-DeviceTarget-DeviceTarget
returns-in-DeviceTarget-DeviceTarget c =
    let arm = c.in-DeviceTarget-DeviceTarget in
    let fit = target_fits arm.device arm.target in
    rw (arm.is-1, ← c.form.ensures.form, arm.is-0) (λ e. fit.0 (c.target_fits.ensures.0 e), λ h. c.target_fits.ensures.1 (fit.1 h))

pub returns-in-Trigger-Trigger : goal.returns-in-Trigger-Trigger
returns-in-Trigger-Trigger c =
    let arm = c.in-Trigger-Trigger in
    let fit = times_fit arm.full-1 arm.stall arm.window in
    rw (arm.is-1, ← c.form.ensures.form, arm.is-0) (λ e. fit.0 (c.times_fit.ensures.0 e), λ h. c.times_fit.ensures.1 (fit.1 h))

pub returns-in-Mode-Threaded : goal.returns-in-Mode-Threaded
returns-in-Mode-Threaded c = rw (c.in-Mode-Threaded.is-1, ← c.form.ensures.form, c.in-Mode-Threaded.is-0) (λ _. mode_fits, λ _. refl)

pub returns-in-Controllers-Controllers : goal.returns-in-Controllers-Controllers
returns-in-Controllers-Controllers c =
    let arm = c.in-Controllers-Controllers in
    let fit = toggles_fit arm.toggles in
    let is = rw c.as_slice.ensures at c.toggles_fit.ensures in
    rw (arm.is-1, ← c.form.ensures.form, arm.is-0) (λ e. fit.0 (is.0 e), λ h. is.1 (fit.1 h))

pub returns-in-Set-Set : goal.returns-in-Set-Set
returns-in-Set-Set c =
    let arm = c.in-Set-Set in
    let fit = set_fits arm.most arm.set (list_end_small arm.most (rw (← c.form.ensures.form, arm.is-0) at c.form.ensures.bounds)) in
    rw (arm.is-1, ← c.form.ensures.form, arm.is-0) (λ e. fit.0 (c.set_fits.ensures.0 e), λ h. c.set_fits.ensures.1 (fit.1 h))

pub returns-in-Role-Role : goal.returns-in-Role-Role
returns-in-Role-Role c = rw (c.in-Role-Role.is-1, ← c.form.ensures.form, c.in-Role-Role.is-0) (λ _. role_fits c.in-Role-Role.field-0-1, λ _. refl)

pub returns-in-Class-Class : goal.returns-in-Class-Class
returns-in-Class-Class c = rw (c.in-Class-Class.is-1, ← c.form.ensures.form, c.in-Class-Class.is-0) (λ _. class_fits c.in-Class-Class.field-0-1, λ _. refl)

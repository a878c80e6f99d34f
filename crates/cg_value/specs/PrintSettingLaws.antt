-- The canonical line of a setting is a line of each kind that can hold it.
use Rattle.std.proofs.Common.{◌≡◌, ℕ, ◌≤◌, ℤ, pos, negsuc, ◌≤ℤ◌, FitsSigned, inl, inr, Bool, Option, List, refl, sym, ap, subst, arith, w64}
use Rattle.std.proofs.lemmas.Int.{ints}
use Rattle.std.specs.Fmt.{decimal, signed_decimal}
use Rattle.cg_text.specs.Class.{IsClass}
use Rattle.cg_text.specs.Clamp.{IsClamp}
use Rattle.cg_text.specs.Decimal.{IsDecimal}
use Rattle.cg_text.specs.Limit.{IsLimit}
use Rattle.cg_text.specs.List.{IsLooseList}
use Rattle.cg_text.specs.NumeralLaws.{signed_decimal_is}
use Rattle.cg_text.specs.Signed.{IsSigned}
use Rattle.cg_text.specs.declared.hundredths.Spelling.TheVariants.{Written}
use Rattle.cg_text.specs.declared.trigger.Times.{Times}
use Rattle.cg_text.specs.declared.values.Device.{Device}
use Rattle.cg_text.specs.declared.values.Limit.{Limit}
use Rattle.cg_value.specs.FitsWriteLaws.{limit_within, size_limit_within, size_limit_prints, clamp_within, quota_within, quota_prints, reclaim_within, reclaim_prints, weight_within, weight_prints}
use Rattle.cg_value.specs.FitsWriteLaws.{target_within, target_prints, times_within, times_print, set_within, set_prints, list_end_small, limit_write_within, limit_write_prints}
use Rattle.cg_value.specs.Kind.{any_u64, IsWriteForm}
use Rattle.cg_value.specs.Lines.{IsLineOf}
use Rattle.cg_value.specs.Print.{print_setting_line, print_setting_of}
use Rattle.cg_value.specs.PrintTokenLaws.{decimal_prints, limit_prints, clamp_prints}
use Rattle.cg_value.specs.ReadLine.{IsRaw}
use Rattle.cg_value.specs.Settings.{FitsWrite, WriteText}
use Rattle.cg_value.specs.WriteLine.{IsSizeLimit, AreToggles, IsQuota, IsReclaim, IsLimitWrite, limits_setting, IsWeightSetting, IsTargetWrite, IsRole, IsTrigger, WriteLine}
use Rattle.cg_value.specs.declared.kind.WriteForm.{WriteForm}
use Rattle.cg_value.specs.declared.kind.WriteForm.TheVariants as form
use Rattle.cg_value.specs.declared.setting.Setting.{Setting}
use Rattle.cg_value.specs.declared.setting.Setting.TheVariants as setting

-- Where each value that has a line has the canonical one, so has each setting.
reprinted : {X : Type 0} (P : X → List ℕ → Type 0) (make : X → Setting) (s : Setting) (line : List ℕ) → ((x : X) (t : List ℕ) → P x t → P x (print_setting_line (make x))) → IsLineOf P make s line → IsLineOf P make s (print_setting_line s)
reprinted P make s line prints h = record { x = h.x; value = h.value; spelled = subst (λ v. P h.x (print_setting_line v)) (sym h.value) (prints h.x line h.spelled) }

nice_fits : (z : ℤ) → negsuc 19 ≤ℤ z → z ≤ℤ pos 19 → FitsSigned w64 z
nice_fits (pos n) low high = record { sfits = omega (arith, ints, high) }
nice_fits (negsuc n) low high = record { sfits = omega (arith, ints, low) }

signed_prints : (lo hi z : ℤ) → lo ≡ negsuc 19 → hi ≡ pos 19 → lo ≤ℤ z → z ≤ℤ hi → IsSigned lo hi z (signed_decimal z)
signed_prints lo hi z e f low high = signed_decimal_is lo hi z low high (nice_fits z (rw e at low) (rw f at high))

weight_setting_prints : (most : ℕ) (s : Setting) (line : List ℕ) → most ≤ any_u64 → IsWeightSetting most s line → IsWeightSetting most s (print_setting_line s)
weight_setting_prints most (setting.DefaultWeight weight) line b (inl h) = inr (decimal weight, refl, decimal_prints 1 most weight (h.0, h.1) b)
weight_setting_prints most (setting.DefaultWeight weight) line b (inr h) = inr (decimal weight, refl, decimal_prints 1 most weight (h.2.0, h.2.1) b)
weight_setting_prints most (setting.DeviceWeight device weight) line b h = weight_prints most device weight b (weight_within most device weight line h)
weight_setting_prints most _ line b h = absurd h

-- The canonical line of a setting that has a line of the kind.
pub line_prints : (kind : WriteForm) (s : Setting) (line : List ℕ) → IsWriteForm kind → WriteLine kind s line → WriteLine kind s (print_setting_line s)
line_prints (form.Number lo hi) s line k h = reprinted (IsDecimal lo hi) setting.Number s line (λ x t p. decimal_prints lo hi x (p.0, p.1) k.1) h
line_prints (form.Signed lo hi) s line k h = reprinted (IsSigned lo hi) setting.Signed s line (λ x t p. signed_prints lo hi x k.0 k.1 p.0 p.1) h
line_prints (form.Limit lo hi) s line k h = reprinted (IsLimit lo hi) setting.Limit s line (λ x t p. limit_prints lo hi x (limit_within lo hi x t p) k.1) h
line_prints form.SizeLimit s line k h = reprinted IsSizeLimit setting.Limit s line (λ x t p. size_limit_prints x (size_limit_within x t p)) h
line_prints form.Clamp s line k h = reprinted (IsClamp Written) setting.Clamp s line (λ x t p. clamp_prints Written x (clamp_within x t p)) h
line_prints form.Mode s line k h = (h.0, ap print_setting_line h.0)
line_prints form.Class s line k h = reprinted IsClass setting.Class s line (λ x t p. refl) h
line_prints form.Controllers s line k h = reprinted AreToggles setting.Controllers s line (λ x t p. record { some = p.some; each = p.each; line_is = refl }) h
line_prints form.CpuMax s line k h = reprinted (λ (x : Limit × Option ℕ) l. IsQuota (x.0) (x.1) l) (λ x. setting.CpuMax (x.0) (x.1)) s line (λ x t p. quota_prints (x.0) (x.1) (quota_within (x.0) (x.1) t p)) h
line_prints (form.Reclaim max) s line k h =
    reprinted (λ (x : ℕ × Option Limit) l. IsReclaim max (x.0) (x.1) l) (λ x. setting.Reclaim (x.0) (x.1)) s line (λ x t p. reclaim_prints max (x.0) (x.1) (reclaim_within max (x.0) (x.1) t p)) h
line_prints form.DeviceLimits s line k h = reprinted IsLimitWrite limits_setting s line (λ x t p. limit_write_prints x (limit_write_within x t p)) h
line_prints (form.DeviceWeight most) s line k h = weight_setting_prints most s line k.1 h
line_prints form.DeviceTarget s line k h = reprinted IsTargetWrite (λ (x : Device × ℕ). setting.DeviceTarget (x.0) (x.1)) s line (λ x t p. target_prints (x.0) (x.1) (target_within (x.0) (x.1) t p)) h
line_prints (form.Set most) s line k h = reprinted (IsLooseList most) setting.Set s line (λ x t p. set_prints most x p.0 (set_within most x t p) (list_end_small most k)) h
line_prints form.Role s line k h = reprinted IsRole setting.Role s line (λ x t p. refl) h
line_prints form.Trigger s line k h = reprinted IsTrigger (λ (x : Bool × Times). setting.Trigger (x.0) x.1.stall x.1.window) s line (λ x t p. times_print (x.0) (x.1) (times_within (x.0) (x.1) t p)) h
line_prints form.Raw s line k h = reprinted IsRaw setting.Raw s line (λ x t p. (refl, p.1)) h

-- The canonical line of a setting that fits.
pub setting_fits_print : (kind : WriteForm) (s : Setting) → IsWriteForm kind → FitsWrite kind s → WriteLine kind s (print_setting_line s)
setting_fits_print kind s k h = line_prints kind s h.line k h.spelled

-- Its canonical text is a write.
pub setting_text_prints : (kind : WriteForm) (s : Setting) → IsWriteForm kind → FitsWrite kind s → WriteText kind s (print_setting_of s)
setting_text_prints kind s k h = record { line = print_setting_line s; spelled = setting_fits_print kind s k h; text_is = refl }

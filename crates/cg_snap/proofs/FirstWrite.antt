-- Each kind of file that can be written has a write.
use Rattle.std.proofs.Common.{◌≤◌, ℕ, inl, inr, true, false, All, List, [], ◌∷◌, ◌++◌, Some, None, codes, refl, arith}
use Rattle.std.proofs.lemmas.List.Elements.{All-cons, All-nil}
use Rattle.cg_text.specs.Decimal.{IsDecimal}
use Rattle.cg_text.specs.Device.{IsDevice}
use Rattle.cg_text.specs.LimitPairs.{AreLimits}
use Rattle.cg_text.specs.Texts.{Viable}
use Rattle.cg_text.specs.Word.{IsControllerWord}
use Rattle.cg_text.specs.declared.pairs.LimitKey.TheVariants as key
use Rattle.cg_text.specs.declared.pairs.LimitPairs.{LimitPairs}
use Rattle.cg_text.specs.declared.values.Clamp.TheVariants as clamp
use Rattle.cg_text.specs.declared.values.IoClass.TheVariants.{Idle}
use Rattle.cg_text.specs.declared.values.Limit.TheVariants as limit
use Rattle.cg_value.specs.FirstLineLaws.{first_value}
use Rattle.cg_value.specs.Kind.{any_u64, IsWriteForm}
use Rattle.cg_value.specs.Settings.{KindWrite}
use Rattle.cg_value.specs.WriteLine.{WriteLine}
use Rattle.cg_value.specs.declared.kind.ReadForm.TheVariants as read
use Rattle.cg_value.specs.declared.kind.WriteForm.{WriteForm}
use Rattle.cg_value.specs.declared.kind.WriteForm.TheVariants as form
use Rattle.cg_value.specs.declared.setting.Setting.{Setting}
use Rattle.cg_value.specs.declared.setting.Setting.TheVariants as setting
use Rattle.cg_value.specs.declared.setting.Toggle.{Toggle}
use Rattle.cg_value.specs.declared.value.Role.TheVariants.{Member}

zero : (hi : ℕ) → IsDecimal 0 hi 0 (codes "0")
zero hi = (omega arith, omega arith, inl (refl, refl, refl))

one : (hi : ℕ) → 1 ≤ hi → IsDecimal 1 hi 1 (codes "1")
one hi le = (omega arith, le, inr (omega arith, omega arith, tt, refl))

device : IsDevice (record { major = 0; minor = 0 }) (codes "0:0")
device = record { major = codes "0"; minor = codes "0"; text_is = refl; major_is = zero 4095; minor_is = zero 1048575 }

rbps_max : LimitPairs
rbps_max = record { rbps = Some limit.Max; wbps = None; riops = None; wiops = None }

rbps_is : AreLimits rbps_max (codes "rbps=max")
unfolding rbps_max
rbps_is = record { pairs = (key.Rbps, limit.Max) ∷ []; spelled = (codes "max", refl, refl); distinct = (refl, tt); rbps = refl; wbps = refl; riops = refl; wiops = refl }

toggle : Toggle
toggle = record { on = true; name = codes "a" }

each_toggle : All (λ (t : Toggle). IsControllerWord t.name) (toggle ∷ [])
unfolding toggle
each_toggle = All-cons (λ (t : Toggle). IsControllerWord t.name) toggle [] (
  (
    (λ e. omega (arith, e)),
    (λ e. omega
        (arith, e)),
  ),
  (omega arith, ((omega arith, omega arith, (λ e. omega (arith, e))), tt)),
)
    (All-nil (λ (t : Toggle). IsControllerWord t.name))

-- A setting, with a line of it.
pub first_setting : (kind : WriteForm) → IsWriteForm kind → (s : Setting) × (line : List ℕ) × WriteLine kind s line
unfolding toggle rbps_max
first_setting (form.Number lo hi) b = let v = first_value (read.Number lo hi) b in (setting.Number v.2.x, v.2.line, record { x = v.2.x; value = refl; spelled = v.2.spelled })
first_setting (form.Signed lo hi) b = let v = first_value (read.Signed lo hi) b in (setting.Signed v.2.x, v.2.line, record { x = v.2.x; value = refl; spelled = v.2.spelled })
first_setting (form.Limit lo hi) b = (setting.Limit limit.Max, codes "max", record { x = limit.Max; value = refl; spelled = refl })
first_setting form.SizeLimit b = (setting.Limit limit.Max, codes "max", record { x = limit.Max; value = refl; spelled = refl })
first_setting form.Clamp b = (setting.Clamp clamp.Max, codes "max", record { x = clamp.Max; value = refl; spelled = refl })
first_setting form.Mode b = (setting.Threaded, codes "threaded", (refl, refl))
first_setting form.Class b = (setting.Class Idle, codes "idle", record { x = Idle; value = refl; spelled = refl })
first_setting form.Controllers b = (setting.Controllers (toggle ∷ []), codes "+a", record { x = toggle ∷ []; value = refl; spelled = record { some = λ e. absurd (cc); each = each_toggle; line_is = refl } })
first_setting form.CpuMax b = (setting.CpuMax limit.Max None, codes "max", record { x = (limit.Max, None); value = refl; spelled = refl })
first_setting (form.Reclaim max) b =
    (setting.Reclaim 0 None, codes "0", record { x = (0, None); value = refl; spelled = record { count = 0; factor = 1; product = refl; fits = omega arith; spelled = inl (inl (refl, refl, refl), refl) } })
first_setting form.DeviceLimits b = (
  setting.DeviceLimits (record { major = 0; minor = 0 }) (Some limit.Max) None None None,
  codes "0:0 rbps=max",
  record { x = (record { major = 0; minor = 0 }, rbps_max); value = refl; spelled = record { front = codes "0:0"; back = codes "rbps=max"; text_is = refl; front_is = device; back_is = rbps_is } },
)
first_setting (form.DeviceWeight most) b = (setting.DefaultWeight 1, codes "1", inl (one most b.0))
first_setting form.DeviceTarget b = (
  setting.DeviceTarget (record { major = 0; minor = 0 }) 0,
  codes "0:0 target=0",
  record { x = (record { major = 0; minor = 0 }, 0); value = refl; spelled = record { front = codes "0:0"; back = codes "0"; text_is = refl; front_is = device; back_is = zero any_u64 } },
)
first_setting (form.Set most) b = (setting.Set [], [], record { x = []; value = refl; spelled = (tt, [], (λ n. ((λ h. h), (λ h. h))), refl) })
first_setting form.Role b = (setting.Role Member, codes "member", record { x = Member; value = refl; spelled = refl })
first_setting form.Trigger b = (
  setting.Trigger false 1 1,
  codes "some 1 1",
  record {
    x = (false, record { stall = 1; window = 1 });
    value = refl;
    spelled = (codes "1 1", refl, record { stall = codes "1"; window = codes "1"; text_is = refl; stall_is = one 10000000 (omega arith); window_is = one 10000000 (omega arith) });
  },
)
first_setting form.Raw b = (setting.Raw [], [], record { x = []; value = refl; spelled = (refl, tt) })

-- A write of the kind can be begun.
pub can_be_written : (kind : WriteForm) → IsWriteForm kind → Viable (KindWrite kind) []
can_be_written kind b =
    let s = first_setting kind b in
    record { rest = s.1 ++ 10 ∷ []; whole = (s.0, record { line = s.1; spelled = s.2; text_is = refl }) }

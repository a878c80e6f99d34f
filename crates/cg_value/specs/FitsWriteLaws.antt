-- Which settings a write can hold: bounds on their numbers, and no more.
use Rattle.std.proofs.Common.{◌≡◌, ◌≢◌, ℕ, suc, ◌+◌, ◌≤◌, ◌↔◌, inl, inr, ℤ, pos, negsuc, ◌≤ℤ◌, Bool, true, false, cond, List, [], ◌∷◌, ◌++◌, Option, Some, None, All, codes, refl, sym, ◌∙◌, ap, subst, append_assoc, arith}
use Rattle.std.specs.Fmt.{decimal}
use Rattle.cg_text.specs.Class.{class_text}
use Rattle.cg_text.specs.Clamp.{IsClamp}
use Rattle.cg_text.specs.Decimal.{IsDecimal}
use Rattle.cg_text.specs.DecimalLaws.{numeral}
use Rattle.cg_text.specs.Device.{IsDevice}
use Rattle.cg_text.specs.Limit.{IsLimit}
use Rattle.cg_text.specs.LimitPairs.{is_key, limit_of, AreLimitPairs, AreLimits}
use Rattle.cg_text.specs.List.{IsLooseRangeText, AreLooseTexts, IsLooseList}
use Rattle.cg_text.specs.Numbers.{IsSetFrom, IsSet, Has}
use Rattle.cg_text.specs.Signed.{IsSigned, IsSignedNumeral}
use Rattle.cg_text.specs.Word.{IsControllerWord}
use Rattle.cg_text.specs.declared.hundredths.Spelling.TheVariants.{Written}
use Rattle.cg_text.specs.declared.pairs.LimitKey.{LimitKey}
use Rattle.cg_text.specs.declared.pairs.LimitKey.TheVariants.{Rbps, Wbps, Riops, Wiops}
use Rattle.cg_text.specs.declared.pairs.LimitPairs.{LimitPairs}
use Rattle.cg_text.specs.declared.trigger.Times.{Times}
use Rattle.cg_text.specs.declared.values.Clamp.{Clamp}
use Rattle.cg_text.specs.declared.values.Clamp.TheVariants as clamp
use Rattle.cg_text.specs.declared.values.Device.{Device}
use Rattle.cg_text.specs.declared.values.Limit.{Limit}
use Rattle.cg_text.specs.declared.values.Limit.TheVariants.{Max, At}
use Rattle.cg_value.specs.Kind.{any_u64, IsListEnd}
use Rattle.cg_value.specs.LimitPairsPrintLaws.{AreGood, limits_led, limits_print}
use Rattle.cg_value.specs.Lines.{IsLineOf}
use Rattle.cg_value.specs.Print.{print_limit, print_clamp, print_device, print_set, print_given, print_device_weight, print_setting_line}
use Rattle.cg_value.specs.PrintTokenLaws.{decimal_prints, limit_prints, size_prints, clamp_prints, device_prints, ranges_print, loose_ranges}
use Rattle.cg_value.specs.ReadLine.{role_text}
use Rattle.cg_value.specs.Settings.{FitsWrite}
use Rattle.cg_value.specs.Within.{IsWithin, IsLimitWithin, IsGivenWithin, IsClampWithin, IsDeviceWithin, IsQuotaWithin, IsGivenLimitWithin, NoneGiven, AreLimitsWithin, AreTimesWithin, AreRangesWithin, IsSwappinessWithin}
use Rattle.cg_value.specs.WriteLine.{IsSizeLimit, toggles_line, AreToggles, IsQuota, IsSwappiness, IsReclaim, IsLimitWrite, limits_setting, IsWeightWrite, IsTargetWrite, pressure_word, IsTrigger}
use Rattle.cg_value.specs.declared.kind.WriteForm.TheVariants as form
use Rattle.cg_value.specs.declared.setting.Setting.{Setting}
use Rattle.cg_value.specs.declared.setting.Setting.TheVariants as setting
use Rattle.cg_value.specs.declared.setting.Toggle.{Toggle}
use Rattle.cg_text.specs.declared.values.IoClass.{IoClass}
use Rattle.cg_value.specs.declared.value.Role.{Role}

append_nil : (xs : List ℕ) → xs ++ [] ≡ xs
append_nil [] = refl
append_nil (x ∷ xs) = ap (λ ys. x ∷ ys) (append_nil xs)

-- ---- A line of a value holds the value within its bounds, and the canonical line of one within them is such a line

pub limit_within : (lo hi : ℕ) (l : Limit) (line : List ℕ) → IsLimit lo hi l line → IsLimitWithin lo hi l
limit_within lo hi Max line h = tt
limit_within lo hi (At n) line h = (h.0, h.1)

limit_text : (lo hi : ℕ) (l : Limit) → IsLimitWithin lo hi l → (line : List ℕ) × IsLimit lo hi l line
limit_text lo hi Max h = (codes "max", refl)
limit_text lo hi (At n) h = let text = numeral n in (text.0, (h.0, h.1, text.1))

pub size_limit_within : (l : Limit) (line : List ℕ) → IsSizeLimit l line → IsLimitWithin 0 any_u64 l
size_limit_within Max line h = tt
size_limit_within (At n) line h = (omega arith, h.fits)

pub size_limit_prints : (l : Limit) → IsLimitWithin 0 any_u64 l → IsSizeLimit l (print_limit l)
size_limit_prints Max h = refl
size_limit_prints (At n) h = size_prints n h.1

pub clamp_within : (c : Clamp) (line : List ℕ) → IsClamp Written c line → IsClampWithin c
clamp_within clamp.Max line h = tt
clamp_within (clamp.At s) line h = h.0

pub device_within : (d : Device) (line : List ℕ) → IsDevice d line → IsDeviceWithin d
device_within d line h = (h.major_is.1, h.minor_is.1)

pub quota_within : (quota : Limit) (period : Option ℕ) (line : List ℕ) → IsQuota quota period line → IsQuotaWithin quota period
quota_within quota None line h = (limit_within 1000 any_u64 quota line h, tt)
quota_within quota (Some n) line h = (limit_within 1000 any_u64 quota h.front h.front_is, (h.back_is.0, h.back_is.1))

pub quota_prints : (quota : Limit) (period : Option ℕ) → IsQuotaWithin quota period → IsQuota quota period (print_limit quota ++ print_given (codes " ") decimal period)
quota_prints quota None h = rw (append_nil (print_limit quota)) (limit_prints 1000 any_u64 quota h.0 (omega arith))
quota_prints quota (Some n) h = record {
  front = print_limit quota;
  back = decimal n;
  text_is = sym (append_assoc (print_limit quota) (codes " ") (decimal n));
  front_is = limit_prints 1000 any_u64 quota h.0 (omega arith);
  back_is = decimal_prints 1000 1000000 n h.1 (omega arith);
}

pub reclaim_within : (max : Bool) (size : ℕ) (swappiness : Option Limit) (line : List ℕ) → IsReclaim max size swappiness line → IsWithin 0 any_u64 size × IsSwappinessWithin max swappiness
reclaim_within max size None line h = ((omega arith, h.fits), tt)
reclaim_within max size (Some Max) line h = ((omega arith, h.front_is.fits), h.back_is.0)
reclaim_within max size (Some (At n)) line h = ((omega arith, h.front_is.fits), (h.back_is.0, h.back_is.1))

swappiness_prints : (max : Bool) (l : Limit) → IsSwappinessWithin max (Some l) → IsSwappiness max l (print_limit l)
swappiness_prints max Max h = (h, refl)
swappiness_prints max (At n) h = decimal_prints 0 200 n h (omega arith)

pub reclaim_prints : (max : Bool) (size : ℕ) (swappiness : Option Limit) → IsWithin 0 any_u64 size × IsSwappinessWithin max swappiness → IsReclaim max size swappiness (decimal size ++ print_given (codes " swappiness=") print_limit swappiness)
reclaim_prints max size None h = rw (append_nil (decimal size)) (size_prints size h.0.1)
reclaim_prints max size (Some l) h = record {
  front = decimal size;
  back = print_limit l;
  text_is = sym (append_assoc (decimal size) (codes " swappiness=") (print_limit l));
  front_is = size_prints size h.0.1;
  back_is = swappiness_prints max l h.1;
}

pub weight_within : (most : ℕ) (device : Device) (weight : Option ℕ) (line : List ℕ) → IsWeightWrite most device weight line → IsDeviceWithin device × IsGivenWithin 1 most weight
weight_within most device (Some n) line h = (device_within device h.front h.front_is, (h.back_is.0, h.back_is.1))
weight_within most device None line h = (device_within device h.0 h.2, tt)

pub weight_prints : (most : ℕ) (device : Device) (weight : Option ℕ) → most ≤ any_u64 → IsDeviceWithin device × IsGivenWithin 1 most weight → IsWeightWrite most device weight (print_device device ++ print_device_weight weight)
weight_prints most device (Some n) b h = record {
  front = print_device device;
  back = decimal n;
  text_is = sym (append_assoc (print_device device) (codes " ") (decimal n));
  front_is = device_prints device h.0;
  back_is = decimal_prints 1 most n h.1 b;
}
weight_prints most device None b h = (print_device device, refl, device_prints device h.0)

pub target_within : (device : Device) (target : ℕ) (line : List ℕ) → IsTargetWrite (device, target) line → IsDeviceWithin device × IsWithin 0 any_u64 target
target_within device target line h = (device_within device h.front h.front_is, (h.back_is.0, h.back_is.1))

pub target_prints : (device : Device) (target : ℕ) → IsDeviceWithin device × IsWithin 0 any_u64 target → IsTargetWrite (device, target) (print_device device ++ codes " target=" ++ decimal target)
target_prints device target h = record {
  front = print_device device;
  back = decimal target;
  text_is = refl;
  front_is = device_prints device h.0;
  back_is = decimal_prints 0 any_u64 target h.1 (omega arith);
}

pub times_within : (full : Bool) (times : Times) (line : List ℕ) → IsTrigger (full, times) line → AreTimesWithin times.stall times.window
times_within full times line h = (h.2.stall_is.0, h.2.window_is.0, h.2.window_is.1)

pub times_print : (full : Bool) (times : Times) → AreTimesWithin times.stall times.window → IsTrigger (full, times) (pressure_word full ++ 32 ∷ (decimal times.stall ++ 32 ∷ decimal times.window))
times_print full times h = (
  decimal times.stall ++ 32 ∷ decimal times.window,
  sym (append_assoc (pressure_word full) (codes " ") (decimal times.stall ++ 32 ∷ decimal times.window)),
  record {
    stall = decimal times.stall;
    window = decimal times.window;
    text_is = refl;
    stall_is = decimal_prints 1 10000000 times.stall (h.0, omega (arith, h.1, h.2)) (omega arith);
    window_is = decimal_prints times.stall 10000000 times.window (h.1, h.2) (omega arith);
  },
)

-- ---- Sets

range_below : (most : ℕ) (r : ℕ × ℕ) (text : List ℕ) → IsLooseRangeText most r text → r.1 ≤ most
range_below most r text (inl h) = omega (arith, h.0, h.1.1)
range_below most r text (inr h) = h.5.1

numbers_below : (most : ℕ) (rs : List (ℕ × ℕ)) (text : List ℕ) (n : ℕ) → AreLooseTexts most rs text → Has rs n → n ≤ most
numbers_below most [] text n h k = absurd k
numbers_below most (r ∷ []) text n h (inl k) = omega (arith, range_below most r text h, k.1)
numbers_below most (r ∷ []) text n h (inr k) = absurd k
numbers_below most (r ∷ q ∷ rs) text n h (inl k) = omega (arith, range_below most r h.0 h.3, k.1)
numbers_below most (r ∷ q ∷ rs) text n h (inr k) = numbers_below most (q ∷ rs) h.1 n h.4 k

ends_below : (least most : ℕ) (rs : List (ℕ × ℕ)) → IsSetFrom least rs → ((n : ℕ) → Has rs n → n ≤ most) → AreRangesWithin most rs
ends_below least most [] s h = tt
ends_below least most (r ∷ rs) s h = (h (r.1) (inl (s.1, omega arith)), ends_below (r.1 + 2) most rs s.2 (λ n k. h n (inr k)))

pub set_within : (most : ℕ) (set : List (ℕ × ℕ)) (line : List ℕ) → IsLooseList most set line → AreRangesWithin most set
set_within most set line h = ends_below 0 most set h.0 (λ n k. numbers_below most h.1 line n h.3 ((h.2 n).0 k))

pub set_prints : (most : ℕ) (set : List (ℕ × ℕ)) → IsSet set → AreRangesWithin most set → most ≤ any_u64 → IsLooseList most set (print_set set)
set_prints most set s h b = (s, set, (λ n. (λ k. k, λ k. k)), loose_ranges most set (print_set set) (ranges_print 0 most set s h b))

-- ---- The limits of a device

pairs_good : (ps : List (LimitKey × Limit)) (text : List ℕ) → AreLimitPairs ps text → AreGood ps
pairs_good [] text h = absurd h
pairs_good (p ∷ []) text h = (limit_within 1 any_u64 (p.1) h.0 h.2, tt)
pairs_good (p ∷ q ∷ ps) text h = (limit_within 1 any_u64 (p.1) h.3.0 h.3.2, pairs_good (q ∷ ps) h.1 h.4)

given_by : (b : Bool) (l : Limit) (o : Option Limit) → IsLimitWithin 1 any_u64 l → IsGivenLimitWithin o → IsGivenLimitWithin (cond b (Some l) o)
given_by true l o h k = h
given_by false l o h k = k

given_within : (key : LimitKey) (ps : List (LimitKey × Limit)) → AreGood ps → IsGivenLimitWithin (limit_of key ps)
given_within key [] h = tt
given_within key (p ∷ ps) h = given_by (is_key key (p.0)) (p.1) (limit_of key ps) h.0 (given_within key ps h.1)

given_along : (o n : Option Limit) → o ≡ n → IsGivenLimitWithin n → IsGivenLimitWithin o
given_along o n e h = rw e h

first_given : (key : LimitKey) (l : Limit) (ps : List (LimitKey × Limit)) → limit_of Rbps ((key, l) ∷ ps) ≡ None → limit_of Wbps ((key, l) ∷ ps) ≡ None → limit_of Riops ((key, l) ∷ ps) ≡ None → limit_of Wiops ((key, l) ∷ ps) ≡ None → ⊥
first_given Rbps l ps a b c d = cc
first_given Wbps l ps a b c d = cc
first_given Riops l ps a b c d = cc
first_given Wiops l ps a b c d = cc

some_given : (v : LimitPairs) (text : List ℕ) (ps : List (LimitKey × Limit)) → AreLimitPairs ps text → v.rbps ≡ limit_of Rbps ps → v.wbps ≡ limit_of Wbps ps → v.riops ≡ limit_of Riops ps → v.wiops ≡ limit_of Wiops ps → NoneGiven v → ⊥
some_given v text [] h a b c d n = absurd h
some_given v text (p ∷ ps) h a b c d n = first_given (p.0) (p.1) ps (sym a ∙ n.0) (sym b ∙ n.1) (sym c ∙ n.2) (sym d ∙ n.3)

limits_within : (v : LimitPairs) (text : List ℕ) → AreLimits v text → AreLimitsWithin v
limits_within v text h =
    let good = pairs_good h.pairs text h.spelled in
    record {
      some = some_given v text h.pairs h.spelled h.rbps h.wbps h.riops h.wiops;
      rbps = given_along v.rbps (limit_of Rbps h.pairs) h.rbps (given_within Rbps h.pairs good);
      wbps = given_along v.wbps (limit_of Wbps h.pairs) h.wbps (given_within Wbps h.pairs good);
      riops = given_along v.riops (limit_of Riops h.pairs) h.riops (given_within Riops h.pairs good);
      wiops = given_along v.wiops (limit_of Wiops h.pairs) h.wiops (given_within Wiops h.pairs good);
    }

pub limit_write_within : (x : Device × LimitPairs) (line : List ℕ) → IsLimitWrite x line → IsDeviceWithin (x.0) × AreLimitsWithin (x.1)
limit_write_within x line h = (device_within (x.0) h.front h.front_is, limits_within (x.1) h.back h.back_is)

pub limit_write_prints : (x : Device × LimitPairs) → IsDeviceWithin (x.0) × AreLimitsWithin (x.1) → IsLimitWrite x (print_setting_line (limits_setting x))
limit_write_prints x h =
    let made = limits_print (x.1) h.1 in
    record {
      front = print_device (x.0);
      back = made.0;
      text_is = limits_led (print_device (x.0)) (x.1) ∙ rw made.1 (sym (append_assoc (print_device (x.0)) (codes " ") made.0));
      front_is = device_prints (x.0) h.0;
      back_is = made.2;
    }

-- ---- Where no two values make one setting, a line that spells the setting is one of its value

pub made : {X : Type 0} (P : X → List ℕ → Type 0) (make : X → Setting) → ((x y : X) → make x ≡ make y → x ≡ y) → (x : X) (line : List ℕ) → IsLineOf P make (make x) line → P x line
made P make one x line h = subst (λ y. P y line) (sym (one x h.x h.value)) h.spelled

same_parts : {A B : Type 0} (a c : A) (b d : B) → a ≡ c → b ≡ d → ◌≡◌ {A = A × B} (a, b) (c, d)
same_parts a c b d e f = cc

same_pair : {A B : Type 0} (x y : A × B) → x.0 ≡ y.0 → x.1 ≡ y.1 → x ≡ y
same_pair x y e f = same_parts (x.0) (y.0) (x.1) (y.1) e f

pub number_fits : (lo hi n : ℕ) → IsWithin lo hi n ↔ FitsWrite (form.Number lo hi) (setting.Number n)
number_fits lo hi n = (
  λ h. (let text = numeral n in record { line = text.0; spelled = record { x = n; value = refl; spelled = (h.0, h.1, text.1) } }),
  λ h. (let text = made (IsDecimal lo hi) setting.Number (λ x y e. cc) n h.line h.spelled in (text.0, text.1)),
)

signed_numeral : (z : ℤ) → (text : List ℕ) × IsSignedNumeral z text
signed_numeral (pos n) = numeral n
signed_numeral (negsuc n) = let text = numeral (suc n) in (45 ∷ text.0, (text.0, refl, text.1))

pub signed_fits : (lo hi z : ℤ) → ((lo ≤ℤ z) × (z ≤ℤ hi)) ↔ FitsWrite (form.Signed lo hi) (setting.Signed z)
signed_fits lo hi z = (
  λ h. (let text = signed_numeral z in record { line = text.0; spelled = record { x = z; value = refl; spelled = (h.0, h.1, text.1) } }),
  λ h. (let text = made (IsSigned lo hi) setting.Signed (λ x y e. cc) z h.line h.spelled in (text.0, text.1)),
)

pub limit_fits : (lo hi : ℕ) (l : Limit) → IsLimitWithin lo hi l ↔ FitsWrite (form.Limit lo hi) (setting.Limit l)
limit_fits lo hi l = (
  λ h. (let text = limit_text lo hi l h in record { line = text.0; spelled = record { x = l; value = refl; spelled = text.1 } }),
  λ h. limit_within lo hi l h.line (made (IsLimit lo hi) setting.Limit (λ x y e. cc) l h.line h.spelled),
)

pub size_limit_fits : (l : Limit) → IsLimitWithin 0 any_u64 l ↔ FitsWrite form.SizeLimit (setting.Limit l)
size_limit_fits l = (
  λ h. record { line = print_limit l; spelled = record { x = l; value = refl; spelled = size_limit_prints l h } },
  λ h. size_limit_within l h.line (made IsSizeLimit setting.Limit (λ x y e. cc) l h.line h.spelled),
)

pub clamp_fits : (c : Clamp) → IsClampWithin c ↔ FitsWrite form.Clamp (setting.Clamp c)
clamp_fits c = (
  λ h. record { line = print_clamp c; spelled = record { x = c; value = refl; spelled = clamp_prints Written c h } },
  λ h. clamp_within c h.line (made (IsClamp Written) setting.Clamp (λ x y e. cc) c h.line h.spelled),
)

pub mode_fits : FitsWrite form.Mode setting.Threaded
mode_fits = record { line = codes "threaded"; spelled = (refl, refl) }

pub class_fits : (class : IoClass) → FitsWrite form.Class (setting.Class class)
class_fits class = record { line = class_text class; spelled = record { x = class; value = refl; spelled = refl } }

pub toggles_fit : (ts : List Toggle) → ((ts ≢ []) × All (λ t. IsControllerWord t.name) ts) ↔ FitsWrite form.Controllers (setting.Controllers ts)
toggles_fit ts = (
  λ h. record { line = toggles_line ts; spelled = record { x = ts; value = refl; spelled = record { some = h.0; each = h.1; line_is = refl } } },
  λ h. (let text = made AreToggles setting.Controllers (λ x y e. cc) ts h.line h.spelled in (text.some, text.each)),
)

pub quota_fits : (quota : Limit) (period : Option ℕ) → IsQuotaWithin quota period ↔ FitsWrite form.CpuMax (setting.CpuMax quota period)
quota_fits quota period = (
  λ h. record { line = print_limit quota ++ print_given (codes " ") decimal period; spelled = record { x = (quota, period); value = refl; spelled = quota_prints quota period h } },
  λ h. quota_within quota period h.line (made (λ (x : Limit × Option ℕ) l. IsQuota (x.0) (x.1) l) (λ x. setting.CpuMax (x.0) (x.1)) (λ x y e. same_pair x y (cc) (cc)) (quota, period) h.line h.spelled),
)

pub reclaim_fits : (max : Bool) (size : ℕ) (swappiness : Option Limit) → (IsWithin 0 any_u64 size × IsSwappinessWithin max swappiness) ↔ FitsWrite (form.Reclaim max) (setting.Reclaim size swappiness)
reclaim_fits max size swappiness = (
  λ h. record { line = decimal size ++ print_given (codes " swappiness=") print_limit swappiness; spelled = record { x = (size, swappiness); value = refl; spelled = reclaim_prints max size swappiness h } },
  λ h. reclaim_within max size swappiness h.line (made (λ (x : ℕ × Option Limit) l. IsReclaim max (x.0) (x.1) l) (λ x. setting.Reclaim (x.0) (x.1)) (λ x y e. same_pair x y (cc) (cc)) (size, swappiness) h.line h.spelled),
)

abbrev limits_of : Option Limit → Option Limit → Option Limit → Option Limit → LimitPairs
limits_of a b c d = record { rbps = a; wbps = b; riops = c; wiops = d }

same_four : (a e b f c g d h : Option Limit) → a ≡ e → b ≡ f → c ≡ g → d ≡ h → limits_of a b c d ≡ limits_of e f g h
same_four a e b f c g d h i j k l = cc

same_limits : (v w : LimitPairs) → v.rbps ≡ w.rbps → v.wbps ≡ w.wbps → v.riops ≡ w.riops → v.wiops ≡ w.wiops → v ≡ w
same_limits v w a b c d = same_four v.rbps w.rbps v.wbps w.wbps v.riops w.riops v.wiops w.wiops a b c d

pub limits_fit : (x : Device × LimitPairs) → (IsDeviceWithin (x.0) × AreLimitsWithin (x.1)) ↔ FitsWrite form.DeviceLimits (limits_setting x)
limits_fit x = (
  λ h. record { line = print_setting_line (limits_setting x); spelled = record { x = x; value = refl; spelled = limit_write_prints x h } },
  λ h. limit_write_within x h.line (made IsLimitWrite limits_setting (λ y z e. same_pair y z (cc) (same_limits (y.1) (z.1) (cc) (cc) (cc) (cc))) x h.line h.spelled),
)

pub default_fits : (most weight : ℕ) → most ≤ any_u64 → IsWithin 1 most weight ↔ FitsWrite (form.DeviceWeight most) (setting.DefaultWeight weight)
default_fits most weight b = (
  λ h. record { line = decimal weight; spelled = inl (decimal_prints 1 most weight h b) },
  λ h. elim h.spelled [ inl k ↦ (k.0, k.1) | inr k ↦ (k.2.0, k.2.1) ],
)

pub weight_fits : (most : ℕ) (device : Device) (weight : Option ℕ) → most ≤ any_u64 → (IsDeviceWithin device × IsGivenWithin 1 most weight) ↔ FitsWrite (form.DeviceWeight most) (setting.DeviceWeight device weight)
weight_fits most device weight b = (
  λ h. record { line = print_device device ++ print_device_weight weight; spelled = weight_prints most device weight b h },
  λ h. weight_within most device weight h.line h.spelled,
)

pub target_fits : (device : Device) (target : ℕ) → (IsDeviceWithin device × IsWithin 0 any_u64 target) ↔ FitsWrite form.DeviceTarget (setting.DeviceTarget device target)
target_fits device target = (
  λ h. record { line = print_device device ++ codes " target=" ++ decimal target; spelled = record { x = (device, target); value = refl; spelled = target_prints device target h } },
  λ h. target_within device target h.line (made IsTargetWrite (λ (x : Device × ℕ). setting.DeviceTarget (x.0) (x.1)) (λ x y e. same_pair x y (cc) (cc)) (device, target) h.line h.spelled),
)

pub list_end_small : (most : ℕ) → IsListEnd most → most ≤ any_u64
list_end_small most (inl e) = omega (arith, e)
list_end_small most (inr e) = omega (arith, e)

pub set_fits : (most : ℕ) (set : List (ℕ × ℕ)) → most ≤ any_u64 → (IsSet set × AreRangesWithin most set) ↔ FitsWrite (form.Set most) (setting.Set set)
set_fits most set b = (
  λ h. record { line = print_set set; spelled = record { x = set; value = refl; spelled = set_prints most set h.0 h.1 b } },
  λ h. (let text = made (IsLooseList most) setting.Set (λ x y e. cc) set h.line h.spelled in (text.0, set_within most set h.line text)),
)

pub role_fits : (role : Role) → FitsWrite form.Role (setting.Role role)
role_fits role = record { line = role_text role; spelled = record { x = role; value = refl; spelled = refl } }

abbrev times_of : ℕ → ℕ → Times
times_of stall window = record { stall = stall; window = window }

same_two : (a c b d : ℕ) → a ≡ c → b ≡ d → times_of a b ≡ times_of c d
same_two a c b d e f = cc

same_times : (v w : Times) → v.stall ≡ w.stall → v.window ≡ w.window → v ≡ w
same_times v w a b = same_two v.stall w.stall v.window w.window a b

pub times_fit : (full : Bool) (stall window : ℕ) → AreTimesWithin stall window ↔ FitsWrite form.Trigger (setting.Trigger full stall window)
times_fit full stall window = (
  λ h. record { line = pressure_word full ++ 32 ∷ (decimal stall ++ 32 ∷ decimal window); spelled = record { x = (full, times_of stall window); value = refl; spelled = times_print full (times_of stall window) h } },
  λ h. times_within full (times_of stall window) h.line
      (made IsTrigger (λ (x : Bool × Times). setting.Trigger (x.0) x.1.stall x.1.window)
      (λ x y e. same_pair x y (cc) (same_times (x.1) (y.1) (cc) (cc)))
      (full, times_of stall window) h.line h.spelled),
)

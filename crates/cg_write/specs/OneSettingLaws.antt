-- A text has one setting, kind by kind.
use Rattle.std.proofs.Common.{◌≡◌, ℕ, ◌≤◌, inl, inr, Bool, false, ℤ, pos, negsuc, List, [], ◌∷◌, ◌+◌, Option, None, refl, sym, ◌∙◌, ap, arith}
use Rattle.cg_text.specs.Class.{IsClass}
use Rattle.cg_text.specs.Clamp.{IsClamp}
use Rattle.cg_text.specs.Decimal.{IsDecimal, IsNumeral}
use Rattle.cg_text.specs.DecimalLaws.{IsNumeral_one, number_digits}
use Rattle.cg_text.specs.Hundredths.{IsHundredths}
use Rattle.cg_text.specs.HundredthsLaws.{hundredths_new, hundredths_one}
use Rattle.cg_text.specs.HundredthsState.{WholePart}
use Rattle.cg_text.specs.Keyword.{text_of}
use Rattle.cg_text.specs.Limit.{IsLimit}
use Rattle.cg_text.specs.LimitPairsLaws.{limits_new, limits_one, no_limits}
use Rattle.cg_text.specs.List.{IsLooseList}
use Rattle.cg_text.specs.ListFacts.{push_one, tails}
use Rattle.cg_text.specs.ListLaws.{list_one}
use Rattle.cg_text.specs.ListState.{IsListRest}
use Rattle.cg_text.specs.ListTextLaws.{list_new}
use Rattle.cg_text.specs.LooseLaws.{loose_is, loose_one}
use Rattle.cg_text.specs.Signed.{IsSigned}
use Rattle.cg_text.specs.Size.{HasSize, IsSize}
use Rattle.cg_text.specs.SizeLaws as sizes
use Rattle.cg_text.specs.SizeState.{HasSizeRest, IsSizeRest}
use Rattle.cg_text.specs.Token.{HasOneText}
use Rattle.cg_text.specs.TriggerLaws as triggers
use Rattle.cg_text.specs.declared.decimal.DecimalText.{DecimalText}
use Rattle.cg_text.specs.declared.decimal.Progress.TheVariants.{Start}
use Rattle.cg_text.specs.declared.hundredths.Spelling.TheVariants.{Written}
use Rattle.cg_text.specs.declared.hundredths.Part.TheVariants.{Whole}
use Rattle.cg_text.specs.declared.keyword.Keyword.TheVariants as word
use Rattle.cg_text.specs.declared.pairs.LimitKey.TheVariants.{Rbps}
use Rattle.cg_text.specs.declared.pairs.PairPart.TheVariants.{InKey}
use Rattle.cg_text.specs.declared.size.Taken.TheVariants.{Count}
use Rattle.cg_text.specs.declared.trigger.Times.{Times}
use Rattle.cg_text.specs.declared.values.Clamp.TheVariants as clamp
use Rattle.cg_text.specs.declared.values.Device.{Device}
use Rattle.cg_text.specs.declared.values.Limit.{Limit}
use Rattle.cg_text.specs.declared.values.Limit.TheVariants.{Max, At}
use Rattle.cg_join.specs.ApartLaws.{fixed_apart, lacking_apart}
use Rattle.cg_join.specs.BeginsLaws.{label_begins, maybe_begins_by}
use Rattle.cg_join.specs.ClassLaws.{class_one}
use Rattle.cg_join.specs.Composites.{IsNumberIn, IsSpaced, IsWrittenQuota}
use Rattle.cg_join.specs.FilledLaws.{first_filled, fixed_filled}
use Rattle.cg_join.specs.KeyedLaws.{some_one}
use Rattle.cg_join.specs.LackingLaws.{limit_lacking}
use Rattle.cg_join.specs.LimitState.{limit_of}
use Rattle.cg_join.specs.MaxLaws.{max_not_decimal, max_not_hundredths}
use Rattle.cg_join.specs.OneTextLaws.{concat_one, either_one, fixed_one, maybe_one, one_as, mapped_text_one}
use Rattle.cg_join.specs.ProperLaws.{device_proper, device_target_proper}
use Rattle.cg_join.specs.RepeatLaws as repeat
use Rattle.cg_join.specs.StartLaws.{one_decimal}
use Rattle.cg_value.specs.Kind.{any_u64}
use Rattle.cg_value.specs.Lines.{IsLineOf}
use Rattle.cg_value.specs.Print.{print_setting_of}
use Rattle.cg_value.specs.PrintSettingLaws.{setting_text_prints}
use Rattle.cg_value.specs.ReadLine.{IsRaw}
use Rattle.cg_value.specs.TableLaws.{write_form_ok}
use Rattle.cg_value.specs.WriteLine.{AreToggles, IsLimitWrite, IsQuota, IsReclaim, IsRole, IsSizeLimit, IsTargetWrite, IsTrigger, WriteLine, limits_setting}
use Rattle.cg_value.specs.declared.kind.WriteForm.{WriteForm}
use Rattle.cg_value.specs.declared.kind.WriteForm.TheVariants as form
use Rattle.cg_value.specs.declared.setting.Setting.{Setting}
use Rattle.cg_value.specs.declared.setting.Setting.TheVariants as setting
use Rattle.cg_write.specs.ChosenWeightLaws.{chosen_is, word_no_weight}
use Rattle.cg_write.specs.ControllersLaws.{toggle_stops, toggles_are}
use Rattle.cg_write.specs.CpuMaxLaws.{written_quota_is}
use Rattle.cg_write.specs.DefaultWeightLaws.{default_is, weight_no_word}
use Rattle.cg_write.specs.DeviceLimitsLaws.{limits_apart, limits_are}
use Rattle.cg_write.specs.DeviceTargetLaws.{target_is}
use Rattle.cg_write.specs.DeviceWeightLaws.{default_no_device, device_apart, weight_is}
use Rattle.cg_write.specs.Laws.{OneSetting, OneSettingOfName, ReadBack, ReadBackOfName}
use Rattle.cg_write.specs.ReclaimLaws.{labelled_one, reclaim_apart, reclaim_is}
use Rattle.cg_write.specs.RoleLaws.{member_no_root, role_is, root_not_isolated}
use Rattle.cg_write.specs.SizeLimitLaws.{size_limit_is, size_no_max}
use Rattle.cg_write.specs.Texts.{AreSomeLimits, AreSomeTimes, IsAnyWeight, IsASize, IsChosen, IsDefault, IsToggle, IsWeight}
use Rattle.cg_write.specs.ToggleLaws.{one_toggle}
use Rattle.cg_write.specs.TriggerLaws.{some_not_full, tasks_apart, trigger_is}
use Rattle.cg_write.specs.Mapped.{both_of, chosen_weight, default_weight, perhaps_both, role_of, threshold_of, weight_of}

-- ---- Numbers

no_minus : (m : ℕ) (more : List ℕ) → IsNumeral m (45 ∷ more) → ⊥
no_minus m more (inl h) = omega (arith, h.0)
no_minus m more (inr h) = omega (arith, h.0)

signed_one : (lo hi : ℤ) → HasOneText (λ line z. IsSigned lo hi z line)
signed_one lo hi line (pos m) (pos n) h k = ap pos (IsNumeral_one m n line h.2 k.2)
signed_one lo hi line (pos m) (negsuc n) h k = absurd (no_minus m k.2.0 (rw k.2.1 at h.2))
signed_one lo hi line (negsuc m) (pos n) h k = absurd (no_minus n h.2.0 (rw h.2.1 at k.2))
signed_one lo hi line (negsuc m) (negsuc n) h k =
    let same : h.2.0 ≡ k.2.0 = tails 45 45 h.2.0 k.2.0 (sym h.2.1 ∙ k.2.1) in
    let next = IsNumeral_one _ _ k.2.0 (rw same at h.2.2) k.2.2 in
    let number : m ≡ n = omega (arith, next) in
    ap negsuc number

limit_one : (lo hi : ℕ) → HasOneText (λ line v. IsLimit lo hi v line)
limit_one lo hi line Max Max h k = refl
limit_one lo hi line Max (At n) h k = absurd (max_not_decimal lo hi n line h k)
limit_one lo hi line (At m) Max h k = absurd (max_not_decimal lo hi m line k h)
limit_one lo hi line (At m) (At n) h k = ap At (one_decimal lo hi line m n h k)

written_one : HasOneText (λ line v. IsHundredths Written 10000 v line)
written_one = one_as (hundredths_new Written 10000 (WholePart 10000 Start) (λ x n. (λ h. h, λ h. h))) (hundredths_one Written 10000 (Whole Start))

clamp_one : HasOneText (λ line c. IsClamp Written c line)
clamp_one line clamp.Max clamp.Max h k = refl
clamp_one line clamp.Max (clamp.At b) h k = absurd (max_not_hundredths Written 10000 b line h k)
clamp_one line (clamp.At a) clamp.Max h k = absurd (max_not_hundredths Written 10000 a line k h)
clamp_one line (clamp.At a) (clamp.At b) h k = ap clamp.At (written_one line a b h k)

-- A size's count is at most any number above it.
count_rest : (hi m factor : ℕ) (text : List ℕ) → m ≤ hi → HasSize m factor text → HasSizeRest (λ t n. IsDecimal 0 hi n t) m factor text
count_rest hi m factor text le (inl h) = inl ((omega arith, le, h.0), h.1)
count_rest hi m factor text le (inr h) = inr (h.0, h.1, h.2, (omega arith, le, h.3), h.4)

size_rest : (hi n : ℕ) (text : List ℕ) (h : IsSize n text) → h.count ≤ hi → IsSizeRest (λ t m. IsDecimal 0 hi m t) text n
size_rest hi n text h le = record { count = h.count; factor = h.factor; product = h.product; fits = h.fits; spelled = count_rest hi h.count h.factor text le h.spelled }

size_one : HasOneText IsASize
size_one text v w h k =
    let hi = h.count + k.count in
    let number : DecimalText = record { lo = 0; hi = hi; progress = Start; range = omega arith; live = refl } in
    sizes.size_one (Count number) text v w (size_rest hi v text h (omega arith)) (size_rest hi w text k (omega arith))

-- ---- Lines of one setting

size_limit_one : HasOneText (λ line v. IsSizeLimit v line)
size_limit_one = one_as size_limit_is (mapped_text_one limit_of (either_one size_no_max size_one (fixed_one (text_of word.Max))))

toggles_one : HasOneText (λ line ts. AreToggles ts line)
toggles_one = one_as toggles_are (repeat.list_one 32 IsToggle IsToggle toggle_stops toggle_stops one_toggle one_toggle)

spaced_one : {V : Type 0} (R : List ℕ → V → Type 0) → HasOneText R → HasOneText (IsSpaced R)
spaced_one R one = concat_one (fixed_apart (32 ∷ []) R) (fixed_one (32 ∷ [])) one

written_quota_one : HasOneText IsWrittenQuota
written_quota_one = concat_one (lacking_apart (limit_lacking 32 1000 any_u64 (omega arith)) (maybe_begins_by (label_begins 32 _))) (limit_one 1000 any_u64)
    (maybe_one (first_filled (fixed_filled 32 _)) (spaced_one (IsNumberIn 1000 1000000) (one_decimal 1000 1000000)))

quota_one : HasOneText (λ line (x : Limit × Option ℕ). IsQuota (x.0) (x.1) line)
quota_one = one_as written_quota_is (mapped_text_one perhaps_both written_quota_one)

reclaim_one : (max : Bool) → HasOneText (λ line (x : ℕ × Option Limit). IsReclaim max (x.0) (x.1) line)
reclaim_one max = one_as (reclaim_is max) (mapped_text_one perhaps_both (concat_one (reclaim_apart max) size_one (maybe_one (first_filled (fixed_filled 32 _)) (labelled_one max))))

some_limits_one : HasOneText AreSomeLimits
some_limits_one = one_as limits_new (limits_one no_limits (InKey Rbps 0))

limit_write_one : HasOneText (λ line x. IsLimitWrite x line)
limit_write_one = one_as limits_are (mapped_text_one both_of (concat_one limits_apart device_proper.one_text (spaced_one AreSomeLimits some_limits_one)))

default_one : (most : ℕ) → HasOneText (IsDefault most)
default_one most = one_as (default_is most) (mapped_text_one default_weight (either_one (weight_no_word most) (one_decimal 1 most)
    (concat_one (fixed_apart (text_of word.Default) (IsSpaced (IsWeight most))) (fixed_one (text_of word.Default)) (spaced_one (IsWeight most) (one_decimal 1 most)))))

chosen_one : (most : ℕ) → HasOneText (IsChosen most)
chosen_one most = one_as (chosen_is most) (mapped_text_one chosen_weight (either_one (word_no_weight most) (fixed_one (text_of word.Default)) (one_decimal 1 most)))

any_weight_one : (most : ℕ) → HasOneText (IsAnyWeight most)
any_weight_one most = either_one (default_no_device most) (default_one most) (concat_one (device_apart most) device_proper.one_text (spaced_one (IsChosen most) (chosen_one most)))

target_one : HasOneText (λ line x. IsTargetWrite x line)
target_one = one_as target_is (mapped_text_one both_of device_target_proper.one_text)

set_one : (most : ℕ) → HasOneText (λ line set. IsLooseList most set line)
set_one most =
    let ranges = IsListRest false [] most None (λ x n. IsDecimal 0 most n x) in
    one_as (loose_is ranges most (list_new false most (λ x n. IsDecimal 0 most n x) (λ x n. (λ h. h, λ h. h)) [] refl))
    (loose_one ranges (list_one false most (λ x n. IsDecimal 0 most n x) (λ x n h. number_digits 0 most Start x n h) (λ x m n h k. one_decimal 0 most x m n h k) [] None (λ e n h. h.2)))

role_one : HasOneText (λ line role. IsRole role line)
role_one = one_as role_is (mapped_text_one role_of (either_one member_no_root (fixed_one (text_of word.Member)) (either_one root_not_isolated (fixed_one (text_of word.Root)) (fixed_one (text_of word.Isolated)))))

times_one : HasOneText AreSomeTimes
times_one text v w h k =
    triggers.times_one None (λ x n. IsDecimal 1 10000000 n x) (λ x n d. number_digits 1 10000000 Start x n d) (λ x m n a b. one_decimal 1 10000000 x m n a b) text v w
    (h.stall, h.window, h.text_is, h.stall_is, h.window_is) (k.stall, k.window, k.text_is, k.stall_is, k.window_is)

trigger_one : HasOneText (λ line x. IsTrigger x line)
trigger_one = one_as trigger_is (mapped_text_one threshold_of (concat_one tasks_apart (either_one some_not_full (fixed_one (text_of word.Some)) (fixed_one (text_of word.Full))) (spaced_one AreSomeTimes times_one)))

raw_one : HasOneText (λ line bytes. IsRaw bytes line)
raw_one line v w h k = sym h.0 ∙ k.0

-- ---- Writes

line_one : {X : Type 0} (P : X → List ℕ → Type 0) (make : X → Setting) → HasOneText (λ line x. P x line) → (s t : Setting) (line : List ℕ) → IsLineOf P make s line → IsLineOf P make t line → s ≡ t
line_one P make one s t line h k = h.value ∙ ap make (one line h.x k.x h.spelled k.spelled) ∙ sym k.value

-- A line spells one setting.
line_setting : (kind : WriteForm) (s t : Setting) (line : List ℕ) → WriteLine kind s line → WriteLine kind t line → s ≡ t
line_setting (form.Number lo hi) s t line h k = line_one (IsDecimal lo hi) setting.Number (one_decimal lo hi) s t line h k
line_setting (form.Signed lo hi) s t line h k = line_one (IsSigned lo hi) setting.Signed (signed_one lo hi) s t line h k
line_setting (form.Limit lo hi) s t line h k = line_one (IsLimit lo hi) setting.Limit (limit_one lo hi) s t line h k
line_setting form.SizeLimit s t line h k = line_one IsSizeLimit setting.Limit size_limit_one s t line h k
line_setting form.Clamp s t line h k = line_one (IsClamp Written) setting.Clamp clamp_one s t line h k
line_setting form.Mode s t line h k = h.0 ∙ sym k.0
line_setting form.Controllers s t line h k = line_one AreToggles setting.Controllers toggles_one s t line h k
line_setting form.CpuMax s t line h k = line_one (λ (x : Limit × Option ℕ) l. IsQuota (x.0) (x.1) l) (λ x. setting.CpuMax (x.0) (x.1)) quota_one s t line h k
line_setting (form.Reclaim max) s t line h k = line_one (λ (x : ℕ × Option Limit) l. IsReclaim max (x.0) (x.1) l) (λ x. setting.Reclaim (x.0) (x.1)) (reclaim_one max) s t line h k
line_setting form.DeviceLimits s t line h k = line_one IsLimitWrite limits_setting limit_write_one s t line h k
line_setting (form.DeviceWeight most) s t line h k = line_one (λ v l. IsAnyWeight most l v) weight_of (any_weight_one most) s t line ((weight_is most s line).0 h) ((weight_is most t line).0 k)
line_setting form.DeviceTarget s t line h k = line_one IsTargetWrite (λ (x : Device × ℕ). setting.DeviceTarget (x.0) (x.1)) target_one s t line h k
line_setting (form.Set most) s t line h k = line_one (IsLooseList most) setting.Set (set_one most) s t line h k
line_setting form.Role s t line h k = line_one IsRole setting.Role role_one s t line h k
line_setting form.Class s t line h k = line_one IsClass setting.Class class_one s t line h k
line_setting form.Trigger s t line h k = line_one IsTrigger (λ (x : Bool × Times). setting.Trigger (x.0) x.1.stall x.1.window) trigger_one s t line h k
line_setting form.Raw s t line h k = line_one IsRaw setting.Raw raw_one s t line h k

-- A text has one setting.
pub one_setting : OneSetting
one_setting kind text s t h k =
    let same : h.line ≡ k.line = (push_one h.line k.line 10 10 (sym h.text_is ∙ k.text_is)).0 in
    line_setting kind s t k.line (rw same at h.spelled) k.spelled

pub one_setting_of_name : OneSettingOfName
one_setting_of_name profile name text s t h k =
    let same : h.kind ≡ k.kind = some_one h.kind k.kind (sym h.kind_is ∙ k.kind_is) in
    one_setting k.kind text s t (rw same at h.spelled) k.spelled

-- The canonical text's setting.
pub read_back : ReadBack
read_back kind s t good fits = (
  λ h. one_setting kind (print_setting_of s) t s h (setting_text_prints kind s good fits),
  λ e. rw e (setting_text_prints kind s good fits),
)

pub read_back_of_name : ReadBackOfName
read_back_of_name profile name kind s t is fits = (
  λ h. (let same : h.kind ≡ kind = some_one h.kind kind (sym h.kind_is ∙ is) in
      (read_back kind s t (write_form_ok profile name kind is) fits).0 (rw same at h.spelled)),
  λ e. record { kind = kind; kind_is = is; spelled = (read_back kind s t (write_form_ok profile name kind is) fits).1 e },
)

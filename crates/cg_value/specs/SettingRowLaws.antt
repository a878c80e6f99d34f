-- The examples of writes hold: each text is spelled out in parts.
use Rattle.std.proofs.Common.{◌≡◌, ℕ, ◌↔◌, inl, inr, true, false, negsuc, ◌++◌, ◌∷◌, [], List, codes, Some, None, nat_le, ◌&&◌, refl, arith, leb-true}
use Rattle.std.proofs.lemmas.Bool.{and_parts}
use Rattle.std.proofs.lemmas.Int.{ints}
use Rattle.std.proofs.lemmas.List.Elements.{All-from_recursion}
use Rattle.cg_text.specs.LimitPairs.{AreLimits}
use Rattle.cg_text.specs.List.{IsLooseRangeText}
use Rattle.cg_text.specs.Numbers.{Has}
use Rattle.cg_text.specs.Size.{IsSize}
use Rattle.cg_text.specs.Trigger.{AreTimes}
use Rattle.cg_text.specs.Word.{IsControllerWord}
use Rattle.cg_text.specs.declared.pairs.LimitKey.TheVariants.{Rbps, Wiops}
use Rattle.cg_text.specs.declared.values.Clamp.TheVariants as clamp
use Rattle.cg_text.specs.declared.values.Limit.TheVariants.{Max, At}
use Rattle.cg_value.specs.Kind.{any_u64}
use Rattle.cg_value.specs.Lines.{IsLineOf}
use Rattle.cg_value.specs.RowFacts.{is_numeral, numeral_tested, decimal_tested, device_tested, controller_tested, printed}
use Rattle.cg_value.specs.Rows.{device, hundredths}
use Rattle.cg_value.specs.SettingRows.{toggle, LowestNicePrints, KillPrints, OnlyQuotaPrints, TriggerPrints, NoMembersPrint, DeviceDefaultPrints, TogglesPrint, LowestNice, Kill, ShortClamp}
use Rattle.cg_value.specs.SettingRows.{ShortClampPrints, OnlyQuota, Reclaim, ReclaimPrints, LargestSuffix, LargestSuffixPrints, Trigger, LooseSet, LooseSetPrints, NoMembers, WeightAlone}
use Rattle.cg_value.specs.SettingRows.{WeightAlonePrints, DeviceDefault, TwoLimits, TwoLimitsPrint, Toggles, NotWritable}
use Rattle.cg_value.specs.Settings.{SettingText}
use Rattle.cg_value.specs.Table.{write_form_of}
use Rattle.cg_value.specs.WriteLine.{WriteLine}
use Rattle.cg_value.specs.declared.kind.WriteForm.{WriteForm}
use Rattle.cg_value.specs.declared.kind.WriteForm.TheVariants as form
use Rattle.cg_value.specs.declared.profile.Profile.{Profile}
use Rattle.cg_value.specs.declared.setting.Setting.{Setting}

-- A write of this line, by the row of its name.
pub write : {profile : Profile} {name : List ℕ} {s : Setting} {text : List ℕ} (kind : WriteForm) (line : List ℕ) → write_form_of profile name ≡ Some kind → WriteLine kind s line → text ≡ line ++ 10 ∷ [] → SettingText profile name s text
write kind line e h f = record { kind = kind; kind_is = e; spelled = record { line = line; spelled = h; text_is = f } }

pub line_of : {X : Type 0} {P : X → List ℕ → Type 0} {make : X → Setting} {line : List ℕ} (x : X) → P x line → IsLineOf P make (make x) line
line_of x h = record { x = x; value = refl; spelled = h }

-- ---- Numbers and clamps

pub lowest_nice : LowestNice
unfolding write_form_of
lowest_nice = write (form.Signed _ _) (codes "-20") refl (line_of (negsuc 19) (omega (arith, ints), omega (arith, ints), (codes "20", refl, numeral_tested 20 (codes "20") refl))) refl

pub lowest_nice_prints : LowestNicePrints
lowest_nice_prints = rw (printed 20 (codes "20") (omega arith) refl) refl

pub kill : Kill
unfolding write_form_of
kill = write (form.Number 1 1) (codes "1") refl (line_of 1 (decimal_tested 1 1 1 (codes "1") refl)) refl

pub kill_prints : KillPrints
kill_prints = rw (printed 1 (codes "1") (omega arith) refl) refl

pub short_clamp_row : ShortClamp
unfolding write_form_of
short_clamp_row = write form.Clamp (codes "12.3") refl (line_of (clamp.At (hundredths 1230)) (
  omega arith,
  inr (inl (record {
    whole = 12;
    digits = codes "12";
    tenth = 51;
    text_is = refl;
    whole_is = numeral_tested 12 (codes "12") refl;
    tenth_is = (omega arith, omega arith);
    count_is = refl;
  })),
)) refl

pub short_clamp_prints : ShortClampPrints
short_clamp_prints = rw (printed 12 (codes "12") (omega arith) refl) refl

-- ---- Sizes and times

pub only_quota : OnlyQuota
unfolding write_form_of
only_quota = write form.CpuMax (codes "max") refl (line_of (Max, None) refl) refl

pub only_quota_prints : OnlyQuotaPrints
only_quota_prints = refl

pub gibibyte_size : IsSize 1073741824 (codes "1G")
gibibyte_size = record { count = 1; factor = 1073741824; product = refl; fits = omega arith; spelled = inr (codes "1", 71, refl, numeral_tested 1 (codes "1") refl, inr (inr (inl (inl refl, refl)))) }

pub reclaim : Reclaim
unfolding write_form_of
reclaim = write (form.Reclaim false) (codes "1G swappiness=60") refl (line_of (1073741824, Some (At 60)) (record {
  front = codes "1G";
  back = codes "60";
  text_is = refl;
  front_is = gibibyte_size;
  back_is = decimal_tested 0 200 60 (codes "60") refl;
})) refl

pub reclaim_prints : ReclaimPrints
reclaim_prints = rw (printed 1073741824 (codes "1073741824") (omega arith) refl, printed 60 (codes "60") (omega arith) refl) refl

exbibytes_size : IsSize 17293822569102704640 (codes "15E")
exbibytes_size = record {
  count = 15;
  factor = 1152921504606846976;
  product = refl;
  fits = omega arith;
  spelled = inr (codes "15", 69, refl, numeral_tested 15 (codes "15") refl, inr (inr (inr (inr (inr (inl refl, refl))))));
}

pub largest_suffix : LargestSuffix
unfolding write_form_of
largest_suffix = write form.SizeLimit (codes "15E") refl (line_of (At 17293822569102704640) exbibytes_size) refl

pub largest_suffix_prints : LargestSuffixPrints
largest_suffix_prints = rw (printed 17293822569102704640 (codes "17293822569102704640") (omega arith) refl) refl

trigger_times : AreTimes (record { stall = 150000; window = 1000000 }) (codes "150000 1000000")
trigger_times = record {
  stall = codes "150000";
  window = codes "1000000";
  text_is = refl;
  stall_is = decimal_tested 1 10000000 150000 (codes "150000") refl;
  window_is = decimal_tested 150000 10000000 1000000 (codes "1000000") refl;
}

pub trigger : Trigger
unfolding write_form_of
trigger = write form.Trigger (codes "some 150000 1000000") refl (line_of (false, record { stall = 150000; window = 1000000 }) (codes "150000 1000000", refl, trigger_times)) refl

pub trigger_prints : TriggerPrints
trigger_prints = rw (printed 150000 (codes "150000") (omega arith) refl, printed 1000000 (codes "1000000") (omega arith) refl) refl

-- ---- Sets

loose_alone : (most a : ℕ) (text : List ℕ) → (nat_le a most && is_numeral a text) ≡ true → IsLooseRangeText most (a, a) text
loose_alone most a text e =
    let both = and_parts _ _ e in
    inl (refl, (omega arith, leb-true _ _ both.0, numeral_tested a text both.1))

three_to_five : IsLooseRangeText 65535 (3, 5) (codes "3-5")
three_to_five = inr (omega arith, codes "3", codes "5", refl, decimal_tested 0 65535 3 (codes "3") refl, decimal_tested 0 65535 5 (codes "5") refl)

-- 4 is between 3 and 5.
same_members : (n : ℕ) → Has ((3, 5) ∷ (9, 9) ∷ []) n ↔ Has ((9, 9) ∷ (3, 5) ∷ (4, 4) ∷ []) n
same_members n = (
  λ h. elim h [ inl k ↦ inr (inl k) | inr k ↦ elim k [ inl j ↦ inl j | inr j ↦ absurd j ] ],
  λ h. elim h [ inl k ↦ inr (inl k) | inr k ↦ elim k [ inl j ↦ inl j | inr j ↦ elim j [ inl i ↦ inl (omega (arith, i.0), omega (arith, i.1)) | inr i ↦ absurd i ] ] ],
)

pub loose_set_row : LooseSet
unfolding write_form_of
loose_set_row = write (form.Set 65535) (codes "9,3-5,4") refl (line_of ((3, 5) ∷ (9, 9) ∷ []) (
  (omega arith, omega arith, (omega arith, omega arith, tt)),
  (9, 9) ∷ (3, 5) ∷ (4, 4) ∷ [],
  same_members,
  (codes "9", codes "3-5,4", refl, loose_alone 65535 9 (codes "9") refl, (codes "3-5", codes "4", refl, three_to_five, loose_alone 65535 4 (codes "4") refl)),
)) refl

pub loose_set_prints : LooseSetPrints
loose_set_prints = rw (printed 3 (codes "3") (omega arith) refl, printed 5 (codes "5") (omega arith) refl, printed 9 (codes "9") (omega arith) refl) refl

pub no_members : NoMembers
unfolding write_form_of
no_members = write (form.Set 65535) [] refl (line_of [] (tt, [], λ n. (λ h. h, λ h. h), refl)) refl

pub no_members_print : NoMembersPrint
no_members_print = refl

-- ---- Devices

pub weight_alone : WeightAlone
unfolding write_form_of
weight_alone = write (form.DeviceWeight 10000) (codes "50") refl (inl (decimal_tested 1 10000 50 (codes "50") refl)) refl

pub weight_alone_prints : WeightAlonePrints
weight_alone_prints = rw (printed 50 (codes "50") (omega arith) refl) refl

pub device_default : DeviceDefault
unfolding write_form_of
device_default = write (form.DeviceWeight 10000) (codes "8:16 default") refl (codes "8:16", refl, device_tested 8 16 (codes "8") (codes "16") refl refl) refl

pub device_default_prints : DeviceDefaultPrints
device_default_prints = rw (printed 8 (codes "8") (omega arith) refl, printed 16 (codes "16") (omega arith) refl) refl

limits_spelled : AreLimits (record { rbps = Some Max; wbps = None; riops = None; wiops = Some (At 7) }) (codes "wiops=7 rbps=max")
limits_spelled = record {
  pairs = (Wiops, At 7) ∷ (Rbps, Max) ∷ [];
  spelled = (codes "wiops=7", codes "rbps=max", refl, (codes "7", refl, decimal_tested 1 any_u64 7 (codes "7") refl), (codes "max", refl, refl));
  distinct = (refl, (refl, tt));
  rbps = refl;
  wbps = refl;
  riops = refl;
  wiops = refl;
}

pub two_limits_row : TwoLimits
unfolding write_form_of
two_limits_row = write form.DeviceLimits (codes "8:16 wiops=7 rbps=max") refl (line_of (device 8 16, record { rbps = Some Max; wbps = None; riops = None; wiops = Some (At 7) }) (record {
  front = codes "8:16";
  back = codes "wiops=7 rbps=max";
  text_is = refl;
  front_is = device_tested 8 16 (codes "8") (codes "16") refl refl;
  back_is = limits_spelled;
})) refl

pub two_limits_print : TwoLimitsPrint
two_limits_print = rw (printed 8 (codes "8") (omega arith) refl, printed 16 (codes "16") (omega arith) refl, printed 7 (codes "7") (omega arith) refl) refl

-- ---- Controllers, and what can't be written

pub toggles : Toggles
unfolding write_form_of
toggles = write form.Controllers (codes "+cpu -io +cpu") refl (line_of (toggle true (codes "cpu") ∷ toggle false (codes "io") ∷ toggle true (codes "cpu") ∷ []) (record {
  some = λ e. cc;
  each = All-from_recursion (λ t. IsControllerWord t.name) (toggle true (codes "cpu") ∷ toggle false (codes "io") ∷ toggle true (codes "cpu") ∷ [])
      (controller_tested 99 (codes "pu") refl, (controller_tested 105 (codes "o") refl, (controller_tested 99 (codes "pu") refl, tt)));
  line_is = refl;
})) refl

pub toggles_print : TogglesPrint
toggles_print = refl

pub not_writable : NotWritable
unfolding write_form_of
not_writable = refl

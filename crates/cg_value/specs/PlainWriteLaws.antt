-- A written line is a raw line: its bytes are 1 to 255, and none is a newline.
use Rattle.std.proofs.Common.{◌≡◌, ℕ, suc, ◌≤◌, ◌<◌, ◌&&◌, inl, inr, ℤ, pos, negsuc, Bool, true, false, List, [], ◌∷◌, ◌++◌, Option, Some, None, All, codes, nat_lt, refl, ltb-true, arith}
use Rattle.std.proofs.lemmas.Bool.{and_parts}
use Rattle.std.proofs.lemmas.List.Elements.{All-head, All-tail}
use Rattle.std.specs.List.{list_all}
use Rattle.cg_text.specs.Clamp.{IsClamp}
use Rattle.cg_text.specs.Decimal.{AreDigits, IsNumeral}
use Rattle.cg_text.specs.Device.{IsDevice}
use Rattle.cg_text.specs.Hundredths.{HasTwoDigits, HasDigits}
use Rattle.cg_text.specs.Limit.{IsLimit}
use Rattle.cg_text.specs.LimitPairs.{key_text, IsLimitPair, AreLimitPairs}
use Rattle.cg_text.specs.List.{IsLooseRangeText, AreLooseTexts}
use Rattle.cg_text.specs.Raw.{IsRawLine}
use Rattle.cg_text.specs.RawLaws.{raw_append, raw_bytes}
use Rattle.cg_text.specs.Signed.{IsSignedNumeral}
use Rattle.cg_text.specs.Size.{HasFactor, HasSize, IsSize}
use Rattle.cg_text.specs.Texts.{Lacks}
use Rattle.cg_text.specs.Token.{AreBytes}
use Rattle.cg_text.specs.Trigger.{AreTimes}
use Rattle.cg_text.specs.Word.{AreWordBytes, IsControllerWord}
use Rattle.cg_text.specs.declared.hundredths.Spelling.TheVariants.{Written}
use Rattle.cg_text.specs.declared.pairs.LimitKey.{LimitKey}
use Rattle.cg_text.specs.declared.pairs.LimitKey.TheVariants.{Rbps, Wbps, Riops, Wiops}
use Rattle.cg_text.specs.declared.pairs.LimitPairs.{LimitPairs}
use Rattle.cg_text.specs.declared.trigger.Times.{Times}
use Rattle.cg_text.specs.declared.values.Clamp.{Clamp}
use Rattle.cg_text.specs.declared.values.Clamp.TheVariants as clamp
use Rattle.cg_text.specs.declared.values.Device.{Device}
use Rattle.cg_text.specs.declared.values.Limit.{Limit}
use Rattle.cg_text.specs.declared.values.Limit.TheVariants.{Max, At}
use Rattle.cg_value.specs.Kind.{any_u64}
use Rattle.cg_value.specs.RawLinesLaws.{class_raw}
use Rattle.cg_value.specs.ReadLine.{role_text}
use Rattle.cg_value.specs.WriteLine.{IsSizeLimit, sign_of, toggles_line, IsQuota, IsSwappiness, IsReclaim, IsLimitWrite, IsWeightSetting, IsTargetWrite, pressure_word, WriteLine}
use Rattle.cg_value.specs.declared.kind.WriteForm.{WriteForm}
use Rattle.cg_value.specs.declared.kind.WriteForm.TheVariants as form
use Rattle.cg_value.specs.declared.setting.Setting.{Setting}
use Rattle.cg_value.specs.declared.setting.Setting.TheVariants as setting
use Rattle.cg_value.specs.declared.setting.Toggle.{Toggle}
use Rattle.cg_value.specs.declared.value.Role.{Role}
use Rattle.cg_value.specs.declared.value.Role.TheVariants.{Member, Root, Isolated}

-- Bytes above 10 that were tested.
tested_raw : (xs : List ℕ) → list_all (λ b. nat_lt 10 b && nat_lt b 256) xs ≡ true → IsRawLine xs
tested_raw [] e = tt
tested_raw (x ∷ xs) e =
    let both = and_parts _ _ e in
    let byte = and_parts _ _ both.0 in
    let low : 10 < x = ltb-true 10 x byte.0 in
    (omega (arith, low), ltb-true x 256 byte.1, (λ same. absurd (omega (arith, low, same))), tested_raw xs both.1)

raw_one : (b : ℕ) (xs : List ℕ) → 10 < b → b < 256 → IsRawLine xs → IsRawLine (b ∷ xs)
raw_one b xs low high h = (omega (arith, low), high, (λ same. absurd (omega (arith, low, same))), h)

-- Two texts and a mark.
raw_parts : (front mark back text : List ℕ) → text ≡ front ++ mark ++ back → IsRawLine front → IsRawLine mark → IsRawLine back → IsRawLine text
raw_parts front mark back text e h k l = rw e (raw_append (front ++ mark) back (raw_append front mark h k) l)

raw_around : (front : List ℕ) (b : ℕ) (back text : List ℕ) → text ≡ front ++ b ∷ back → 10 < b → b < 256 → IsRawLine front → IsRawLine back → IsRawLine text
raw_around front b back text e low high h k = rw e (raw_append front (b ∷ back) h (raw_one b back low high k))

-- ---- Tokens

digits_raw : (cs : List ℕ) → AreDigits cs → IsRawLine cs
digits_raw [] h = tt
digits_raw (c ∷ cs) h = raw_one c cs (omega (arith, h.0)) (omega (arith, h.1)) (digits_raw cs h.2)

nothing_raw : (cs : List ℕ) → cs ≡ [] → IsRawLine cs
nothing_raw cs e = rw e tt

numeral_raw : (n : ℕ) (text : List ℕ) → IsNumeral n text → IsRawLine text
numeral_raw n [] h = absurd h
numeral_raw n (c ∷ cs) (inl h) = raw_one c cs (omega (arith, h.0)) (omega (arith, h.0)) (nothing_raw cs h.1)
numeral_raw n (c ∷ cs) (inr h) = raw_one c cs (omega (arith, h.0)) (omega (arith, h.1)) (digits_raw cs h.2)

signed_raw : (z : ℤ) (text : List ℕ) → IsSignedNumeral z text → IsRawLine text
signed_raw (pos n) text h = numeral_raw n text h
signed_raw (negsuc n) text h = rw h.1 (raw_one 45 h.0 (omega arith) (omega arith) (numeral_raw (suc n) h.0 h.2))

max_raw : (text : List ℕ) → text ≡ codes "max" → IsRawLine text
max_raw text e = rw e (tested_raw (codes "max") refl)

limit_raw : (lo hi : ℕ) (l : Limit) (text : List ℕ) → IsLimit lo hi l text → IsRawLine text
limit_raw lo hi Max text h = max_raw text h
limit_raw lo hi (At n) text h = numeral_raw n text h.2

suffix_between : (suffix factor : ℕ) → HasFactor suffix factor → (69 ≤ suffix) × (suffix ≤ 116)
suffix_between suffix factor (inl (inl h, k)) = (omega (arith, h), omega (arith, h))
suffix_between suffix factor (inl (inr h, k)) = (omega (arith, h), omega (arith, h))
suffix_between suffix factor (inr (inl (inl h, k))) = (omega (arith, h), omega (arith, h))
suffix_between suffix factor (inr (inl (inr h, k))) = (omega (arith, h), omega (arith, h))
suffix_between suffix factor (inr (inr (inl (inl h, k)))) = (omega (arith, h), omega (arith, h))
suffix_between suffix factor (inr (inr (inl (inr h, k)))) = (omega (arith, h), omega (arith, h))
suffix_between suffix factor (inr (inr (inr (inl (inl h, k))))) = (omega (arith, h), omega (arith, h))
suffix_between suffix factor (inr (inr (inr (inl (inr h, k))))) = (omega (arith, h), omega (arith, h))
suffix_between suffix factor (inr (inr (inr (inr (inl (inl h, k)))))) = (omega (arith, h), omega (arith, h))
suffix_between suffix factor (inr (inr (inr (inr (inl (inr h, k)))))) = (omega (arith, h), omega (arith, h))
suffix_between suffix factor (inr (inr (inr (inr (inr (inl h, k)))))) = (omega (arith, h), omega (arith, h))
suffix_between suffix factor (inr (inr (inr (inr (inr (inr h, k)))))) = (omega (arith, h), omega (arith, h))

sized_raw : (m factor : ℕ) (text : List ℕ) → HasSize m factor text → IsRawLine text
sized_raw m factor text (inl h) = numeral_raw m text h.0
sized_raw m factor text (inr h) =
    let between = suffix_between h.1 factor h.4 in
    raw_around h.0 h.1 [] text h.2 (omega (arith, between.0)) (omega (arith, between.1)) (numeral_raw m h.0 h.3) tt

size_raw : (n : ℕ) (text : List ℕ) → IsSize n text → IsRawLine text
size_raw n text h = sized_raw h.count h.factor text h.spelled

size_limit_raw : (l : Limit) (text : List ℕ) → IsSizeLimit l text → IsRawLine text
size_limit_raw Max text h = max_raw text h
size_limit_raw (At n) text h = size_raw n text h

two_digits_raw : (count : ℕ) (text : List ℕ) → HasTwoDigits count text → IsRawLine text
two_digits_raw count text h = raw_around h.digits 46 (h.tenth ∷ h.hundredth ∷ []) text h.text_is (omega arith) (omega arith) (numeral_raw h.whole h.digits h.whole_is)
    (digits_raw (h.tenth ∷ h.hundredth ∷ []) (h.tenth_is.0, h.tenth_is.1, (h.hundredth_is.0, h.hundredth_is.1, tt)))

written_digits_raw : (count : ℕ) (text : List ℕ) → HasDigits Written count text → IsRawLine text
written_digits_raw count text (inl h) = two_digits_raw count text h
written_digits_raw count text (inr (inl h)) = raw_around h.digits 46 (h.tenth ∷ []) text h.text_is (omega arith) (omega arith) (numeral_raw h.whole h.digits h.whole_is) (digits_raw (h.tenth ∷ []) (h.tenth_is.0, h.tenth_is.1, tt))
written_digits_raw count text (inr (inr h)) = numeral_raw h.whole text h.whole_is

clamp_raw : (c : Clamp) (text : List ℕ) → IsClamp Written c text → IsRawLine text
clamp_raw clamp.Max text h = max_raw text h
clamp_raw (clamp.At s) text h = written_digits_raw s.count text h.1

device_raw : (d : Device) (text : List ℕ) → IsDevice d text → IsRawLine text
device_raw d text h = raw_around h.major 58 h.minor text h.text_is (omega arith) (omega arith) (numeral_raw d.major h.major h.major_is.2) (numeral_raw d.minor h.minor h.minor_is.2)

word_raw : (xs : List ℕ) → AreWordBytes xs → IsRawLine xs
word_raw [] h = tt
word_raw (x ∷ xs) h = raw_one x xs (omega (arith, h.0.0)) (omega (arith, h.0.1)) (word_raw xs h.1)

controller_raw : (xs : List ℕ) → IsControllerWord xs → IsRawLine xs
controller_raw [] h = tt
controller_raw (x ∷ xs) h = word_raw (x ∷ xs) h.1.1

range_raw : (most : ℕ) (r : ℕ × ℕ) (text : List ℕ) → IsLooseRangeText most r text → IsRawLine text
range_raw most r text (inl h) = numeral_raw (r.0) text h.1.2
range_raw most r text (inr h) = raw_around h.1 45 h.2 text h.3 (omega arith) (omega arith) (numeral_raw (r.0) h.1 h.4.2) (numeral_raw (r.1) h.2 h.5.2)

ranges_raw : (most : ℕ) (rs : List (ℕ × ℕ)) (text : List ℕ) → AreLooseTexts most rs text → IsRawLine text
ranges_raw most [] text h = nothing_raw text h
ranges_raw most (r ∷ []) text h = range_raw most r text h
ranges_raw most (r ∷ q ∷ rs) text h = raw_around h.0 44 h.1 text h.2 (omega arith) (omega arith) (range_raw most r h.0 h.3) (ranges_raw most (q ∷ rs) h.1 h.4)

key_raw : (key : LimitKey) → IsRawLine (key_text key)
key_raw Rbps = tested_raw (key_text Rbps) refl
key_raw Wbps = tested_raw (key_text Wbps) refl
key_raw Riops = tested_raw (key_text Riops) refl
key_raw Wiops = tested_raw (key_text Wiops) refl

pair_raw : (p : LimitKey × Limit) (text : List ℕ) → IsLimitPair p text → IsRawLine text
pair_raw p text h = raw_around (key_text (p.0)) 61 h.0 text h.1 (omega arith) (omega arith) (key_raw (p.0)) (limit_raw 1 any_u64 (p.1) h.0 h.2)

pairs_raw : (ps : List (LimitKey × Limit)) (text : List ℕ) → AreLimitPairs ps text → IsRawLine text
pairs_raw [] text h = absurd h
pairs_raw (p ∷ []) text h = pair_raw p text h
pairs_raw (p ∷ q ∷ ps) text h = raw_around h.0 32 h.1 text h.2 (omega arith) (omega arith) (pair_raw p h.0 h.3) (pairs_raw (q ∷ ps) h.1 h.4)

-- ---- Lines

toggle_raw : (on : Bool) (name : List ℕ) → IsRawLine name → IsRawLine (sign_of on ∷ name)
toggle_raw true name h = raw_one 43 name (omega arith) (omega arith) h
toggle_raw false name h = raw_one 45 name (omega arith) (omega arith) h

abbrev HasName : Toggle → Type 0
HasName t = IsControllerWord t.name

toggles_raw : (ts : List Toggle) → All HasName ts → IsRawLine (toggles_line ts)
toggles_raw [] h = tt
toggles_raw (t ∷ []) h = toggle_raw t.on t.name (controller_raw t.name (All-head HasName t [] h))
toggles_raw (t ∷ u ∷ ts) h = raw_append (sign_of t.on ∷ t.name) (32 ∷ toggles_line (u ∷ ts))
    (toggle_raw t.on t.name (controller_raw t.name (All-head HasName t (u ∷ ts) h)))
    (raw_one 32 (toggles_line (u ∷ ts)) (omega arith) (omega arith)
    (toggles_raw (u ∷ ts) (All-tail HasName t (u ∷ ts) h)))

quota_raw : (quota : Limit) (period : Option ℕ) (line : List ℕ) → IsQuota quota period line → IsRawLine line
quota_raw quota None line h = limit_raw 1000 any_u64 quota line h
quota_raw quota (Some n) line h = raw_parts h.front (codes " ") h.back line h.text_is (limit_raw 1000 any_u64 quota h.front h.front_is) (tested_raw (codes " ") refl) (numeral_raw n h.back h.back_is.2)

swappiness_raw : (max : Bool) (l : Limit) (text : List ℕ) → IsSwappiness max l text → IsRawLine text
swappiness_raw max Max text h = rw h.1 (tested_raw (codes "max") refl)
swappiness_raw max (At n) text h = numeral_raw n text h.2

reclaim_raw : (max : Bool) (size : ℕ) (swappiness : Option Limit) (line : List ℕ) → IsReclaim max size swappiness line → IsRawLine line
reclaim_raw max size None line h = size_raw size line h
reclaim_raw max size (Some l) line h = raw_parts h.front (codes " swappiness=") h.back line h.text_is (size_raw size h.front h.front_is) (tested_raw (codes " swappiness=") refl) (swappiness_raw max l h.back h.back_is)

limits_raw : (x : Device × LimitPairs) (line : List ℕ) → IsLimitWrite x line → IsRawLine line
limits_raw x line h = raw_parts h.front (codes " ") h.back line h.text_is (device_raw (x.0) h.front h.front_is) (tested_raw (codes " ") refl) (pairs_raw h.back_is.pairs h.back h.back_is.spelled)

weight_raw : (most : ℕ) (s : Setting) (line : List ℕ) → IsWeightSetting most s line → IsRawLine line
weight_raw most (setting.DefaultWeight weight) line (inl h) = numeral_raw weight line h.2
weight_raw most (setting.DefaultWeight weight) line (inr h) = rw h.1 (raw_append (codes "default ") h.0 (tested_raw (codes "default ") refl) (numeral_raw weight h.0 h.2.2))
weight_raw most (setting.DeviceWeight device (Some weight)) line h = raw_parts h.front (codes " ") h.back line h.text_is (device_raw device h.front h.front_is) (tested_raw (codes " ") refl) (numeral_raw weight h.back h.back_is.2)
weight_raw most (setting.DeviceWeight device None) line h = rw h.1 (raw_append h.0 (codes " default") (device_raw device h.0 h.2) (tested_raw (codes " default") refl))
weight_raw most _ line h = absurd h

target_raw : (x : Device × ℕ) (line : List ℕ) → IsTargetWrite x line → IsRawLine line
target_raw x line h = raw_parts h.front (codes " target=") h.back line h.text_is (device_raw (x.0) h.front h.front_is) (tested_raw (codes " target=") refl) (numeral_raw (x.1) h.back h.back_is.2)

role_raw : (role : Role) → IsRawLine (role_text role)
role_raw Member = tested_raw (codes "member") refl
role_raw Root = tested_raw (codes "root") refl
role_raw Isolated = tested_raw (codes "isolated") refl

pressure_raw : (full : Bool) → IsRawLine (pressure_word full)
pressure_raw true = tested_raw (codes "full") refl
pressure_raw false = tested_raw (codes "some") refl

times_raw : (times : Times) (text : List ℕ) → AreTimes times text → IsRawLine text
times_raw times text h = raw_around h.stall 32 h.window text h.text_is (omega arith) (omega arith) (numeral_raw times.stall h.stall h.stall_is.2) (numeral_raw times.window h.window h.window_is.2)

-- A written line is a raw line.
pub written_raw : (kind : WriteForm) (s : Setting) (line : List ℕ) → WriteLine kind s line → IsRawLine line
written_raw (form.Number lo hi) s line h = numeral_raw h.x line h.spelled.2
written_raw (form.Signed lo hi) s line h = signed_raw h.x line h.spelled.2
written_raw (form.Limit lo hi) s line h = limit_raw lo hi h.x line h.spelled
written_raw form.SizeLimit s line h = size_limit_raw h.x line h.spelled
written_raw form.Clamp s line h = clamp_raw h.x line h.spelled
written_raw form.Mode s line h = rw h.1 (tested_raw (codes "threaded") refl)
written_raw form.Class s line h = rw h.spelled (class_raw h.x)
written_raw form.Controllers s line h = rw h.spelled.line_is (toggles_raw h.x h.spelled.each)
written_raw form.CpuMax s line h = quota_raw (h.x.0) (h.x.1) line h.spelled
written_raw (form.Reclaim max) s line h = reclaim_raw max (h.x.0) (h.x.1) line h.spelled
written_raw form.DeviceLimits s line h = limits_raw h.x line h.spelled
written_raw (form.DeviceWeight most) s line h = weight_raw most s line h
written_raw form.DeviceTarget s line h = target_raw h.x line h.spelled
written_raw (form.Set most) s line h = ranges_raw most h.spelled.1 line h.spelled.3
written_raw form.Role s line h = rw h.spelled (role_raw h.x)
written_raw form.Trigger s line h = raw_parts (pressure_word (h.x.0)) (codes " ") h.spelled.0 line h.spelled.1 (pressure_raw (h.x.0)) (tested_raw (codes " ") refl) (times_raw (h.x.1) h.spelled.0 h.spelled.2)
written_raw form.Raw s line h = rw h.spelled.0 h.spelled.1

-- So it has no newline, and its bytes are below 256.
raw_lacks : (xs : List ℕ) → IsRawLine xs → Lacks 10 xs
raw_lacks [] h = tt
raw_lacks (x ∷ xs) h = (h.2, raw_lacks xs h.3)

pub written_plain : (kind : WriteForm) (s : Setting) (line : List ℕ) → WriteLine kind s line → Lacks 10 line × AreBytes line
written_plain kind s line h = let raw = written_raw kind s line h in (raw_lacks line raw, raw_bytes line raw)

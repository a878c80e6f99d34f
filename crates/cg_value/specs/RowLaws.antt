-- The examples of files hold: each text is spelled out in parts.
use Rattle.std.proofs.Common.{◌≡◌, ℕ, ◌<◌, inl, inr, true, false, ◌++◌, ◌∷◌, [], List, codes, Some, None, nat_le, nat_lt, ◌&&◌, refl, arith, leb-true, ltb-true, All}
use Rattle.std.proofs.lemmas.Bool.{and_parts}
use Rattle.std.proofs.lemmas.List.Elements.{All-nil, All-from_recursion}
use Rattle.std.specs.List.{AllZip}
use Rattle.cg_text.specs.Decimal.{IsDecimal}
use Rattle.cg_text.specs.List.{IsRangeText}
use Rattle.cg_text.specs.Word.{IsControllerWord}
use Rattle.cg_text.specs.declared.values.Amount.TheVariants as amount
use Rattle.cg_text.specs.declared.values.Limit.TheVariants.{Max, At}
use Rattle.cg_value.specs.Files.{ReadLines, FileText}
use Rattle.cg_value.specs.Kind.{any_u64}
use Rattle.cg_value.specs.Lines.{unlines, IsOneLine, AreLinesOf, IsKey}
use Rattle.cg_value.specs.ReadLine.{IsStatLine, IsLimitLine, AreAverages, IsNestedLine}
use Rattle.cg_value.specs.RowFacts.{is_numeral, are_word_bytes, numeral_tested, decimal_tested, device_tested, two_digits_tested, unlike, word_tested, controller_tested, raw_tested}
use Rattle.cg_value.specs.Rows.{device, hundredths, averages, stat_pair, stat_line, limit_line, weight_line, nested_pair, nested_line, flat_pair}
use Rattle.cg_value.specs.Rows.{FirstRun, LargestNumber, Idle, ProcessNumbers, NoProcess, NoQuota, FullClamp, EmptySet, RangesApart, LastListNumber, MoreListNumbers}
use Rattle.cg_value.specs.Rows.{NoWords, NoWordsLine, TwoWords, OneKey, DeviceStats, RateIs, DevicePads, DeviceLimits, DeviceWeights, OwnWeight, DefaultWeight, InvalidRoot, EmptyReason}
use Rattle.cg_value.specs.Rows.{ReasonOfParentheses, FullPressure, SomePressure, Mode, Nested, RawNested, OtherName, HighByte, QuotedKey, NoWordsPrint, NotReadable}
use Rattle.cg_value.specs.Table.{read_form_of}
use Rattle.cg_value.specs.declared.kind.ReadForm.{ReadForm}
use Rattle.cg_value.specs.declared.kind.ReadForm.TheVariants as form
use Rattle.cg_value.specs.declared.profile.Profile.{Profile}
use Rattle.cg_value.specs.declared.value.GroupMode.TheVariants as mode
use Rattle.cg_value.specs.declared.value.Role.TheVariants as role
use Rattle.cg_value.specs.declared.value.Value.{Value}

-- A file of these lines, by the row of its name.
pub file : {profile : Profile} {name : List ℕ} {v : Value} {text : List ℕ} (kind : ReadForm) (lines : List (List ℕ)) → read_form_of profile name ≡ Some kind → ReadLines kind v lines → text ≡ unlines lines → FileText profile name v text
file kind lines e h f = record { kind = kind; kind_is = e; spelled = record { lines = lines; spelled = h; text_is = f } }

pub one_line : {X : Type 0} {P : X → List ℕ → Type 0} {make : X → Value} (x : X) (line : List ℕ) → P x line → IsOneLine P make (make x) (line ∷ [])
one_line x line h = record { x = x; line = line; value = refl; lines_are = refl; spelled = h }

pub many_lines : {X : Type 0} {P : X → List ℕ → Type 0} {make : List X → Value} (xs : List X) (lines : List (List ℕ)) → AllZip P xs lines → AreLinesOf P make (make xs) lines
many_lines xs lines h = record { xs = xs; value = refl; spelled = h }

-- ---- Numbers

pub first_run : FirstRun
unfolding read_form_of
first_run = file (form.Number 0 10000) (codes "10000" ∷ []) refl (one_line 10000 (codes "10000") (decimal_tested 0 10000 10000 (codes "10000") refl)) refl

pub largest_number : LargestNumber
unfolding read_form_of
largest_number = file (form.Number 0 any_u64) (codes "18446744073709551615" ∷ []) refl (one_line any_u64 (codes "18446744073709551615") (decimal_tested 0 any_u64 any_u64 (codes "18446744073709551615") refl)) refl

pub idle : Idle
unfolding read_form_of
idle = file (form.Number 0 1) (codes "0" ∷ []) refl (one_line 0 (codes "0") (decimal_tested 0 1 0 (codes "0") refl)) refl

process : (n : ℕ) (line : List ℕ) → (nat_le 0 n && nat_le n 2147483647 && is_numeral n line) ≡ true → IsDecimal 0 2147483647 n line
process n line e = decimal_tested 0 2147483647 n line e

pub process_numbers : ProcessNumbers
unfolding read_form_of
process_numbers = file (form.Numbers 0 2147483647) (codes "7" ∷ codes "0" ∷ codes "7" ∷ []) refl
    (many_lines (7 ∷ 0 ∷ 7 ∷ []) (codes "7" ∷ codes "0" ∷ codes "7" ∷ []) (process 7 (codes "7") refl, (process 0 (codes "0") refl, (process 7 (codes "7") refl, tt)))) refl

pub no_process : NoProcess
unfolding read_form_of
no_process = file (form.Numbers 0 2147483647) [] refl (many_lines [] [] tt) refl

-- ---- Limits and clamps

pub no_quota : NoQuota
unfolding read_form_of
no_quota = file form.CpuMax (codes "max 100000" ∷ []) refl
    (one_line (Max, 100000) (codes "max 100000") (record { front = codes "max"; back = codes "100000"; text_is = refl; front_is = refl; back_is = decimal_tested 0 any_u64 100000 (codes "100000") refl })) refl

pub full_clamp : FullClamp
unfolding read_form_of
full_clamp = file form.Clamp (codes "100.00" ∷ []) refl (one_line _ (codes "100.00") (omega arith, two_digits_tested 100 (codes "100") 48 48 refl)) refl

-- ---- Sets

pub range : {most : ℕ} (a b : ℕ) (front back : List ℕ) → (nat_lt a b && nat_le b most && is_numeral a front && is_numeral b back) ≡ true → IsRangeText most (a, b) (front ++ 45 ∷ back)
range a b front back e =
    let last = and_parts _ _ e in
    let more = and_parts _ _ last.0 in
    let first = and_parts _ _ more.0 in
    let low : a < b = ltb-true _ _ first.0 in
    let high = leb-true _ _ first.1 in
    inr (low, front, back, refl, (omega arith, omega (arith, high), numeral_tested a front more.1), (omega arith, high, numeral_tested b back last.1))

pub alone : {most : ℕ} (a : ℕ) (text : List ℕ) → (nat_le a most && is_numeral a text) ≡ true → IsRangeText most (a, a) text
alone a text e =
    let both = and_parts _ _ e in
    inl (refl, (omega arith, leb-true _ _ both.0, numeral_tested a text both.1))

pub empty_set : EmptySet
unfolding read_form_of
empty_set = file (form.Set 65535) ([] ∷ []) refl (one_line [] [] (tt, refl)) refl

pub ranges_apart : RangesApart
unfolding read_form_of
ranges_apart = file (form.Set 65535) (codes "0-4,6" ∷ []) refl
    (one_line ((0, 4) ∷ (6, 6) ∷ []) (codes "0-4,6") (
      (omega arith, omega arith, (omega arith, omega arith, tt)),
      (codes "0-4", codes "6", refl, range 0 4 (codes "0") (codes "4") refl, alone 6 (codes "6") refl),
    )) refl

pub last_list_number : LastListNumber
unfolding read_form_of
last_list_number = file (form.Set 65535) (codes "65534" ∷ []) refl (one_line ((65534, 65534) ∷ []) (codes "65534") ((omega arith, omega arith, tt), alone 65534 (codes "65534") refl)) refl

pub more_list_numbers : MoreListNumbers
unfolding read_form_of
more_list_numbers = file (form.Set 1048575) (codes "65534,65536" ∷ []) refl
    (one_line ((65534, 65534) ∷ (65536, 65536) ∷ []) (codes "65534,65536") (
      (omega arith, omega arith, (omega arith, omega arith, tt)),
      (codes "65534", codes "65536", refl, alone 65534 (codes "65534") refl, alone 65536 (codes "65536") refl),
    )) refl

-- ---- Words and flat files

pub no_words : NoWords
unfolding read_form_of
no_words = file form.Words [] refl (record { x = []; value = refl; spelled = record { each = All-nil IsControllerWord; distinct = tt; lines_are = inr (refl, refl) } }) refl

pub no_words_line : NoWordsLine
unfolding read_form_of
no_words_line = file form.Words ([] ∷ []) refl (record { x = []; value = refl; spelled = record { each = All-nil IsControllerWord; distinct = tt; lines_are = inl refl } }) refl

pub no_words_print : NoWordsPrint
no_words_print = refl

two_words_each : All IsControllerWord (codes "cpu" ∷ codes "io" ∷ [])
two_words_each = All-from_recursion IsControllerWord (codes "cpu" ∷ codes "io" ∷ []) (controller_tested 99 (codes "pu") refl, (controller_tested 105 (codes "o") refl, tt))

pub two_words : TwoWords
unfolding read_form_of
two_words = file form.Words (codes "cpu io" ∷ []) refl (record { x = codes "cpu" ∷ codes "io" ∷ []; value = refl; spelled = record { each = two_words_each; distinct = ((λ e. cc, tt), (tt, tt)); lines_are = inl refl } }) refl

key : (c : ℕ) (cs : List ℕ) → are_word_bytes (c ∷ cs) ≡ true → IsKey (c ∷ cs) (c ∷ cs)
key c cs e = (refl, word_tested c cs e)

pub one_key : OneKey
unfolding read_form_of
one_key = file form.Flat (codes "anon 1" ∷ []) refl (record {
  x = flat_pair (codes "anon") 1 ∷ [];
  value = refl;
  spelled = record {
    each = (record { front = codes "anon"; back = codes "1"; text_is = refl; front_is = key 97 (codes "non") refl; back_is = decimal_tested 0 any_u64 1 (codes "1") refl }, tt);
    distinct = (tt, tt);
  };
}) refl

pub quoted_key : QuotedKey
unfolding read_form_of
quoted_key = file form.Flat (codes "a\"b 1" ∷ []) refl (record {
  x = flat_pair (codes "a\"b") 1 ∷ [];
  value = refl;
  spelled = record {
    each = (record { front = codes "a\"b"; back = codes "1"; text_is = refl; front_is = key 97 (codes "\"b") refl; back_is = decimal_tested 0 any_u64 1 (codes "1") refl }, tt);
    distinct = (tt, tt);
  };
}) refl

-- ---- Devices

stats_first : IsStatLine false (stat_line (device 8 0) false (stat_pair (codes "rbytes") (amount.Whole 1) ∷ stat_pair (codes "cost.vrate") (amount.Decimal (hundredths 10000)) ∷ [])) (codes "8:0 rbytes=1 cost.vrate=100.00")
stats_first = record {
  device = codes "8:0";
  pairs = codes " rbytes=1 cost.vrate=100.00";
  line_is = refl;
  device_is = device_tested 8 0 (codes "8") (codes "0") refl refl;
  pairs_are = (
    codes "rbytes=1",
    codes " cost.vrate=100.00",
    refl,
    record { front = codes "rbytes"; back = codes "1"; text_is = refl; front_is = key 114 (codes "bytes") refl; back_is = decimal_tested 0 any_u64 1 (codes "1") refl },
    (
      codes "cost.vrate=100.00",
      [],
      refl,
      record { front = codes "cost.vrate"; back = codes "100.00"; text_is = refl; front_is = key 99 (codes "ost.vrate") refl; back_is = (omega arith, two_digits_tested 100 (codes "100") 48 48 refl) },
      refl,
    ),
  );
  distinct = ((λ e. cc, tt), (tt, tt));
}

stats_second : IsStatLine false (stat_line (device 7 0) false []) (codes "7:0")
stats_second = record { device = codes "7:0"; pairs = []; line_is = refl; device_is = device_tested 7 0 (codes "7") (codes "0") refl refl; pairs_are = refl; distinct = tt }

pub device_stats_rows : DeviceStats
unfolding read_form_of
device_stats_rows = file (form.DeviceStats false) (codes "8:0 rbytes=1 cost.vrate=100.00" ∷ codes "7:0" ∷ []) refl
    (many_lines _ (codes "8:0 rbytes=1 cost.vrate=100.00" ∷ codes "7:0" ∷ []) (stats_first, (stats_second, tt))) refl

pub rate_is : RateIs
rate_is = refl

pads_first : IsStatLine false (stat_line (device 7 0) true []) (codes "7:0 ")
pads_first = record { device = codes "7:0"; pairs = []; line_is = refl; device_is = device_tested 7 0 (codes "7") (codes "0") refl refl; pairs_are = refl; distinct = tt }

pads_second : IsStatLine false (stat_line (device 8 0) true (stat_pair (codes "cost.usage") (amount.Whole 5) ∷ [])) (codes "8:0  cost.usage=5")
pads_second = record {
  device = codes "8:0";
  pairs = codes " cost.usage=5";
  line_is = refl;
  device_is = device_tested 8 0 (codes "8") (codes "0") refl refl;
  pairs_are = (
    codes "cost.usage=5",
    [],
    refl,
    record { front = codes "cost.usage"; back = codes "5"; text_is = refl; front_is = key 99 (codes "ost.usage") refl; back_is = decimal_tested 0 any_u64 5 (codes "5") refl },
    refl,
  );
  distinct = (tt, tt);
}

pub device_pads : DevicePads
unfolding read_form_of
device_pads = file (form.DeviceStats false) (codes "7:0 " ∷ codes "8:0  cost.usage=5" ∷ []) refl (many_lines _ (codes "7:0 " ∷ codes "8:0  cost.usage=5" ∷ []) (pads_first, (pads_second, tt))) refl

limits_line : IsLimitLine false (limit_line (device 8 16) (At 2097152) Max Max (At 120)) (codes "8:16 rbps=2097152 wbps=max riops=max wiops=120")
limits_line = record {
  device = codes "8:16";
  rbps = codes "2097152";
  wbps = codes "max";
  riops = codes "max";
  wiops = codes "120";
  line_is = refl;
  device_is = device_tested 8 16 (codes "8") (codes "16") refl refl;
  rbps_is = decimal_tested 0 any_u64 2097152 (codes "2097152") refl;
  wbps_is = refl;
  riops_is = refl;
  wiops_is = decimal_tested 0 any_u64 120 (codes "120") refl;
}

pub device_limits : DeviceLimits
unfolding read_form_of
device_limits = file (form.DeviceLimits false) (codes "8:16 rbps=2097152 wbps=max riops=max wiops=120" ∷ []) refl (many_lines _ (codes "8:16 rbps=2097152 wbps=max riops=max wiops=120" ∷ []) (limits_line, tt)) refl

pub device_weight_rows : DeviceWeights
unfolding read_form_of
device_weight_rows = file (form.DeviceWeights 10000 false) (codes "default 100" ∷ codes "8:16 200" ∷ []) refl (record {
  default = 100;
  devices = weight_line (device 8 16) 200 ∷ [];
  first = codes "default 100";
  others = codes "8:16 200" ∷ [];
  value = refl;
  lines_are = refl;
  first_is = (codes "100", refl, decimal_tested 1 10000 100 (codes "100") refl);
  others_are = (record { front = codes "8:16"; back = codes "200"; text_is = refl; front_is = device_tested 8 16 (codes "8") (codes "16") refl refl; back_is = decimal_tested 1 10000 200 (codes "200") refl }, tt);
}) refl

pub own_weight : OwnWeight
own_weight = refl

pub default_weight : DefaultWeight
default_weight = refl

-- ---- Partitions and pressure

pub invalid_root : InvalidRoot
unfolding read_form_of
invalid_root = file form.Partition (codes "root invalid" ∷ []) refl (one_line (role.Root, false, None) (codes "root invalid") (tt, refl)) refl

pub empty_reason : EmptyReason
unfolding read_form_of
empty_reason = file form.Partition (codes "isolated invalid ()" ∷ []) refl (one_line (role.Isolated, false, Some []) (codes "isolated invalid ()") (tt, refl, tt)) refl

pub reason_of_parentheses : ReasonOfParentheses
unfolding read_form_of
reason_of_parentheses = file form.Partition (codes "root invalid (a) b)" ∷ []) refl (one_line (role.Root, false, Some (codes "a) b")) (codes "root invalid (a) b)") (tt, refl, raw_tested (codes "a) b") refl)) refl

full_averages : AreAverages (averages 0 0 0 0) (codes " avg10=0.00 avg60=0.00 avg300=0.00 total=0")
full_averages = record {
  avg10 = codes "0.00";
  avg60 = codes "0.00";
  avg300 = codes "0.00";
  total = codes "0";
  text_is = refl;
  avg10_is = (omega arith, two_digits_tested 0 (codes "0") 48 48 refl);
  avg60_is = (omega arith, two_digits_tested 0 (codes "0") 48 48 refl);
  avg300_is = (omega arith, two_digits_tested 0 (codes "0") 48 48 refl);
  total_is = decimal_tested 0 any_u64 0 (codes "0") refl;
}

pub full_pressure : FullPressure
unfolding read_form_of
full_pressure = file form.Pressure (codes "full avg10=0.00 avg60=0.00 avg300=0.00 total=0" ∷ []) refl (record {
  x = (None, Some (averages 0 0 0 0));
  value = refl;
  spelled = (codes "full avg10=0.00 avg60=0.00 avg300=0.00 total=0", refl, (codes " avg10=0.00 avg60=0.00 avg300=0.00 total=0", refl, full_averages));
}) refl

some_averages : AreAverages (averages 12 100 0 77) (codes " avg10=0.12 avg60=1.00 avg300=0.00 total=77")
some_averages = record {
  avg10 = codes "0.12";
  avg60 = codes "1.00";
  avg300 = codes "0.00";
  total = codes "77";
  text_is = refl;
  avg10_is = (omega arith, two_digits_tested 0 (codes "0") 49 50 refl);
  avg60_is = (omega arith, two_digits_tested 1 (codes "1") 48 48 refl);
  avg300_is = (omega arith, two_digits_tested 0 (codes "0") 48 48 refl);
  total_is = decimal_tested 0 any_u64 77 (codes "77") refl;
}

pub some_pressure : SomePressure
unfolding read_form_of
some_pressure = file form.Pressure (codes "some avg10=0.12 avg60=1.00 avg300=0.00 total=77" ∷ []) refl (record {
  x = (Some (averages 12 100 0 77), None);
  value = refl;
  spelled = (codes "some avg10=0.12 avg60=1.00 avg300=0.00 total=77", refl, (codes " avg10=0.12 avg60=1.00 avg300=0.00 total=77", refl, some_averages));
}) refl

-- ---- Modes, nested and raw files

pub domain_mode : Mode
unfolding read_form_of
domain_mode = file form.Mode (codes "domain" ∷ []) refl (one_line mode.Domain (codes "domain") refl) refl

nested_row : IsNestedLine (nested_line (codes "anon") (nested_pair (codes "N0") 1 ∷ nested_pair (codes "N1") 2 ∷ [])) (codes "anon N0=1 N1=2")
nested_row = record {
  pairs = codes " N0=1 N1=2";
  line_is = refl;
  key_is = word_tested 97 (codes "non") refl;
  pairs_are = (
    codes "N0=1",
    codes " N1=2",
    refl,
    record { front = codes "N0"; back = codes "1"; text_is = refl; front_is = key 78 (codes "0") refl; back_is = decimal_tested 0 any_u64 1 (codes "1") refl },
    (
      codes "N1=2",
      [],
      refl,
      record { front = codes "N1"; back = codes "2"; text_is = refl; front_is = key 78 (codes "1") refl; back_is = decimal_tested 0 any_u64 2 (codes "2") refl },
      refl,
    ),
  );
  distinct = ((unlike (codes "N0") (codes "N1") refl, tt), (tt, tt));
}

pub nested : Nested
unfolding read_form_of
nested = file form.Nested (codes "anon N0=1 N1=2" ∷ []) refl (record { x = _; value = refl; spelled = record { each = (nested_row, tt); distinct = (tt, tt) } }) refl

pub raw_nested : RawNested
unfolding read_form_of
raw_nested = file form.Raw (codes "anon N0=1 N0=2" ∷ []) refl (many_lines _ (codes "anon N0=1 N0=2" ∷ []) ((refl, raw_tested (codes "anon N0=1 N0=2") refl), tt)) refl

pub other_name : OtherName
unfolding read_form_of
other_name = file form.Raw (codes "max" ∷ []) refl (many_lines _ (codes "max" ∷ []) ((refl, raw_tested (codes "max") refl), tt)) refl

pub high_byte : HighByte
unfolding read_form_of
high_byte = file form.Raw ((255 ∷ []) ∷ []) refl (many_lines _ ((255 ∷ []) ∷ []) ((refl, raw_tested (255 ∷ []) refl), tt)) refl

pub not_readable : NotReadable
unfolding read_form_of
not_readable = refl

-- Which parts of values some text spells.
use Rattle.std.proofs.Common.{◌≡◌, ℕ, ◌+◌, ◌/◌, ◌%◌, ◌≤◌, ◌<◌, ◌≢◌, ◌↔◌, inl, inr, Bool, true, false, cond, ℤ, ◌≤ℤ◌, pos, negsuc, suc, List, [], ◌∷◌, ◌++◌, Option, Some, None, All, map, length}
use Rattle.std.proofs.Common.{IsTrue, get_or, codes, refl, sym, ap, arith}
use Rattle.std.proofs.lemmas.List.Elements.{All-nil, All-cons, All-head, All-tail, All-map}
use Rattle.std.proofs.lemmas.Bool.{cases_lt}
use Rattle.std.proofs.lemmas.Slice.Eq.{bytes_eq-Decides}
use Rattle.std.specs.Str.{bytes_eq}
use Rattle.std.specs.List.{AllZip}
use Rattle.cg_text.specs.Amount.{IsAmount}
use Rattle.cg_text.specs.Clamp.{IsClamp}
use Rattle.cg_text.specs.Decimal.{IsDecimal}
use Rattle.cg_text.specs.DecimalLaws.{numeral}
use Rattle.cg_text.specs.Device.{IsDevice, IsDeviceName}
use Rattle.cg_text.specs.Distinct.{AreDistinct, LacksValue}
use Rattle.cg_text.specs.Hundredths.{IsHundredths}
use Rattle.cg_text.specs.Limit.{IsLimit}
use Rattle.cg_text.specs.List.{IsRangeText, AreRangeTexts, IsStrictList}
use Rattle.cg_text.specs.Numbers.{IsSet, IsSetFrom}
use Rattle.cg_text.specs.Name.{IsNameValue}
use Rattle.cg_text.specs.Param.{IsParam}
use Rattle.cg_text.specs.Raw.{IsRawLine}
use Rattle.cg_text.specs.Signed.{IsSignedNumeral, IsSigned}
use Rattle.cg_text.specs.Word.{IsControllerWord}
use Rattle.cg_text.specs.declared.hundredths.Spelling.TheVariants.{Read}
use Rattle.cg_text.specs.declared.values.Device.{Device}
use Rattle.cg_text.specs.declared.values.Hundredths.{Hundredths}
use Rattle.cg_text.specs.declared.values.Amount.{Amount}
use Rattle.cg_text.specs.declared.values.Amount.TheVariants as amount
use Rattle.cg_text.specs.declared.values.Clamp.{Clamp}
use Rattle.cg_text.specs.declared.values.Clamp.TheVariants as clamp
use Rattle.cg_text.specs.declared.values.Limit.{Limit}
use Rattle.cg_text.specs.declared.values.Limit.TheVariants as limit
use Rattle.cg_text.specs.declared.values.ParamValue.TheVariants as param
use Rattle.cg_index.specs.Cells.{item_of}
use Rattle.cg_index.specs.declared.cell.Cell.{Cell}
use Rattle.cg_value.specs.Flat.{number_of, HasDistinctKeys}
use Rattle.cg_value.specs.Kind.{any_u64}
use Rattle.cg_value.specs.Lines.{HasParts, IsKey, AreLed}
use Rattle.cg_value.specs.ReadLine.{AreWords, words_line, IsFlatLine, IsStatPair, pad_text, IsStatLine, IsLimitLine, IsWeightLine, IsTargetLine, role_text, CanBeInvalid, IsPartition, AreAverages}
use Rattle.cg_value.specs.ReadLine.{IsPressureLine, ArePressureLines, IsNestedPair, IsNestedLine, IsNodeStats, IsRaw, IsFlatLimit, IsParamPair, IsParamLine}
use Rattle.cg_value.specs.declared.flat.FlatPair.{FlatPair}
use Rattle.cg_value.specs.declared.value.Averages.{Averages}
use Rattle.cg_value.specs.declared.value.LimitLine.{LimitLine}
use Rattle.cg_value.specs.declared.value.FlatLimit.{FlatLimit}
use Rattle.cg_value.specs.declared.value.NestedLine.{NestedLine}
use Rattle.cg_value.specs.declared.value.NestedPair.{NestedPair}
use Rattle.cg_value.specs.declared.value.ParamLine.{ParamLine}
use Rattle.cg_value.specs.declared.value.ParamPair.{ParamPair}
use Rattle.cg_value.specs.declared.value.Role.{Role}
use Rattle.cg_value.specs.declared.value.StatLine.{StatLine}
use Rattle.cg_value.specs.declared.value.StatPair.{StatPair}
use Rattle.cg_value.specs.declared.value.TargetLine.{TargetLine}
use Rattle.cg_value.specs.declared.value.WeightLine.{WeightLine}

-- Some text is in the set.
pub record HasText (P : List ℕ → Type 0) : Type 0 where
  pub text : List ℕ
  pub spelled : P text

-- Some lines are in the set.
pub record HasLines (L : List (List ℕ) → Type 0) : Type 0 where
  pub lines : List (List ℕ)
  pub spelled : L lines

-- ---- Numbers

-- A number of the range has a text, and no other.
pub decimal_text : (lo hi n : ℕ) → ((lo ≤ n) × (n ≤ hi)) ↔ HasText (IsDecimal lo hi n)
decimal_text lo hi n = (
  λ h. (let text = numeral n in record { text = text.0; spelled = (h.0, h.1, text.1) }),
  λ h. (h.spelled.0, h.spelled.1),
)

signed_numeral : (z : ℤ) → HasText (IsSignedNumeral z)
signed_numeral (pos n) = let text = numeral n in record { text = text.0; spelled = text.1 }
signed_numeral (negsuc n) = let text = numeral (suc n) in record { text = 45 ∷ text.0; spelled = (text.0, refl, text.1) }

pub signed_text : (lo hi z : ℤ) → ((lo ≤ℤ z) × (z ≤ℤ hi)) ↔ HasText (IsSigned lo hi z)
signed_text lo hi z = (
  λ h. (let s = signed_numeral z in record { text = s.text; spelled = (h.0, h.1, s.spelled) }),
  λ h. (h.spelled.0, h.spelled.1),
)

-- Hundredths up to the bound have a text, and no others.
pub hundredths_text : (most : ℕ) (h : Hundredths) → (h.count ≤ most) ↔ HasText (IsHundredths Read most h)
hundredths_text most h = (
  λ le. (let whole = numeral (h.count / 100) in record {
    text = whole.0 ++ 46 ∷ (48 + h.count / 10 % 10) ∷ (48 + h.count % 10) ∷ [];
    spelled = (
      le,
      record {
        whole = h.count / 100;
        digits = whole.0;
        tenth = 48 + h.count / 10 % 10;
        hundredth = 48 + h.count % 10;
        text_is = refl;
        whole_is = whole.1;
        tenth_is = (omega arith, omega arith);
        hundredth_is = (omega arith, omega arith);
        count_is = omega arith;
      },
    );
  }),
  λ t. t.spelled.0,
)

-- ---- Parts of lines

pub max_limit : (l : Limit) → l ≡ limit.Max → HasText (IsLimit 0 any_u64 l)
max_limit limit.Max e = record { text = codes "max"; spelled = refl }
max_limit (limit.At n) e = absurd (cc)

pub max_clamp : (c : Clamp) → c ≡ clamp.Max → HasText (IsClamp Read c)
max_clamp clamp.Max e = record { text = codes "max"; spelled = refl }
max_clamp (clamp.At h) e = absurd (cc)

pub max_amount : (signed : Bool) (a : Amount) → a ≡ amount.Max → HasText (IsAmount signed a)
max_amount signed a e = rw e (record { text = codes "max"; spelled = refl })

pub below_amount : (signed : Bool) (n : ℕ) → (IsTrue signed × HasText (IsDecimal 1 2147483648 n)) ↔ HasText (IsAmount signed (amount.Below n))
below_amount signed n = (
  λ h. record { text = 45 ∷ h.1.text; spelled = (h.0, record { digits = h.1.text; text_is = refl; digits_are = h.1.spelled }) },
  λ h. (h.spelled.0, record { text = h.spelled.1.digits; spelled = h.spelled.1.digits_are }),
)

pub parts_text : {V W : Type 0} (P : V → List ℕ → Type 0) (mark : List ℕ) (Q : W → List ℕ → Type 0) (v : V) (w : W) → (HasText (P v) × HasText (Q w)) ↔ HasText (HasParts P mark Q v w)
parts_text P mark Q v w = (
  λ h. record { text = h.0.text ++ mark ++ h.1.text; spelled = record { front = h.0.text; back = h.1.text; text_is = refl; front_is = h.0.spelled; back_is = h.1.spelled } },
  λ h. (record { text = h.spelled.front; spelled = h.spelled.front_is }, record { text = h.spelled.back; spelled = h.spelled.back_is }),
)

lines_on : {X : Type 0} (P : X → List ℕ → Type 0) (xs : List X) → All (λ x. HasText (P x)) xs → HasLines (AllZip P xs)
lines_on P [] h = record { lines = []; spelled = tt }
lines_on P (x ∷ xs) h =
    let first = All-head (λ y. HasText (P y)) x xs h in
    let more = lines_on P xs (All-tail (λ y. HasText (P y)) x xs h) in
    record { lines = first.text ∷ more.lines; spelled = (first.spelled, more.spelled) }

lines_back : {X : Type 0} (P : X → List ℕ → Type 0) (xs : List X) (lines : List (List ℕ)) → AllZip P xs lines → All (λ x. HasText (P x)) xs
lines_back P [] lines h = All-nil (λ y. HasText (P y))
lines_back P (x ∷ xs) [] h = absurd h
lines_back P (x ∷ xs) (line ∷ lines) h = All-cons (λ y. HasText (P y)) x xs (record { text = line; spelled = h.0 }) (lines_back P xs lines h.1)

-- Each has a line exactly where they have lines together.
pub lines_text : {X : Type 0} (P : X → List ℕ → Type 0) (xs : List X) → All (λ x. HasText (P x)) xs ↔ HasLines (AllZip P xs)
lines_text P xs = (lines_on P xs, λ h. lines_back P xs h.lines h.spelled)

mapped_on : {X Y : Type 0} (f : X → Y) (P : Y → List ℕ → Type 0) (xs : List X) (lines : List (List ℕ)) → AllZip (λ x. P (f x)) xs lines → AllZip P (map f xs) lines
mapped_on f P [] [] h = h
mapped_on f P [] (line ∷ lines) h = h
mapped_on f P (x ∷ xs) [] h = h
mapped_on f P (x ∷ xs) (line ∷ lines) h = (h.0, mapped_on f P xs lines h.1)

mapped_back : {X Y : Type 0} (f : X → Y) (P : Y → List ℕ → Type 0) (xs : List X) (lines : List (List ℕ)) → AllZip P (map f xs) lines → AllZip (λ x. P (f x)) xs lines
mapped_back f P [] [] h = h
mapped_back f P [] (line ∷ lines) h = h
mapped_back f P (x ∷ xs) [] h = h
mapped_back f P (x ∷ xs) (line ∷ lines) h = (h.0, mapped_back f P xs lines h.1)

-- What lies in places has lines exactly where the places have.
pub mapped_text : {X Y : Type 0} (f : X → Y) (P : Y → List ℕ → Type 0) (xs : List X) → HasLines (AllZip (λ x. P (f x)) xs) ↔ HasLines (AllZip P (map f xs))
mapped_text f P xs = (
  λ h. record { lines = h.lines; spelled = mapped_on f P xs h.lines h.spelled },
  λ h. record { lines = h.lines; spelled = mapped_back f P xs h.lines h.spelled },
)

led_on : {X : Type 0} (P : X → List ℕ → Type 0) (xs : List X) (lines : List (List ℕ)) → AllZip P xs lines → HasText (AreLed P xs)
led_on P [] lines h = record { text = []; spelled = refl }
led_on P (x ∷ xs) [] h = absurd h
led_on P (x ∷ xs) (line ∷ lines) h =
    let more = led_on P xs lines h.1 in
    record { text = 32 ∷ (line ++ more.text); spelled = (line, more.text, refl, h.0, more.spelled) }

led_back : {X : Type 0} (P : X → List ℕ → Type 0) (xs : List X) (text : List ℕ) → AreLed P xs text → HasLines (AllZip P xs)
led_back P [] text h = record { lines = []; spelled = tt }
led_back P (x ∷ xs) text h = let more = led_back P xs h.1 h.4 in record { lines = h.0 ∷ more.lines; spelled = (h.3, more.spelled) }

pub device_text : (d : Device) → (HasText (IsDecimal 0 4095 d.major) × HasText (IsDecimal 0 1048575 d.minor)) ↔ HasText (IsDevice d)
device_text d = (
  λ h. record { text = h.0.text ++ 58 ∷ h.1.text; spelled = record { major = h.0.text; minor = h.1.text; text_is = refl; major_is = h.0.spelled; minor_is = h.1.spelled } },
  λ h. (record { text = h.spelled.major; spelled = h.spelled.major_is }, record { text = h.spelled.minor; spelled = h.spelled.minor_is }),
)

-- A device that is gone has a text where such are allowed.
pub gone_text : (unknown : Bool) → IsTrue unknown ↔ HasText (IsDeviceName unknown None)
gone_text unknown = (λ e. record { text = codes "(unknown)"; spelled = (e, refl) }, λ h. h.spelled.0)

-- ---- Lines

pub flat_text : (p : FlatPair) → (HasText (IsKey p.key) × HasText (IsDecimal 0 any_u64 p.number)) ↔ HasText (IsFlatLine p)
flat_text p = parts_text IsKey (codes " ") (IsDecimal 0 any_u64) p.key p.number

pub flat_limit_text : (p : FlatLimit) → (HasText (IsKey p.key) × HasText (IsLimit 0 any_u64 p.limit)) ↔ HasText (IsFlatLimit p)
flat_limit_text p = parts_text IsKey (codes " ") (IsLimit 0 any_u64) p.key p.limit

pub stat_pair_text : (kernel : Bool) (p : StatPair) → (HasText (IsKey p.key) × HasText (IsAmount kernel p.amount)) ↔ HasText (IsStatPair kernel p)
stat_pair_text kernel p = parts_text IsKey (codes "=") (IsAmount kernel) p.key p.amount

pub stat_text : (kernel : Bool) (s : StatLine) → (HasText (IsDeviceName kernel s.device) × (HasLines (AllZip (IsStatPair kernel) s.pairs) × AreDistinct (map (λ p. p.key) s.pairs))) ↔ HasText (IsStatLine kernel s)
stat_text kernel s = (
  λ h. (let led = led_on (IsStatPair kernel) s.pairs h.1.0.lines h.1.0.spelled in record {
    text = h.0.text ++ pad_text s.pad ++ led.text;
    spelled = record { device = h.0.text; pairs = led.text; line_is = refl; device_is = h.0.spelled; pairs_are = led.spelled; distinct = h.1.1 };
  }),
  λ h. (record { text = h.spelled.device; spelled = h.spelled.device_is }, (led_back (IsStatPair kernel) s.pairs h.spelled.pairs h.spelled.pairs_are, h.spelled.distinct)),
)

three : {X : Type 0} (P : X → Type 0) (a b c : X) → All P (a ∷ b ∷ c ∷ []) ↔ (P a × P b × P c)
three P a b c = (
  λ h. (let t = All-tail P a (b ∷ c ∷ []) h in
      let u = All-tail P b (c ∷ []) t in
      (All-head P a (b ∷ c ∷ []) h, All-head P b (c ∷ []) t, All-head P c [] u)),
  λ h. All-cons P a (b ∷ c ∷ []) h.0 (All-cons P b (c ∷ []) h.1 (All-cons P c [] h.2 (All-nil P))),
)

four : {X : Type 0} (P : X → Type 0) (a b c d : X) → All P (a ∷ b ∷ c ∷ d ∷ []) ↔ (P a × P b × P c × P d)
four P a b c d = (
  λ h. (let f = (three P b c d).0 (All-tail P a (b ∷ c ∷ d ∷ []) h) in (All-head P a (b ∷ c ∷ d ∷ []) h, f.0, f.1, f.2)),
  λ h. All-cons P a (b ∷ c ∷ d ∷ []) h.0 ((three P b c d).1 (h.1, h.2, h.3)),
)

limits_on : (kernel : Bool) (l : LimitLine) → (HasText (IsDeviceName kernel l.device) × HasText (IsLimit 0 any_u64 l.rbps) × HasText (IsLimit 0 any_u64 l.wbps) × HasText (IsLimit 0 any_u64 l.riops) × HasText (IsLimit 0 any_u64 l.wiops)) ↔ HasText (IsLimitLine kernel l)
limits_on kernel l = (
  λ h. record {
    text = h.0.text ++ codes " rbps=" ++ h.1.text ++ codes " wbps=" ++ h.2.text ++ codes " riops=" ++ h.3.text ++ codes " wiops=" ++ h.4.text;
    spelled = record {
      device = h.0.text;
      rbps = h.1.text;
      wbps = h.2.text;
      riops = h.3.text;
      wiops = h.4.text;
      line_is = refl;
      device_is = h.0.spelled;
      rbps_is = h.1.spelled;
      wbps_is = h.2.spelled;
      riops_is = h.3.spelled;
      wiops_is = h.4.spelled;
    };
  },
  λ h. (
    record { text = h.spelled.device; spelled = h.spelled.device_is },
    record { text = h.spelled.rbps; spelled = h.spelled.rbps_is },
    record { text = h.spelled.wbps; spelled = h.spelled.wbps_is },
    record { text = h.spelled.riops; spelled = h.spelled.riops_is },
    record { text = h.spelled.wiops; spelled = h.spelled.wiops_is },
  ),
)

pub limits_text : (kernel : Bool) (l : LimitLine) → (HasText (IsDeviceName kernel l.device) × HasLines (AllZip (IsLimit 0 any_u64) (l.rbps ∷ l.wbps ∷ l.riops ∷ l.wiops ∷ []))) ↔ HasText (IsLimitLine kernel l)
limits_text kernel l =
    let P = λ (x : Limit). HasText (IsLimit 0 any_u64 x) in
    let all = lines_text (IsLimit 0 any_u64) (l.rbps ∷ l.wbps ∷ l.riops ∷ l.wiops ∷ []) in
    let each = four P l.rbps l.wbps l.riops l.wiops in (
      λ h. (let f = each.0 (all.1 h.1) in (limits_on kernel l).0 (h.0, f.0, f.1, f.2, f.3)),
      λ h. (let f = (limits_on kernel l).1 h in (f.0, all.0 (each.1 (f.1, f.2, f.3, f.4)))),
    )

pub weight_text : (most : ℕ) (kernel : Bool) (w : WeightLine) → (HasText (IsDeviceName kernel w.device) × HasText (IsDecimal 1 most w.weight)) ↔ HasText (IsWeightLine most kernel w)
weight_text most kernel w = parts_text (IsDeviceName kernel) (codes " ") (IsDecimal 1 most) w.device w.weight

pub target_text : (kernel : Bool) (t : TargetLine) → (HasText (IsDeviceName kernel t.device) × HasText (IsDecimal 0 any_u64 t.target)) ↔ HasText (IsTargetLine kernel t)
target_text kernel t = parts_text (IsDeviceName kernel) (codes " target=") (IsDecimal 0 any_u64) t.device t.target

pub name_text : (name : List ℕ) → IsNameValue name ↔ HasText (IsParam (param.Name name))
name_text name = (λ h. record { text = name; spelled = (refl, h) }, λ h. rw h.spelled.0 h.spelled.1)

pub param_pair_text : (p : ParamPair) → (HasText (IsKey p.key) × HasText (IsParam p.value)) ↔ HasText (IsParamPair p)
param_pair_text p = parts_text IsKey (codes "=") IsParam p.key p.value

pub params_text : (l : ParamLine) → (HasText (IsDeviceName true l.device) × ((0 < length l.params) × (HasLines (AllZip IsParamPair l.params) × AreDistinct (map (λ p. p.key) l.params)))) ↔ HasText (IsParamLine l)
params_text l = (
  λ h. (let led = led_on IsParamPair l.params h.1.1.0.lines h.1.1.0.spelled in record {
    text = h.0.text ++ led.text;
    spelled = record { device = h.0.text; params = led.text; line_is = refl; device_is = h.0.spelled; some = h.1.0; params_are = led.spelled; distinct = h.1.1.1 };
  }),
  λ h. (record { text = h.spelled.device; spelled = h.spelled.device_is }, (h.spelled.some, (led_back IsParamPair l.params h.spelled.params h.spelled.params_are, h.spelled.distinct))),
)

averages_on : (a : Averages) → (HasText (IsHundredths Read 99999 a.avg10) × HasText (IsHundredths Read 99999 a.avg60) × HasText (IsHundredths Read 99999 a.avg300) × HasText (IsDecimal 0 any_u64 a.total)) ↔ HasText (AreAverages a)
averages_on a = (
  λ h. record {
    text = codes " avg10=" ++ h.0.text ++ codes " avg60=" ++ h.1.text ++ codes " avg300=" ++ h.2.text ++ codes " total=" ++ h.3.text;
    spelled = record {
      avg10 = h.0.text;
      avg60 = h.1.text;
      avg300 = h.2.text;
      total = h.3.text;
      text_is = refl;
      avg10_is = h.0.spelled;
      avg60_is = h.1.spelled;
      avg300_is = h.2.spelled;
      total_is = h.3.spelled;
    };
  },
  λ h. (
    record { text = h.spelled.avg10; spelled = h.spelled.avg10_is },
    record { text = h.spelled.avg60; spelled = h.spelled.avg60_is },
    record { text = h.spelled.avg300; spelled = h.spelled.avg300_is },
    record { text = h.spelled.total; spelled = h.spelled.total_is },
  ),
)

pub averages_text : (a : Averages) → (HasText (IsDecimal 0 any_u64 a.total) × HasLines (AllZip (IsHundredths Read 99999) (a.avg10 ∷ a.avg60 ∷ a.avg300 ∷ []))) ↔ HasText (AreAverages a)
averages_text a =
    let P = λ (x : Hundredths). HasText (IsHundredths Read 99999 x) in
    let all = lines_text (IsHundredths Read 99999) (a.avg10 ∷ a.avg60 ∷ a.avg300 ∷ []) in
    let each = three P a.avg10 a.avg60 a.avg300 in (
      λ h. (let f = each.0 (all.1 h.1) in (averages_on a).0 (f.0, f.1, f.2, h.0)),
      λ h. (let f = (averages_on a).1 h in (f.3, all.0 (each.1 (f.0, f.1, f.2)))),
    )

pub nested_pair_text : (p : NestedPair) → (HasText (IsKey p.key) × HasText (IsDecimal 0 any_u64 p.number)) ↔ HasText (IsNestedPair p)
nested_pair_text p = parts_text IsKey (codes "=") (IsDecimal 0 any_u64) p.key p.number

pub nested_text : (l : NestedLine) → (HasText (IsKey l.key) × (HasLines (AllZip IsNestedPair l.pairs) × AreDistinct (map (λ p. p.key) l.pairs))) ↔ HasText (IsNestedLine l)
nested_text l = (
  λ h. (let led = led_on IsNestedPair l.pairs h.1.0.lines h.1.0.spelled in record {
    text = l.key ++ led.text;
    spelled = record { pairs = led.text; line_is = refl; key_is = h.0.spelled.1; pairs_are = led.spelled; distinct = h.1.1 };
  }),
  λ h. (record { text = l.key; spelled = (refl, h.spelled.key_is) }, (led_back IsNestedPair l.pairs h.spelled.pairs h.spelled.pairs_are, h.spelled.distinct)),
)

pub node_stats_text : (total : ℕ) (nodes : List NestedPair) → (HasText (IsDecimal 0 any_u64 total) × (HasLines (AllZip IsNestedPair nodes) × AreDistinct (map (λ p. p.key) nodes))) ↔ HasText (IsNodeStats (total, nodes))
node_stats_text total nodes = (
  λ h. (let led = led_on IsNestedPair nodes h.1.0.lines h.1.0.spelled in record {
    text = codes "total=" ++ h.0.text ++ led.text;
    spelled = record { total = h.0.text; nodes = led.text; line_is = refl; total_is = h.0.spelled; nodes_are = led.spelled; distinct = h.1.1 };
  }),
  λ h. (record { text = h.spelled.total; spelled = h.spelled.total_is }, (led_back IsNestedPair nodes h.spelled.nodes h.spelled.nodes_are, h.spelled.distinct)),
)

pub raw_text : (bytes : List ℕ) → IsRawLine bytes ↔ HasText (IsRaw bytes)
raw_text bytes = (λ h. record { text = bytes; spelled = (refl, h) }, λ h. h.spelled.1)

line_bytes : (bytes : List ℕ) → ((i : ℕ) → get_or bytes i 0 < 256) → All (λ b. (b ≢ 0) × (b ≢ 10)) bytes → IsRawLine bytes
line_bytes [] f h = tt
line_bytes (c ∷ cs) f h =
    let first = All-head (λ b. (b ≢ 0) × (b ≢ 10)) c cs h in
    (omega (arith, first.0), f 0, first.1, line_bytes cs (λ i. f (suc i)) (All-tail (λ b. (b ≢ 0) × (b ≢ 10)) c cs h))

bytes_line : (bytes : List ℕ) → IsRawLine bytes → All (λ b. (b ≢ 0) × (b ≢ 10)) bytes
bytes_line [] h = All-nil (λ b. (b ≢ 0) × (b ≢ 10))
bytes_line (c ∷ cs) h = All-cons (λ b. (b ≢ 0) × (b ≢ 10)) c cs ((λ e. omega (arith, e, h.0)), h.2) (bytes_line cs h.3)

-- Bytes are a line exactly where none is NUL or a newline.
pub raw_line : (bytes : List ℕ) → ((i : ℕ) → get_or bytes i 0 < 256) → All (λ b. (b ≢ 0) × (b ≢ 10)) bytes ↔ IsRawLine bytes
raw_line bytes f = (line_bytes bytes f, bytes_line bytes)

-- ---- Files of one line

range_text : (most : ℕ) (r : ℕ × ℕ) → r.0 ≤ r.1 → r.1 ≤ most → HasText (IsRangeText most r)
range_text most r order within =
    let first = numeral (r.0) in
    let last = numeral (r.1) in
    elim (cases_lt (r.0) (r.1)) [
      | inl lt ↦ record { text = first.0 ++ 45 ∷ last.0; spelled = inr (lt, first.0, last.0, refl, (omega arith, omega arith, first.1), (omega arith, within, last.1)) }
      | inr ge ↦ record { text = first.0; spelled = inl (omega arith, (omega arith, omega arith, first.1)) }
    ]

range_end : (most : ℕ) (r : ℕ × ℕ) (text : List ℕ) → IsRangeText most r text → r.1 ≤ most
range_end most r text (inl h) = omega (arith, h.0, h.1.1)
range_end most r text (inr h) = h.5.1

abbrev Ends : ℕ → ℕ × ℕ → Type 0
Ends most r = r.1 ≤ most

ranges_text : (most least : ℕ) (rs : List (ℕ × ℕ)) → IsSetFrom least rs → All (Ends most) rs → HasText (AreRangeTexts most rs)
ranges_text most least [] s h = record { text = []; spelled = refl }
ranges_text most least (r ∷ []) s h = range_text most r s.1 (All-head (Ends most) r [] h)
ranges_text most least (r ∷ q ∷ rs) s h =
    let first = range_text most r s.1 (All-head (Ends most) r (q ∷ rs) h) in
    let more = ranges_text most (r.1 + 2) (q ∷ rs) s.2 (All-tail (Ends most) r (q ∷ rs) h) in
    record { text = first.text ++ 44 ∷ more.text; spelled = (first.text, more.text, refl, first.spelled, more.spelled) }

ranges_end : (most : ℕ) (rs : List (ℕ × ℕ)) (text : List ℕ) → AreRangeTexts most rs text → All (Ends most) rs
ranges_end most [] text h = All-nil (Ends most)
ranges_end most (r ∷ []) text h = All-cons (Ends most) r [] (range_end most r text h) (All-nil (Ends most))
ranges_end most (r ∷ q ∷ rs) text h = All-cons (Ends most) r (q ∷ rs) (range_end most r h.0 h.3) (ranges_end most (q ∷ rs) h.1 h.4)

-- A set up to the greatest list number has a text, and no other.
pub set_text : (most : ℕ) (rs : List (ℕ × ℕ)) → IsSet rs → All (λ r. r.1 ≤ most) rs ↔ HasText (IsStrictList most rs)
set_text most rs s = (
  λ h. (let t = ranges_text most 0 rs s h in record { text = t.text; spelled = (s, t.spelled) }),
  λ h. ranges_end most rs h.text h.spelled.1,
)

pub valid_text : (role : Role) → HasText (IsPartition role true None)
valid_text role = record { text = role_text role; spelled = refl }

pub invalid_text : (role : Role) → CanBeInvalid role ↔ HasText (IsPartition role false None)
invalid_text role = (
  λ h. record { text = role_text role ++ codes " invalid"; spelled = (h, refl) },
  λ h. h.spelled.0,
)

pub reason_text : (role : Role) (reason : List ℕ) → (CanBeInvalid role × IsRawLine reason) ↔ HasText (IsPartition role false (Some reason))
reason_text role reason = (
  λ h. record { text = role_text role ++ codes " invalid (" ++ reason ++ codes ")"; spelled = (h.0, refl, h.1) },
  λ h. (h.spelled.0, h.spelled.2),
)

-- ---- Files of several lines

same_words : (words : List (List ℕ)) → map (λ w. w) words ≡ words
same_words [] = refl
same_words (w ∷ ws) = ap (λ x. w ∷ x) (same_words ws)

all_back : {X Y : Type 0} (f : X → Y) (P : Y → Type 0) (xs : List X) → All P (map f xs) → All (λ x. P (f x)) xs
all_back f P [] h = All-nil (λ x. P (f x))
all_back f P (x ∷ xs) h = All-cons (λ y. P (f y)) x xs (All-head P (f x) (map f xs) h) (all_back f P xs (All-tail P (f x) (map f xs) h))

-- Different words in cells have lines exactly where each is a controller's.
pub words_text : (cells : List (Cell (List ℕ))) → (All (λ cell. IsControllerWord cell.item) cells × AreDistinct (map (λ w. w) (map item_of cells))) ↔ HasLines (AreWords (map item_of cells))
words_text cells = rw (same_words (map item_of cells)) (
  λ h. record { lines = words_line (map item_of cells) ∷ []; spelled = record { each = All-map IsControllerWord item_of cells h.0; distinct = h.1; lines_are = inl refl } },
  λ h. (all_back item_of IsControllerWord cells h.spelled.each, h.spelled.distinct),
)

pressure_line : (word : List ℕ) (a : Averages) → HasText (AreAverages a) ↔ HasText (IsPressureLine word a)
pressure_line word a = (
  λ h. record { text = word ++ h.text; spelled = (h.text, refl, h.spelled) },
  λ h. record { text = h.spelled.0; spelled = h.spelled.2 },
)

pub some_text : (a : Averages) → HasText (AreAverages a) ↔ HasLines (ArePressureLines (Some a) None)
some_text a = (
  λ h. (let line = (pressure_line (codes "some") a).0 h in record { lines = line.text ∷ []; spelled = (line.text, refl, line.spelled) }),
  λ h. (pressure_line (codes "some") a).1 (record { text = h.spelled.0; spelled = h.spelled.2 }),
)

pub full_text : (b : Averages) → HasText (AreAverages b) ↔ HasLines (ArePressureLines None (Some b))
full_text b = (
  λ h. (let line = (pressure_line (codes "full") b).0 h in record { lines = line.text ∷ []; spelled = (line.text, refl, line.spelled) }),
  λ h. (pressure_line (codes "full") b).1 (record { text = h.spelled.0; spelled = h.spelled.2 }),
)

pub both_text : (a b : Averages) → (HasText (AreAverages a) × HasText (AreAverages b)) ↔ HasLines (ArePressureLines (Some a) (Some b))
both_text a b = (
  λ h. (
      let first = (pressure_line (codes "some") a).0 h.0 in
      let second = (pressure_line (codes "full") b).0 h.1 in
      record { lines = first.text ∷ second.text ∷ []; spelled = (first.text, second.text, refl, first.spelled, second.spelled) }),
  λ h. ((pressure_line (codes "some") a).1 (record { text = h.spelled.0; spelled = h.spelled.3 }), (pressure_line (codes "full") b).1 (record { text = h.spelled.1; spelled = h.spelled.4 })),
)

-- ---- Distinct keys

chosen : (b : Bool) (n : ℕ) (o : Option ℕ) → cond b (Some n) o ≡ None → (b ≡ false) × (o ≡ None)
chosen true n o h = absurd (cc)
chosen false n o h = (refl, h)

other_key : (key other : List ℕ) → bytes_eq other key ≡ false → key ≡ other → ⊥
other_key key other h e = let same : bytes_eq other key ≡ true = (bytes_eq-Decides other key).1 (sym e) in cc

lacks_key : (key : List ℕ) (ps : List FlatPair) → number_of key ps ≡ None → LacksValue key (map (λ p. p.key) ps)
lacks_key key [] h = tt
lacks_key key (p ∷ ps) h =
    let none = chosen (bytes_eq p.key key) p.number (number_of key ps) h in
    (other_key key p.key none.0, lacks_key key ps none.1)

-- Pairs with different keys, as flat values have them.
pub flat_distinct : (ps : List FlatPair) → HasDistinctKeys ps → AreDistinct (map (λ p. p.key) ps)
flat_distinct [] h = tt
flat_distinct (p ∷ ps) h = (lacks_key p.key ps h.0, flat_distinct ps h.1)

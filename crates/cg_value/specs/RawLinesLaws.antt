-- Each line of a file that is read, whatever its kind, holds bytes with no NUL and no newline.
use Rattle.std.proofs.Common.{◌≡◌, ℕ, suc, ◌⊎◌, inl, inr, Bool, true, false, ◌&&◌, nat_lt, ℤ, pos, negsuc, List, [], ◌∷◌, ◌++◌, Option, Some, None, codes, refl, arith, ltb-true}
use Rattle.std.proofs.lemmas.Bool.{and_parts}
use Rattle.std.proofs.lemmas.List.Elements.{recursion_from_All}
use Rattle.std.specs.List.{AllZip, AllByRecursion, list_all}
use Rattle.cg_text.specs.Class.{class_text}
use Rattle.cg_text.specs.AboveSpace.{AreAboveSpace}
use Rattle.cg_text.specs.AboveSpaceLaws.{numeral_above}
use Rattle.cg_text.specs.Amount.{IsAmount, IsBelow}
use Rattle.cg_text.specs.Clamp.{IsClamp}
use Rattle.cg_text.specs.Decimal.{IsNumeral, IsDecimal}
use Rattle.cg_text.specs.Device.{IsDevice, IsDeviceName}
use Rattle.cg_text.specs.Hundredths.{IsHundredths}
use Rattle.cg_text.specs.Limit.{IsLimit}
use Rattle.cg_text.specs.List.{IsRangeText, AreRangeTexts}
use Rattle.cg_text.specs.Name.{IsNameValue}
use Rattle.cg_text.specs.NumeralLaws.{numeral_bytes}
use Rattle.cg_text.specs.Param.{IsParam}
use Rattle.cg_text.specs.Raw.{IsRawLine}
use Rattle.cg_text.specs.RawLaws.{raw_append}
use Rattle.cg_text.specs.Signed.{IsSignedNumeral}
use Rattle.cg_text.specs.Token.{AreBytes}
use Rattle.cg_text.specs.Word.{AreWordBytes, IsWord, IsControllerWord}
use Rattle.cg_text.specs.declared.hundredths.Spelling.TheVariants.{Read}
use Rattle.cg_text.specs.declared.values.Amount.{Amount}
use Rattle.cg_text.specs.declared.values.Amount.TheVariants as amount
use Rattle.cg_text.specs.declared.values.Clamp.{Clamp}
use Rattle.cg_text.specs.declared.values.Clamp.TheVariants as clamp
use Rattle.cg_text.specs.declared.values.Device.{Device}
use Rattle.cg_text.specs.declared.values.Hundredths.{Hundredths}
use Rattle.cg_text.specs.declared.values.Limit.{Limit}
use Rattle.cg_text.specs.declared.values.Limit.TheVariants as limit
use Rattle.cg_text.specs.declared.values.ParamValue.{ParamValue}
use Rattle.cg_text.specs.declared.values.ParamValue.TheVariants as param
use Rattle.cg_value.specs.Files.{ReadLines}
use Rattle.cg_value.specs.Kind.{any_u64}
use Rattle.cg_value.specs.Lines.{HasParts, IsKey, AreLed}
use Rattle.cg_value.specs.ReadLine.{mode_text, words_line, pad_text, role_text, IsCpuMax, AreWords, IsFlatLine, IsStatPair, IsStatLine, IsLimitLine, IsDefaultLine, IsWeightLine, AreWeightLines}
use Rattle.cg_value.specs.ReadLine.{IsTargetLine, IsPartition, AreAverages, IsPressureLine, ArePressureLines, IsNestedPair, IsNestedLine, IsNodeStats, IsRaw, IsFlatLimit, IsParamPair, IsParamLine}
use Rattle.cg_value.specs.declared.flat.FlatPair.{FlatPair}
use Rattle.cg_value.specs.declared.kind.ReadForm.{ReadForm}
use Rattle.cg_value.specs.declared.kind.ReadForm.TheVariants as form
use Rattle.cg_value.specs.declared.value.Averages.{Averages}
use Rattle.cg_value.specs.declared.value.FlatLimit.{FlatLimit}
use Rattle.cg_value.specs.declared.value.GroupMode.{GroupMode}
use Rattle.cg_value.specs.declared.value.GroupMode.TheVariants.{Domain, DomainThreaded, DomainInvalid, Threaded}
use Rattle.cg_text.specs.declared.values.IoClass.{IoClass}
use Rattle.cg_text.specs.declared.values.IoClass.TheVariants.{NoChange, PromoteToRt, RestrictToBe, Idle, NoneToRt}
use Rattle.cg_value.specs.declared.value.LimitLine.{LimitLine}
use Rattle.cg_value.specs.declared.value.NestedLine.{NestedLine}
use Rattle.cg_value.specs.declared.value.NestedPair.{NestedPair}
use Rattle.cg_value.specs.declared.value.ParamLine.{ParamLine}
use Rattle.cg_value.specs.declared.value.ParamPair.{ParamPair}
use Rattle.cg_value.specs.declared.value.Role.{Role}
use Rattle.cg_value.specs.declared.value.Role.TheVariants.{Member, Root, Isolated}
use Rattle.cg_value.specs.declared.value.StatLine.{StatLine}
use Rattle.cg_value.specs.declared.value.StatPair.{StatPair}
use Rattle.cg_value.specs.declared.value.TargetLine.{TargetLine}
use Rattle.cg_value.specs.declared.value.Value.{Value}
use Rattle.cg_value.specs.declared.value.WeightLine.{WeightLine}

-- A text of printable bytes and spaces, by a test that computes.
printable : (xs : List ℕ) → list_all (λ b. nat_lt 31 b && nat_lt b 127) xs ≡ true → IsRawLine xs
printable [] e = tt
printable (x ∷ xs) e =
    let both = and_parts _ _ e in
    let of_byte = and_parts _ _ both.0 in
    let low = ltb-true 31 x of_byte.0 in
    let high = ltb-true x 127 of_byte.1 in
    (omega arith, omega arith, (λ f. omega (arith, low, f)), printable xs both.1)

along : (xs ys : List ℕ) → ys ≡ xs → IsRawLine xs → IsRawLine ys
along xs ys e h = rw e h

-- Tokens.
above_raw : (xs : List ℕ) → AreAboveSpace xs → AreBytes xs → IsRawLine xs
above_raw [] h k = tt
above_raw (x ∷ xs) h k = let low = h.0 in (omega arith, k.0, (λ e. omega (arith, low, e)), above_raw xs h.1 k.1)

numeral_raw : (n : ℕ) (text : List ℕ) → IsNumeral n text → IsRawLine text
numeral_raw n text h = above_raw text (numeral_above n text h) (numeral_bytes n text h)

pub decimal_raw : (lo hi n : ℕ) (text : List ℕ) → IsDecimal lo hi n text → IsRawLine text
decimal_raw lo hi n text h = numeral_raw n text h.2

pub signed_raw : (z : ℤ) (text : List ℕ) → IsSignedNumeral z text → IsRawLine text
signed_raw (pos n) text h = numeral_raw n text h
signed_raw (negsuc n) text h = along (45 ∷ h.0) text h.1 (omega arith, omega arith, (λ e. omega (arith, e)), numeral_raw (suc n) h.0 h.2)

max_raw : (text : List ℕ) → text ≡ codes "max" → IsRawLine text
max_raw text e = along (codes "max") text e (printable (codes "max") refl)

pub limit_raw : (lo hi : ℕ) (l : Limit) (text : List ℕ) → IsLimit lo hi l text → IsRawLine text
limit_raw lo hi limit.Max text h = max_raw text h
limit_raw lo hi (limit.At n) text h = decimal_raw lo hi n text h

pub hundredths_raw : (most : ℕ) (v : Hundredths) (text : List ℕ) → IsHundredths Read most v text → IsRawLine text
hundredths_raw most v text h =
    let two = h.1 in
    let tenth = two.tenth_is in
    let hundredth = two.hundredth_is in
    let back : IsRawLine (46 ∷ two.tenth ∷ two.hundredth ∷ []) =
    (omega arith, omega arith, (λ e. omega (arith, e)), (omega (arith, tenth), omega (arith, tenth), (λ e. omega (arith, tenth, e)), (omega (arith, hundredth), omega (arith, hundredth), (λ e. omega (arith, hundredth, e)), tt))) in
    along (two.digits ++ 46 ∷ two.tenth ∷ two.hundredth ∷ []) text two.text_is (raw_append two.digits (46 ∷ two.tenth ∷ two.hundredth ∷ []) (numeral_raw two.whole two.digits two.whole_is) back)

pub clamp_raw : (c : Clamp) (text : List ℕ) → IsClamp Read c text → IsRawLine text
clamp_raw clamp.Max text h = max_raw text h
clamp_raw (clamp.At v) text h = hundredths_raw 10000 v text h

below_raw : (n : ℕ) (text : List ℕ) → IsBelow n text → IsRawLine text
below_raw n text h = along (45 ∷ h.digits) text h.text_is (omega arith, omega arith, (λ e. omega (arith, e)), decimal_raw 1 2147483648 n h.digits h.digits_are)

pub amount_raw : (signed : Bool) (a : Amount) (text : List ℕ) → IsAmount signed a text → IsRawLine text
amount_raw signed amount.Max text h = max_raw text h
amount_raw signed (amount.Whole n) text h = decimal_raw 0 any_u64 n text h
amount_raw signed (amount.Decimal v) text h = hundredths_raw 99999999999 v text h
amount_raw signed (amount.Below n) text h = below_raw n text h.1

pub device_raw : (d : Device) (text : List ℕ) → IsDevice d text → IsRawLine text
device_raw d text h =
    along (h.major ++ 58 ∷ h.minor) text h.text_is (raw_append h.major (58 ∷ h.minor) (decimal_raw 0 4095 d.major h.major h.major_is)
    (omega arith, omega arith, (λ e. omega (arith, e)), decimal_raw 0 1048575 d.minor h.minor h.minor_is))

device_name_raw : (kernel : Bool) (d : Option Device) (text : List ℕ) → IsDeviceName kernel d text → IsRawLine text
device_name_raw kernel (Some d) text h = device_raw d text h
device_name_raw kernel None text h = rw h.1 (printable (codes "(unknown)") refl)

word_bytes_raw : (xs : List ℕ) → AreWordBytes xs → IsRawLine xs
word_bytes_raw [] h = tt
word_bytes_raw (x ∷ xs) h = let byte = h.0 in (omega (arith, byte.0), omega (arith, byte.1), (λ e. omega (arith, byte.0, e)), word_bytes_raw xs h.1)

pub word_raw : (xs : List ℕ) → IsWord xs → IsRawLine xs
word_raw xs h = word_bytes_raw xs h.1

pub key_raw : (key text : List ℕ) → IsKey key text → IsRawLine text
key_raw key text h = along key text h.0 (word_raw key h.1)

range_raw : (most : ℕ) (r : ℕ × ℕ) (text : List ℕ) → IsRangeText most r text → IsRawLine text
range_raw most r text (inl h) = decimal_raw 0 most (r.0) text h.1
range_raw most r text (inr h) =
    along (h.1 ++ 45 ∷ h.2) text h.3 (raw_append h.1 (45 ∷ h.2) (decimal_raw 0 most (r.0) h.1 h.4) (omega arith, omega arith, (λ e. omega (arith, e)), decimal_raw 0 most (r.1) h.2 h.5))

pub ranges_raw : (most : ℕ) (set : List (ℕ × ℕ)) (text : List ℕ) → AreRangeTexts most set text → IsRawLine text
ranges_raw most [] text h = along [] text h tt
ranges_raw most (r ∷ []) text h = range_raw most r text h
ranges_raw most (r ∷ q ∷ rs) text h =
    along (h.0 ++ 44 ∷ h.1) text h.2 (raw_append h.0 (44 ∷ h.1) (range_raw most r h.0 h.3) (omega arith, omega arith, (λ e. omega (arith, e)), ranges_raw most (q ∷ rs) h.1 h.4))

-- Parts.
parts_raw : {V W : Type 0} (P : V → List ℕ → Type 0) (mark : List ℕ) (Q : W → List ℕ → Type 0) (v : V) (w : W) (text : List ℕ) →
    ((t : List ℕ) → P v t → IsRawLine t) → IsRawLine mark → ((t : List ℕ) → Q w t → IsRawLine t) → HasParts P mark Q v w text → IsRawLine text
parts_raw P mark Q v w text first between last h =
    along (h.front ++ mark ++ h.back) text h.text_is (raw_append (h.front ++ mark) h.back (raw_append h.front mark (first h.front h.front_is) between) (last h.back h.back_is))

led_raw : {X : Type 0} (P : X → List ℕ → Type 0) → ((x : X) (text : List ℕ) → P x text → IsRawLine text) → (xs : List X) (text : List ℕ) → AreLed P xs text → IsRawLine text
led_raw P raw [] text h = along [] text h tt
led_raw P raw (x ∷ xs) text h =
    along (32 ∷ (h.0 ++ h.1)) text h.2 (omega arith, omega arith, (λ e. omega (arith, e)), raw_append h.0 h.1 (raw x h.0 h.3) (led_raw P raw xs h.1 h.4))

any_decimal : (n : ℕ) (text : List ℕ) → IsDecimal 0 any_u64 n text → IsRawLine text
any_decimal n text h = decimal_raw 0 any_u64 n text h

any_limit : (l : Limit) (text : List ℕ) → IsLimit 0 any_u64 l text → IsRawLine text
any_limit l text h = limit_raw 0 any_u64 l text h

-- Lines.
mode_raw : (m : GroupMode) → IsRawLine (mode_text m)
mode_raw Domain = printable (mode_text Domain) refl
mode_raw DomainThreaded = printable (mode_text DomainThreaded) refl
mode_raw DomainInvalid = printable (mode_text DomainInvalid) refl
mode_raw Threaded = printable (mode_text Threaded) refl

pub class_raw : (c : IoClass) → IsRawLine (class_text c)
class_raw NoChange = printable (class_text NoChange) refl
class_raw PromoteToRt = printable (class_text PromoteToRt) refl
class_raw RestrictToBe = printable (class_text RestrictToBe) refl
class_raw Idle = printable (class_text Idle) refl
class_raw NoneToRt = printable (class_text NoneToRt) refl

cpu_max_raw : (x : Limit × ℕ) (line : List ℕ) → IsCpuMax x line → IsRawLine line
cpu_max_raw x line h = parts_raw (IsLimit 0 any_u64) (codes " ") (IsDecimal 0 any_u64) (x.0) (x.1) line (any_limit (x.0)) (printable (codes " ") refl) (any_decimal (x.1)) h

flat_raw : (p : FlatPair) (line : List ℕ) → IsFlatLine p line → IsRawLine line
flat_raw p line h = parts_raw IsKey (codes " ") (IsDecimal 0 any_u64) p.key p.number line (key_raw p.key) (printable (codes " ") refl) (any_decimal p.number) h

flat_limit_raw : (p : FlatLimit) (line : List ℕ) → IsFlatLimit p line → IsRawLine line
flat_limit_raw p line h = parts_raw IsKey (codes " ") (IsLimit 0 any_u64) p.key p.limit line (key_raw p.key) (printable (codes " ") refl) (any_limit p.limit) h

stat_pair_raw : (kernel : Bool) (p : StatPair) (text : List ℕ) → IsStatPair kernel p text → IsRawLine text
stat_pair_raw kernel p text h = parts_raw IsKey (codes "=") (IsAmount kernel) p.key p.amount text (key_raw p.key) (printable (codes "=") refl) (amount_raw kernel p.amount) h

pad_raw : (pad : Bool) → IsRawLine (pad_text pad)
pad_raw true = printable (codes " ") refl
pad_raw false = tt

stat_raw : (kernel : Bool) (s : StatLine) (line : List ℕ) → IsStatLine kernel s line → IsRawLine line
stat_raw kernel s line h =
    along (h.device ++ pad_text s.pad ++ h.pairs) line h.line_is
    (raw_append (h.device ++ pad_text s.pad) h.pairs
    (raw_append h.device (pad_text s.pad) (device_name_raw kernel s.device h.device h.device_is) (pad_raw s.pad))
    (led_raw (IsStatPair kernel) (stat_pair_raw kernel) s.pairs h.pairs h.pairs_are))

-- What comes before, a text, and what comes after.
then_raw : (front mark back : List ℕ) → list_all (λ b. nat_lt 31 b && nat_lt b 127) mark ≡ true → IsRawLine front → IsRawLine back → IsRawLine (front ++ mark ++ back)
then_raw front mark back e h k = raw_append (front ++ mark) back (raw_append front mark h (printable mark e)) k

limits_raw : (kernel : Bool) (l : LimitLine) (line : List ℕ) → IsLimitLine kernel l line → IsRawLine line
limits_raw kernel l line h =
    let one = then_raw h.device (codes " rbps=") h.rbps refl (device_name_raw kernel l.device h.device h.device_is) (any_limit l.rbps h.rbps h.rbps_is) in
    let two = then_raw (h.device ++ codes " rbps=" ++ h.rbps) (codes " wbps=") h.wbps refl one (any_limit l.wbps h.wbps h.wbps_is) in
    let three = then_raw (h.device ++ codes " rbps=" ++ h.rbps ++ codes " wbps=" ++ h.wbps) (codes " riops=") h.riops refl two (any_limit l.riops h.riops h.riops_is) in
    let four = then_raw (h.device ++ codes " rbps=" ++ h.rbps ++ codes " wbps=" ++ h.wbps ++ codes " riops=" ++ h.riops) (codes " wiops=") h.wiops refl three (any_limit l.wiops h.wiops h.wiops_is) in
    rw h.line_is four

default_raw : (most weight : ℕ) (line : List ℕ) → IsDefaultLine most weight line → IsRawLine line
default_raw most weight line h = along (codes "default " ++ h.0) line h.1 (raw_append (codes "default ") h.0 (printable (codes "default ") refl) (decimal_raw 1 most weight h.0 h.2))

weight_raw : (most : ℕ) (kernel : Bool) (w : WeightLine) (line : List ℕ) → IsWeightLine most kernel w line → IsRawLine line
weight_raw most kernel w line h = parts_raw (IsDeviceName kernel) (codes " ") (IsDecimal 1 most) w.device w.weight line (device_name_raw kernel w.device) (printable (codes " ") refl) (decimal_raw 1 most w.weight) h

target_raw : (kernel : Bool) (t : TargetLine) (line : List ℕ) → IsTargetLine kernel t line → IsRawLine line
target_raw kernel t line h = parts_raw (IsDeviceName kernel) (codes " target=") (IsDecimal 0 any_u64) t.device t.target line (device_name_raw kernel t.device) (printable (codes " target=") refl) (any_decimal t.target) h

role_raw : (role : Role) → IsRawLine (role_text role)
role_raw Member = printable (role_text Member) refl
role_raw Root = printable (role_text Root) refl
role_raw Isolated = printable (role_text Isolated) refl

name_raw : (text : List ℕ) → IsNameValue text → IsRawLine text
name_raw [] h = absurd h
name_raw (c ∷ cs) h = word_raw (c ∷ cs) h.1

param_raw : (v : ParamValue) (text : List ℕ) → IsParam v text → IsRawLine text
param_raw (param.Whole n) text h = any_decimal n text h
param_raw (param.Decimal v) text h = hundredths_raw 99999999999 v text h
param_raw (param.Name name) text h = name_raw text h.1

param_pair_raw : (p : ParamPair) (text : List ℕ) → IsParamPair p text → IsRawLine text
param_pair_raw p text h = parts_raw IsKey (codes "=") IsParam p.key p.value text (key_raw p.key) (printable (codes "=") refl) (param_raw p.value) h

params_raw : (l : ParamLine) (line : List ℕ) → IsParamLine l line → IsRawLine line
params_raw l line h =
    along (h.device ++ h.params) line h.line_is
    (raw_append h.device h.params (device_name_raw true l.device h.device h.device_is) (led_raw IsParamPair param_pair_raw l.params h.params h.params_are))

partition_raw : (role : Role) (valid : Bool) (reason : Option (List ℕ)) (line : List ℕ) → IsPartition role valid reason line → IsRawLine line
partition_raw role true None line h = along (role_text role) line h (role_raw role)
partition_raw role true (Some reason) line h = absurd h
partition_raw role false None line h = along (role_text role ++ codes " invalid") line h.1 (raw_append (role_text role) (codes " invalid") (role_raw role) (printable (codes " invalid") refl))
partition_raw role false (Some reason) line h =
    along (role_text role ++ codes " invalid (" ++ reason ++ codes ")") line h.1
    (raw_append (role_text role ++ codes " invalid (" ++ reason) (codes ")") (then_raw (role_text role) (codes " invalid (") reason refl (role_raw role) h.2) (printable (codes ")") refl))

averages_raw : (a : Averages) (text : List ℕ) → AreAverages a text → IsRawLine text
averages_raw a text h =
    let one = raw_append (codes " avg10=") h.avg10 (printable (codes " avg10=") refl) (hundredths_raw 99999 a.avg10 h.avg10 h.avg10_is) in
    let two = then_raw (codes " avg10=" ++ h.avg10) (codes " avg60=") h.avg60 refl one (hundredths_raw 99999 a.avg60 h.avg60 h.avg60_is) in
    let three = then_raw (codes " avg10=" ++ h.avg10 ++ codes " avg60=" ++ h.avg60) (codes " avg300=") h.avg300 refl two (hundredths_raw 99999 a.avg300 h.avg300 h.avg300_is) in
    let four = then_raw (codes " avg10=" ++ h.avg10 ++ codes " avg60=" ++ h.avg60 ++ codes " avg300=" ++ h.avg300) (codes " total=") h.total refl three (any_decimal a.total h.total h.total_is) in
    rw h.text_is four

pressure_raw : (word : List ℕ) (a : Averages) (line : List ℕ) → IsRawLine word → IsPressureLine word a line → IsRawLine line
pressure_raw word a line k h = along (word ++ h.0) line h.1 (raw_append word h.0 k (averages_raw a h.0 h.2))

nested_pair_raw : (p : NestedPair) (text : List ℕ) → IsNestedPair p text → IsRawLine text
nested_pair_raw p text h = parts_raw IsKey (codes "=") (IsDecimal 0 any_u64) p.key p.number text (key_raw p.key) (printable (codes "=") refl) (any_decimal p.number) h

nested_raw : (l : NestedLine) (line : List ℕ) → IsNestedLine l line → IsRawLine line
nested_raw l line h = along (l.key ++ h.pairs) line h.line_is (raw_append l.key h.pairs (word_raw l.key h.key_is) (led_raw IsNestedPair nested_pair_raw l.pairs h.pairs h.pairs_are))

node_stats_raw : (x : ℕ × List NestedPair) (line : List ℕ) → IsNodeStats x line → IsRawLine line
node_stats_raw x line h =
    along (codes "total=" ++ h.total ++ h.nodes) line h.line_is
    (raw_append (codes "total=" ++ h.total) h.nodes
    (raw_append (codes "total=") h.total (printable (codes "total=") refl) (any_decimal (x.0) h.total h.total_is))
    (led_raw IsNestedPair nested_pair_raw (x.1) h.nodes h.nodes_are))

controller_raw : (w : List ℕ) → IsControllerWord w → IsRawLine w
controller_raw [] h = absurd h
controller_raw (c ∷ cs) h = word_raw (c ∷ cs) h.1

words_raw : (ws : List (List ℕ)) → AllByRecursion IsControllerWord ws → IsRawLine (words_line ws)
words_raw [] h = tt
words_raw (w ∷ []) h = controller_raw w h.0
words_raw (w ∷ x ∷ ws) h = raw_append w (32 ∷ words_line (x ∷ ws)) (controller_raw w h.0) (omega arith, omega arith, (λ e. omega (arith, e)), words_raw (x ∷ ws) h.1)

-- Files.
one_raw : (line : List ℕ) (lines : List (List ℕ)) → lines ≡ line ∷ [] → IsRawLine line → AllByRecursion IsRawLine lines
one_raw line lines e h = rw e (h, tt)

each_raw : {X : Type 0} (P : X → List ℕ → Type 0) → ((x : X) (line : List ℕ) → P x line → IsRawLine line) → (xs : List X) (lines : List (List ℕ)) → AllZip P xs lines → AllByRecursion IsRawLine lines
each_raw P raw [] [] h = tt
each_raw P raw [] (line ∷ lines) h = absurd h
each_raw P raw (x ∷ xs) [] h = absurd h
each_raw P raw (x ∷ xs) (line ∷ lines) h = (raw x line h.0, each_raw P raw xs lines h.1)

words_lines_raw : (ws lines : List (List ℕ)) → AreWords ws lines → AllByRecursion IsRawLine lines
words_lines_raw ws lines h = of_lines h.lines_are
  where
    of_lines : (lines ≡ words_line ws ∷ []) ⊎ ((ws ≡ []) × (lines ≡ [])) → AllByRecursion IsRawLine lines
    of_lines (inl e) = one_raw (words_line ws) lines e (words_raw ws (recursion_from_All IsControllerWord ws h.each))
    of_lines (inr e) = rw e.1 tt

weights_raw : (most : ℕ) (kernel : Bool) (v : Value) (lines : List (List ℕ)) → AreWeightLines most kernel v lines → AllByRecursion IsRawLine lines
weights_raw most kernel v lines h = rw h.lines_are (default_raw most h.default h.first h.first_is, each_raw (IsWeightLine most kernel) (weight_raw most kernel) h.devices h.others h.others_are)

pressures_raw : (some full : Option Averages) (lines : List (List ℕ)) → ArePressureLines some full lines → AllByRecursion IsRawLine lines
pressures_raw None None lines h = absurd h
pressures_raw (Some a) None lines h = one_raw h.0 lines h.1 (pressure_raw (codes "some") a h.0 (printable (codes "some") refl) h.2)
pressures_raw None (Some b) lines h = one_raw h.0 lines h.1 (pressure_raw (codes "full") b h.0 (printable (codes "full") refl) h.2)
pressures_raw (Some a) (Some b) lines h =
    rw h.2 (pressure_raw (codes "some") a h.0 (printable (codes "some") refl) h.3, (pressure_raw (codes "full") b h.1 (printable (codes "full") refl) h.4, tt))

pub raw_lines : (kind : ReadForm) (v : Value) (lines : List (List ℕ)) → ReadLines kind v lines → AllByRecursion IsRawLine lines
raw_lines (form.Number lo hi) v lines h = one_raw h.line lines h.lines_are (decimal_raw lo hi h.x h.line h.spelled)
raw_lines (form.Signed lo hi) v lines h = one_raw h.line lines h.lines_are (signed_raw h.x h.line h.spelled.2)
raw_lines form.Limit v lines h = one_raw h.line lines h.lines_are (any_limit h.x h.line h.spelled)
raw_lines form.Mode v lines h = one_raw h.line lines h.lines_are (along (mode_text h.x) h.line h.spelled (mode_raw h.x))
raw_lines form.Class v lines h = one_raw h.line lines h.lines_are (along (class_text h.x) h.line h.spelled (class_raw h.x))
raw_lines form.CpuMax v lines h = one_raw h.line lines h.lines_are (cpu_max_raw h.x h.line h.spelled)
raw_lines form.Clamp v lines h = one_raw h.line lines h.lines_are (clamp_raw h.x h.line h.spelled)
raw_lines (form.Numbers lo hi) v lines h = each_raw (IsDecimal lo hi) (decimal_raw lo hi) h.xs lines h.spelled
raw_lines form.Words v lines h = words_lines_raw h.x lines h.spelled
raw_lines form.Flat v lines h = each_raw IsFlatLine flat_raw h.x lines h.spelled.each
raw_lines form.FlatLimits v lines h = each_raw IsFlatLimit flat_limit_raw h.x lines h.spelled.each
raw_lines (form.DeviceStats kernel) v lines h = each_raw (IsStatLine kernel) (stat_raw kernel) h.xs lines h.spelled
raw_lines (form.DeviceLimits kernel) v lines h = each_raw (IsLimitLine kernel) (limits_raw kernel) h.xs lines h.spelled
raw_lines (form.DeviceWeights most kernel) v lines h = weights_raw most kernel v lines h
raw_lines (form.DeviceTargets kernel) v lines h = each_raw (IsTargetLine kernel) (target_raw kernel) h.xs lines h.spelled
raw_lines form.DeviceParams v lines h = each_raw IsParamLine params_raw h.xs lines h.spelled
raw_lines (form.Set most) v lines h = one_raw h.line lines h.lines_are (ranges_raw most h.x h.line h.spelled.1)
raw_lines form.Partition v lines h = one_raw h.line lines h.lines_are (partition_raw (h.x.0) (h.x.1) (h.x.2) h.line h.spelled)
raw_lines form.Pressure v lines h = pressures_raw (h.x.0) (h.x.1) lines h.spelled
raw_lines form.Nested v lines h = each_raw IsNestedLine nested_raw h.x lines h.spelled.each
raw_lines form.NodeStats v lines h = one_raw h.line lines h.lines_are (node_stats_raw h.x h.line h.spelled)
raw_lines form.Raw v lines h = each_raw IsRaw (λ x line k. along x line k.0 k.1) h.xs lines h.spelled

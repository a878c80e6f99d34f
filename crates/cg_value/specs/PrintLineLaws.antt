-- A line that spells a value is what is printed of it: the tokens and the lines of the files that are read.
use Rattle.std.proofs.Common.{◌≡◌, ℕ, suc, ◌+◌, ◌/◌, ◌%◌, ◌≤◌, inl, inr, Bool, true, false, ℤ, pos, negsuc, ◌≤ℤ◌, List, [], ◌∷◌, ◌++◌, Option, Some, None, codes, sym, ◌∙◌, ap, arith, append_assoc, append-nil}
use Rattle.std.proofs.lemmas.Bool.{eq-eqb, ne_eqb}
use Rattle.std.proofs.lemmas.Int.{ints}
use Rattle.std.specs.Fmt.{decimal, signed_decimal}
use Rattle.cg_text.specs.Amount.{IsAmount}
use Rattle.cg_text.specs.Clamp.{IsClamp}
use Rattle.cg_text.specs.Decimal.{IsDecimal}
use Rattle.cg_text.specs.Device.{IsDevice, IsDeviceName}
use Rattle.cg_text.specs.Hundredths.{IsHundredths}
use Rattle.cg_text.specs.Limit.{IsLimit}
use Rattle.cg_text.specs.List.{IsRangeText, AreRangeTexts}
use Rattle.cg_text.specs.NumeralLaws.{numeral_is_decimal}
use Rattle.cg_text.specs.Param.{IsParam}
use Rattle.cg_text.specs.Signed.{IsSignedNumeral}
use Rattle.cg_text.specs.declared.hundredths.Spelling.TheVariants.{Read}
use Rattle.cg_text.specs.declared.values.Amount.{Amount}
use Rattle.cg_text.specs.declared.values.Amount.TheVariants as amount
use Rattle.cg_text.specs.declared.values.Clamp.{Clamp}
use Rattle.cg_text.specs.declared.values.Clamp.TheVariants as clamp
use Rattle.cg_text.specs.declared.values.Device.{Device}
use Rattle.cg_text.specs.declared.values.Hundredths.{Hundredths}
use Rattle.cg_text.specs.declared.values.Limit.{Limit}
use Rattle.cg_text.specs.declared.values.Limit.TheVariants as limit
use Rattle.cg_text.specs.declared.values.ParamValue.{ParamValue}
use Rattle.cg_text.specs.declared.values.ParamValue.TheVariants as param
use Rattle.cg_value.specs.Kind.{any_u64}
use Rattle.cg_value.specs.Lines.{HasParts, IsKey, AreLed}
use Rattle.cg_value.specs.Print.{print_limit, print_hundredths, print_clamp, print_amount, print_device, print_device_name, print_range, print_set, print_led, print_flat_line, print_stat_pair, print_stat_line}
use Rattle.cg_value.specs.Print.{print_limit_line, print_default_line, print_weight_line, print_target_line, print_partition, print_averages, print_nested_pair, print_nested_line, print_node_stats, print_param, print_param_pair, print_param_line, print_flat_limit}
use Rattle.cg_value.specs.ReadLine.{role_text, IsCpuMax, IsFlatLine, IsStatPair, IsStatLine, IsLimitLine, IsDefaultLine, IsWeightLine, IsTargetLine, IsPartition, AreAverages, IsPressureLine, IsNestedPair, IsNestedLine, IsNodeStats, IsFlatLimit, IsParamPair, IsParamLine}
use Rattle.cg_value.specs.declared.flat.FlatPair.{FlatPair}
use Rattle.cg_value.specs.declared.value.Averages.{Averages}
use Rattle.cg_value.specs.declared.value.FlatLimit.{FlatLimit}
use Rattle.cg_value.specs.declared.value.LimitLine.{LimitLine}
use Rattle.cg_value.specs.declared.value.NestedLine.{NestedLine}
use Rattle.cg_value.specs.declared.value.NestedPair.{NestedPair}
use Rattle.cg_value.specs.declared.value.ParamLine.{ParamLine}
use Rattle.cg_value.specs.declared.value.ParamPair.{ParamPair}
use Rattle.cg_value.specs.declared.value.Role.{Role}
use Rattle.cg_value.specs.declared.value.StatLine.{StatLine}
use Rattle.cg_value.specs.declared.value.StatPair.{StatPair}
use Rattle.cg_value.specs.declared.value.TargetLine.{TargetLine}
use Rattle.cg_value.specs.declared.value.WeightLine.{WeightLine}

-- Tokens.
pub decimal_text_is : (lo hi n : ℕ) (text : List ℕ) → hi ≤ any_u64 → IsDecimal lo hi n text → text ≡ decimal n
decimal_text_is lo hi n text b h = numeral_is_decimal n text (omega (arith, b, h.1)) h.2

pub limit_text_is : (hi : ℕ) (l : Limit) (text : List ℕ) → hi ≤ any_u64 → IsLimit 0 hi l text → text ≡ print_limit l
limit_text_is hi limit.Max text b h = h
limit_text_is hi (limit.At n) text b h = decimal_text_is 0 hi n text b h

pub hundredths_text_is : (most : ℕ) (h : Hundredths) (text : List ℕ) → most ≤ any_u64 → IsHundredths Read most h text → text ≡ print_hundredths h
hundredths_text_is most v text b h =
    let k = h.1 in
    let whole : k.whole ≡ v.count / 100 = omega (arith, k.count_is, k.tenth_is, k.hundredth_is) in
    let tenth : k.tenth ≡ 48 + v.count / 10 % 10 = omega (arith, k.count_is, k.tenth_is, k.hundredth_is) in
    let hundredth : k.hundredth ≡ 48 + v.count % 10 = omega (arith, k.count_is, k.tenth_is, k.hundredth_is) in
    let digits : k.digits ≡ decimal (v.count / 100) = numeral_is_decimal (v.count / 100) k.digits (omega (arith, b, h.0)) (rw whole at k.whole_is) in
    k.text_is ∙ rw (digits, tenth, hundredth)

pub clamp_text_is : (c : Clamp) (text : List ℕ) → IsClamp Read c text → text ≡ print_clamp c
clamp_text_is clamp.Max text h = h
clamp_text_is (clamp.At v) text h = hundredths_text_is 10000 v text (omega arith) h

pub amount_text_is : (signed : Bool) (a : Amount) (text : List ℕ) → IsAmount signed a text → text ≡ print_amount a
amount_text_is signed amount.Max text h = h
amount_text_is signed (amount.Whole n) text h = decimal_text_is 0 any_u64 n text (omega arith) h
amount_text_is signed (amount.Decimal v) text h = hundredths_text_is 99999999999 v text (omega arith) h
amount_text_is signed (amount.Below n) text h = h.1.text_is ∙ ap (λ t. 45 ∷ t) (decimal_text_is 1 2147483648 n h.1.digits (omega arith) h.1.digits_are)

pub device_text_is : (d : Device) (text : List ℕ) → IsDevice d text → text ≡ print_device d
device_text_is d text h =
    let major = decimal_text_is 0 4095 d.major h.major (omega arith) h.major_is in
    let minor = decimal_text_is 0 1048575 d.minor h.minor (omega arith) h.minor_is in
    h.text_is ∙ rw (major, minor)

device_name_is : (kernel : Bool) (d : Option Device) (text : List ℕ) → IsDeviceName kernel d text → text ≡ print_device_name d
device_name_is kernel (Some d) text h = device_text_is d text h
device_name_is kernel None text h = h.1

-- A signed number of 64 bits.
pub signed_text_is : (z : ℤ) (text : List ℕ) → negsuc 9223372036854775807 ≤ℤ z → z ≤ℤ pos 9223372036854775807 → IsSignedNumeral z text → text ≡ signed_decimal z
signed_text_is (pos n) text low high h = numeral_is_decimal n text (omega (arith, ints, high)) h
signed_text_is (negsuc n) text low high h = h.1 ∙ ap (λ t. 45 ∷ t) (numeral_is_decimal (suc n) h.0 (omega (arith, ints, low)) h.2)

-- Lists of ranges.
range_text_is : (most : ℕ) (r : ℕ × ℕ) (text : List ℕ) → most ≤ any_u64 → IsRangeText most r text → text ≡ print_range r
range_text_is most r text b (inl h) = rw (eq-eqb (r.0) (r.1) h.0) (decimal_text_is 0 most (r.0) text b h.1)
range_text_is most r text b (inr h) =
    let front = decimal_text_is 0 most (r.0) h.1 b h.4 in
    let back = decimal_text_is 0 most (r.1) h.2 b h.5 in
    rw (ne_eqb (r.0) (r.1) (λ e. omega (arith, h.0, e))) (h.3 ∙ rw (front, back))

pub set_text_is : (most : ℕ) (set : List (ℕ × ℕ)) (text : List ℕ) → most ≤ any_u64 → AreRangeTexts most set text → text ≡ print_set set
set_text_is most [] text b h = h
set_text_is most (r ∷ []) text b h = range_text_is most r text b h
set_text_is most (r ∷ q ∷ rs) text b h =
    let front = range_text_is most r h.0 b h.3 in
    let back = set_text_is most (q ∷ rs) h.1 b h.4 in
    h.2 ∙ rw (front, back)

-- Texts with a space before each.
pub led_texts_are : {X : Type 0} (P : X → List ℕ → Type 0) (f : X → List ℕ) → ((x : X) (text : List ℕ) → P x text → text ≡ f x) → (xs : List X) (text : List ℕ) → AreLed P xs text → text ≡ print_led f xs
led_texts_are P f is [] text h = h
led_texts_are P f is (x ∷ xs) text h =
    let front = is x h.0 h.3 in
    let back = led_texts_are P f is xs h.1 h.4 in
    h.2 ∙ rw (front, back)

-- A text of two parts with a byte between.
parts_are : {V W : Type 0} (P : V → List ℕ → Type 0) (mark : ℕ) (Q : W → List ℕ → Type 0) (v : V) (w : W) (text front back : List ℕ) →
    ((t : List ℕ) → P v t → t ≡ front) → ((t : List ℕ) → Q w t → t ≡ back) → HasParts P (mark ∷ []) Q v w text → text ≡ front ++ mark ∷ back
parts_are P mark Q v w text front back first last h =
    let begins = first h.front h.front_is in
    let ends = last h.back h.back_is in
    h.text_is ∙ append_assoc h.front (mark ∷ []) h.back ∙ rw (begins, ends)

any_decimal : (n : ℕ) (text : List ℕ) → IsDecimal 0 any_u64 n text → text ≡ decimal n
any_decimal n text h = decimal_text_is 0 any_u64 n text (omega arith) h

any_limit : (l : Limit) (text : List ℕ) → IsLimit 0 any_u64 l text → text ≡ print_limit l
any_limit l text h = limit_text_is any_u64 l text (omega arith) h

-- Lines.
pub cpu_max_line_is : (x : Limit × ℕ) (line : List ℕ) → IsCpuMax x line → line ≡ print_limit (x.0) ++ 32 ∷ decimal (x.1)
cpu_max_line_is x line h = parts_are (IsLimit 0 any_u64) 32 (IsDecimal 0 any_u64) (x.0) (x.1) line (print_limit (x.0)) (decimal (x.1)) (any_limit (x.0)) (any_decimal (x.1)) h

pub flat_line_is : (p : FlatPair) (line : List ℕ) → IsFlatLine p line → line ≡ print_flat_line p
flat_line_is p line h = parts_are IsKey 32 (IsDecimal 0 any_u64) p.key p.number line p.key (decimal p.number) (λ t k. k.0) (any_decimal p.number) h

pub flat_limit_is : (p : FlatLimit) (line : List ℕ) → IsFlatLimit p line → line ≡ print_flat_limit p
flat_limit_is p line h = parts_are IsKey 32 (IsLimit 0 any_u64) p.key p.limit line p.key (print_limit p.limit) (λ t k. k.0) (any_limit p.limit) h

pub stat_pair_is : (kernel : Bool) (p : StatPair) (text : List ℕ) → IsStatPair kernel p text → text ≡ print_stat_pair p
stat_pair_is kernel p text h = parts_are IsKey 61 (IsAmount kernel) p.key p.amount text p.key (print_amount p.amount) (λ t k. k.0) (amount_text_is kernel p.amount) h

pub stat_line_is : (kernel : Bool) (s : StatLine) (line : List ℕ) → IsStatLine kernel s line → line ≡ print_stat_line s
stat_line_is kernel s line h =
    let device = device_name_is kernel s.device h.device h.device_is in
    let pairs = led_texts_are (IsStatPair kernel) print_stat_pair (stat_pair_is kernel) s.pairs h.pairs h.pairs_are in
    h.line_is ∙ rw (device, pairs)

pub limit_line_is : (kernel : Bool) (l : LimitLine) (line : List ℕ) → IsLimitLine kernel l line → line ≡ print_limit_line l
limit_line_is kernel l line h =
    let device = device_name_is kernel l.device h.device h.device_is in
    let rbps = any_limit l.rbps h.rbps h.rbps_is in
    let wbps = any_limit l.wbps h.wbps h.wbps_is in
    let riops = any_limit l.riops h.riops h.riops_is in
    let wiops = any_limit l.wiops h.wiops h.wiops_is in
    h.line_is ∙ rw (device, rbps, wbps, riops, wiops)

pub default_line_is : (most weight : ℕ) (line : List ℕ) → most ≤ any_u64 → IsDefaultLine most weight line → line ≡ print_default_line weight
default_line_is most weight line b h = h.1 ∙ ap (λ t. codes "default " ++ t) (decimal_text_is 1 most weight h.0 b h.2)

pub weight_line_is : (most : ℕ) (kernel : Bool) (w : WeightLine) (line : List ℕ) → most ≤ any_u64 → IsWeightLine most kernel w line → line ≡ print_weight_line w
weight_line_is most kernel w line b h = parts_are (IsDeviceName kernel) 32 (IsDecimal 1 most) w.device w.weight line (print_device_name w.device) (decimal w.weight) (device_name_is kernel w.device) (λ t k. decimal_text_is 1 most w.weight t b k) h

pub target_line_is : (kernel : Bool) (t : TargetLine) (line : List ℕ) → IsTargetLine kernel t line → line ≡ print_target_line t
target_line_is kernel t line h =
    let device = device_name_is kernel t.device h.front h.front_is in
    let target = any_decimal t.target h.back h.back_is in
    h.text_is ∙ rw (device, target)

param_is : (v : ParamValue) (text : List ℕ) → IsParam v text → text ≡ print_param v
param_is (param.Whole n) text h = any_decimal n text h
param_is (param.Decimal v) text h = hundredths_text_is 99999999999 v text (omega arith) h
param_is (param.Name name) text h = sym h.0

param_pair_is : (p : ParamPair) (text : List ℕ) → IsParamPair p text → text ≡ print_param_pair p
param_pair_is p text h = parts_are IsKey 61 IsParam p.key p.value text p.key (print_param p.value) (λ t k. k.0) (param_is p.value) h

pub param_line_is : (l : ParamLine) (line : List ℕ) → IsParamLine l line → line ≡ print_param_line l
param_line_is l line h =
    let device = device_name_is true l.device h.device h.device_is in
    let params = led_texts_are IsParamPair print_param_pair param_pair_is l.params h.params h.params_are in
    h.line_is ∙ rw (device, params)

pub partition_line_is : (role : Role) (valid : Bool) (reason : Option (List ℕ)) (line : List ℕ) → IsPartition role valid reason line → line ≡ print_partition role valid reason
partition_line_is role true None line h = h
partition_line_is role true (Some reason) line h = absurd h
partition_line_is role false None line h = h.1 ∙ sym (append-nil (role_text role ++ codes " invalid"))
partition_line_is role false (Some reason) line h =
    let last : List ℕ = reason ++ codes ")" in
    h.1 ∙ append_assoc (role_text role ++ codes " invalid (") reason (codes ")") ∙ append_assoc (role_text role) (codes " invalid (") last ∙ sym (append_assoc (role_text role) (codes " invalid") (codes " (" ++ last))

pub averages_are : (a : Averages) (text : List ℕ) → AreAverages a text → text ≡ print_averages a
averages_are a text h =
    let avg10 = hundredths_text_is 99999 a.avg10 h.avg10 (omega arith) h.avg10_is in
    let avg60 = hundredths_text_is 99999 a.avg60 h.avg60 (omega arith) h.avg60_is in
    let avg300 = hundredths_text_is 99999 a.avg300 h.avg300 (omega arith) h.avg300_is in
    let total = any_decimal a.total h.total h.total_is in
    h.text_is ∙ rw (avg10, avg60, avg300, total)

pub pressure_line_is : (word : List ℕ) (a : Averages) (line : List ℕ) → IsPressureLine word a line → line ≡ word ++ print_averages a
pressure_line_is word a line h = h.1 ∙ ap (λ t. word ++ t) (averages_are a h.0 h.2)

pub nested_pair_is : (p : NestedPair) (text : List ℕ) → IsNestedPair p text → text ≡ print_nested_pair p
nested_pair_is p text h = parts_are IsKey 61 (IsDecimal 0 any_u64) p.key p.number text p.key (decimal p.number) (λ t k. k.0) (any_decimal p.number) h

pub nested_line_is : (l : NestedLine) (line : List ℕ) → IsNestedLine l line → line ≡ print_nested_line l
nested_line_is l line h = h.line_is ∙ ap (λ t. l.key ++ t) (led_texts_are IsNestedPair print_nested_pair nested_pair_is l.pairs h.pairs h.pairs_are)

pub node_stats_line_is : (x : ℕ × List NestedPair) (line : List ℕ) → IsNodeStats x line → line ≡ print_node_stats (x.0) (x.1)
node_stats_line_is x line h =
    let total = any_decimal (x.0) h.total h.total_is in
    let nodes = led_texts_are IsNestedPair print_nested_pair nested_pair_is (x.1) h.nodes h.nodes_are in
    h.line_is ∙ rw (total, nodes)

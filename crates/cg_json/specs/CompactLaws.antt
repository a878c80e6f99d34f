-- Compact texts, part by part.
use Rattle.std.proofs.Common.{◌≡◌, ℕ, ℤ, pos, negsuc, ◌<◌, ◌^◌, zero, suc, true, false, Bool, List, [], ◌∷◌, ◌++◌, map, Option, codes, decimal, ◌∙◌, length, take, get_or, ◌+◌, refl, ap, arith, append_assoc, lit≤, rules}
use Rattle.std.proofs.lemmas.List.{take_more}
use Rattle.std.proofs.lemmas.Str.{IsUtf8-from_ascii}
use Rattle.std.specs.Str.{IsAscii, IsUtf8}
use Rattle.std.specs.Fmt.{signed_decimal}
use Rattle.std.proofs.lemmas.Bool.{ne_eqb, le-ltb}
use Rattle.serde_json.proofs.OnLiterals.{serde_json_on_literals}
use Rattle.serde_json.specs.Data.{Data, boolean, object, string}
use Rattle.serde_json.specs.View.{items_of}
use Rattle.serde_json.specs.Written.{compact_text, items_text, members_text}
use Rattle.cg_text.specs.Decimal.{AreDigits}
use Rattle.cg_text.specs.NumeralLaws.{decimal_is}
use Rattle.cg_text.specs.RangesLaws.{decimal_digits}
use Rattle.cg_text.specs.declared.values.Amount.TheVariants as amount
use Rattle.cg_text.specs.declared.values.Device.{Device}
use Rattle.cg_text.specs.declared.values.Hundredths.{Hundredths}
use Rattle.cg_text.specs.declared.values.Limit.{Limit}
use Rattle.cg_value.specs.Entry.{EntryData}
use Rattle.cg_value.specs.ReadLine.{role_text}
use Rattle.cg_value.specs.declared.value.Averages.{Averages}
use Rattle.cg_value.specs.declared.value.LimitLine.{LimitLine}
use Rattle.cg_value.specs.declared.value.NestedPair.{NestedPair}
use Rattle.cg_value.specs.declared.value.ParamLine.{ParamLine}
use Rattle.cg_value.specs.declared.value.Role.{Role}
use Rattle.cg_value.specs.declared.value.StatLine.{StatLine}
use Rattle.cg_value.specs.declared.value.TargetLine.{TargetLine}
use Rattle.cg_value.specs.declared.value.WeightLine.{WeightLine}
use Rattle.cg_json.specs.Compact.{led, joined, member_text, listed, ArePlain, IsPlainByte}
use Rattle.cg_json.specs.Entry.{left_out_line, line_of}
use Rattle.cg_json.specs.Json.{array_of, keyed, given_data, number_data, signed_data, text_data, limit_data, amount_data, device_data, param_data}
use Rattle.cg_json.specs.Json.{cpu_max_data, stat_data, limits_data, weight_data, weights_data, target_data, partition_data, averages_data, pressure_data, node_stats_data, params_data}
use Rattle.cg_json.specs.Value.{kind_word, value_data}

-- ---- Parts one after another

pub three_parts : (o a s b t c u e : List ℕ) → ((((((o ++ a) ++ s) ++ b) ++ t) ++ c) ++ u) ++ e ≡ o ++ (a ++ (s ++ (b ++ (t ++ (c ++ (u ++ e))))))
three_parts o a s b t c u e = simp append_assoc

-- ---- Arrays and objects

items_later : {X : Type 0} (f : X → Data) (xs : List X) → items_text true (items_of (map f xs)) ≡ led (λ x. compact_text (f x)) xs ++ 93 ∷ []
items_later f [] = refl
items_later f (x ∷ xs) = rw (items_later f xs, append_assoc (compact_text (f x)) (led (λ y. compact_text (f y)) xs) (93 ∷ [])) refl

pub array_text : {X : Type 0} (f : X → Data) (xs : List X) → compact_text (array_of f xs) ≡ 91 ∷ (joined (λ x. compact_text (f x)) xs ++ 93 ∷ [])
array_text f [] = refl
array_text f (x ∷ xs) = rw (items_later f xs, append_assoc (compact_text (f x)) (led (λ y. compact_text (f y)) xs) (93 ∷ [])) refl

after_colon : (a c l t : List ℕ) → a ++ 58 ∷ (c ++ (l ++ t)) ≡ ((a ++ 58 ∷ c) ++ l) ++ t
after_colon a c l t = simp append_assoc

members_later : {X : Type 0} (key : X → List ℕ) (f : X → Data) (xs : List X) → members_text true (listed key f xs) ≡ led (member_text key f) xs ++ 125 ∷ []
members_later key f [] = refl
members_later key f (x ∷ xs) = rw (members_later key f xs) (ap (λ t. 44 ∷ t) (after_colon (compact_text (string (key x))) (compact_text (f x)) (led (member_text key f) xs) (125 ∷ [])))

pub object_text : {X : Type 0} (key : X → List ℕ) (f : X → Data) (xs : List X)
    → compact_text (object (listed key f xs)) ≡ 123 ∷ (joined (member_text key f) xs ++ 125 ∷ [])
object_text key f [] = refl
object_text key f (x ∷ xs) =
    rw (members_later key f xs) (ap (λ t. 123 ∷ t) (after_colon (compact_text (string (key x))) (compact_text (f x)) (led (member_text key f) xs) (125 ∷ [])))

-- ---- Strings

plain_first : (c : ℕ) (cs : List ℕ) → IsPlainByte c → compact_text (string cs) ≡ 34 ∷ (cs ++ 34 ∷ []) → compact_text (string (c ∷ cs)) ≡ 34 ∷ c ∷ (cs ++ 34 ∷ [])
unfolding serde_json_on_literals
plain_first c cs h p =
    rw (
      ne_eqb c 34 h.2,
      ne_eqb c 92 h.3,
      ne_eqb c 8 (λ e. omega (arith, h.0)),
      ne_eqb c 12 (λ e. omega (arith, h.0)),
      ne_eqb c 10 (λ e. omega (arith, h.0)),
      ne_eqb c 13 (λ e. omega (arith, h.0)),
      ne_eqb c 9 (λ e. omega (arith, h.0)),
      le-ltb c 32 h.0,
    ) (cc)

-- Plain bytes stand for themselves.
pub plain_text : (cs : List ℕ) → ArePlain cs → compact_text (string cs) ≡ 34 ∷ (cs ++ 34 ∷ [])
plain_text [] h = refl
plain_text (c ∷ cs) h = plain_first c cs h.0 (plain_text cs h.1)

plain_ascii : (cs : List ℕ) → ArePlain cs → IsAscii cs
plain_ascii [] h i = search rules
plain_ascii (c ∷ cs) h zero = omega (arith, h.0.1)
plain_ascii (c ∷ cs) h (suc i) = plain_ascii cs h.1 i

-- They are UTF-8.
pub plain_utf8 : (cs : List ℕ) → ArePlain cs → IsUtf8 cs
plain_utf8 cs h = IsUtf8-from_ascii cs (plain_ascii cs h)

-- ---- Objects with fixed keys

pub amount_text : (h : Hundredths) → compact_text (amount_data (amount.Decimal h)) ≡ codes "{\"hundredths\":" ++ (decimal h.count ++ 125 ∷ [])
unfolding serde_json_on_literals
amount_text h = refl

pub cpu_max_text : (quota : Limit) (period : ℕ)
    → compact_text (cpu_max_data quota period) ≡ codes "{\"period\":" ++ (decimal period ++ (codes ",\"quota\":" ++ (compact_text (limit_data quota) ++ 125 ∷ [])))
unfolding serde_json_on_literals
cpu_max_text quota period = refl

pub stat_text : (l : StatLine)
    → compact_text (stat_data l) ≡ codes "{\"device\":" ++ (compact_text (given_data device_data l.device) ++ (codes ",\"stats\":" ++ (compact_text (keyed (λ p. p.key) (λ p. amount_data p.amount) l.pairs) ++ 125 ∷ [])))
unfolding serde_json_on_literals
stat_text l = refl

pub limits_text : (l : LimitLine)
    → compact_text (limits_data l) ≡ codes "{\"device\":" ++ (compact_text (given_data device_data l.device) ++ (codes ",\"rbps\":" ++ (compact_text (limit_data l.rbps)
    ++ (codes ",\"riops\":" ++ (compact_text (limit_data l.riops) ++ (codes ",\"wbps\":" ++ (compact_text (limit_data l.wbps)
    ++ (codes ",\"wiops\":" ++ (compact_text (limit_data l.wiops) ++ 125 ∷ [])))))))))
unfolding serde_json_on_literals
limits_text l = refl

pub weight_text : (l : WeightLine) → compact_text (weight_data l) ≡ codes "{\"device\":" ++ (compact_text (given_data device_data l.device) ++ (codes ",\"weight\":" ++ (decimal l.weight ++ 125 ∷ [])))
unfolding serde_json_on_literals
weight_text l = refl

pub weights_text : (default : ℕ) (ls : List WeightLine)
    → compact_text (weights_data default ls) ≡ codes "{\"default\":" ++ (decimal default ++ (codes ",\"devices\":" ++ (compact_text (array_of weight_data ls) ++ 125 ∷ [])))
unfolding serde_json_on_literals
weights_text default ls = refl

pub target_text : (l : TargetLine) → compact_text (target_data l) ≡ codes "{\"device\":" ++ (compact_text (given_data device_data l.device) ++ (codes ",\"target\":" ++ (decimal l.target ++ 125 ∷ [])))
unfolding serde_json_on_literals
target_text l = refl

pub params_text : (l : ParamLine)
    → compact_text (params_data l) ≡ codes "{\"device\":" ++ (compact_text (given_data device_data l.device) ++ (codes ",\"params\":" ++ (compact_text (keyed (λ p. p.key) (λ p. param_data p.value) l.params) ++ 125 ∷ [])))
unfolding serde_json_on_literals
params_text l = refl

pub averages_text : (a : Averages)
    → compact_text (averages_data a) ≡ codes "{\"avg10\":" ++ (decimal a.avg10.count ++ (codes ",\"avg300\":" ++ (decimal a.avg300.count
    ++ (codes ",\"avg60\":" ++ (decimal a.avg60.count ++ (codes ",\"total\":" ++ (decimal a.total ++ 125 ∷ [])))))))
unfolding serde_json_on_literals
averages_text a = refl

pub pressure_text : (some full : Option Averages)
    → compact_text (pressure_data some full) ≡ codes "{\"full\":" ++ (compact_text (given_data averages_data full) ++ (codes ",\"some\":" ++ (compact_text (given_data averages_data some) ++ 125 ∷ [])))
unfolding serde_json_on_literals
pressure_text some full = refl

partition_text : (role : Role) (valid : Bool) (reason : Option (List ℕ))
    → compact_text (partition_data role valid reason) ≡ codes "{\"reason\":" ++ (compact_text (given_data text_data reason) ++ (codes ",\"role\":" ++ (compact_text (string (role_text role))
    ++ (codes ",\"valid\":" ++ (compact_text (boolean valid) ++ 125 ∷ [])))))
unfolding serde_json_on_literals
partition_text role valid reason = refl

pub valid_text : (role : Role) (valid : Bool) (reason : Option (List ℕ)) → valid ≡ true
    → compact_text (partition_data role valid reason) ≡ codes "{\"reason\":" ++ (compact_text (given_data text_data reason) ++ (codes ",\"role\":" ++ (compact_text (string (role_text role)) ++ codes ",\"valid\":true}")))
valid_text role valid reason e = rw e (partition_text role true reason)

pub invalid_text : (role : Role) (valid : Bool) (reason : Option (List ℕ)) → valid ≡ false
    → compact_text (partition_data role valid reason) ≡ codes "{\"reason\":" ++ (compact_text (given_data text_data reason) ++ (codes ",\"role\":" ++ (compact_text (string (role_text role)) ++ codes ",\"valid\":false}")))
invalid_text role valid reason e = rw e (partition_text role false reason)

pub node_stats_text : (total : ℕ) (nodes : List NestedPair)
    → compact_text (node_stats_data total nodes) ≡ codes "{\"nodes\":" ++ (compact_text (keyed (λ p. p.key) (λ p. number_data p.number) nodes) ++ (codes ",\"total\":" ++ (decimal total ++ 125 ∷ [])))
unfolding serde_json_on_literals
node_stats_text total nodes = refl

pub entry_text : (e : EntryData)
    → line_of e ≡ codes "{\"kind\":" ++ (compact_text (string (kind_word e.value)) ++ (codes ",\"path\":" ++ (compact_text (text_data e.path) ++ (codes ",\"value\":" ++ (compact_text (value_data e.value) ++ 125 ∷ 10 ∷ [])))))
unfolding serde_json_on_literals
entry_text e = simp append_assoc

pub left_out_text : (at : ℕ) (path : Option (List ℕ)) (why : List ℕ)
    → left_out_line at path why ≡ codes "{\"at\":" ++ (compact_text (number_data at) ++ (codes ",\"kind\":\"left_out\",\"path\":" ++ (compact_text (given_data text_data path)
    ++ (codes ",\"why\":" ++ (compact_text (string why) ++ 125 ∷ 10 ∷ [])))))
unfolding serde_json_on_literals
left_out_text at path why = simp append_assoc

-- ---- Tokens

pub signed_text : (z : ℤ) → compact_text (signed_data z) ≡ signed_decimal z
signed_text (pos n) = refl
signed_text (negsuc n) = refl

plain_digits : (cs : List ℕ) → AreDigits cs → ArePlain cs
plain_digits [] h = tt
plain_digits (c ∷ cs) h = ((omega (arith, h.0), omega (arith, h.1), (λ e. omega (arith, h.0, h.1)), (λ e. omega (arith, h.0, h.1))), plain_digits cs h.2)

plain_both : (cs ds : List ℕ) → ArePlain cs → ArePlain ds → ArePlain (cs ++ ds)
plain_both [] ds h k = k
plain_both (c ∷ cs) ds h k = (h.0, plain_both cs ds h.1 k)

-- One more byte.
pub plain_more : (cs : List ℕ) (k : ℕ) → k < length cs → ArePlain (take k cs) → IsPlainByte (get_or cs k 0) → ArePlain (take (k + 1) cs)
plain_more cs k h p b = rw (take_more cs k 0 h) (plain_both (take k cs) (get_or cs k 0 ∷ []) p (b, tt))

plain_decimal : (n : ℕ) → n < 2 ^ 64 → ArePlain (decimal n)
plain_decimal n small = plain_digits (decimal n) (decimal_digits 0 n n (decimal n) (decimal_is 0 n n (omega arith) (omega arith) small))

pub device_text : (d : Device) → d.major < 2 ^ 32 → d.minor < 2 ^ 32 → compact_text (device_data d) ≡ 34 ∷ (decimal d.major ++ 58 ∷ (decimal d.minor ++ 34 ∷ []))
device_text d h k =
    let colon : IsPlainByte 58 = (lit≤ tt, lit≤ tt, (λ e. omega arith), (λ e. omega arith)) in
    let plain = plain_both (decimal d.major) (58 ∷ decimal d.minor) (plain_decimal d.major (omega arith)) (colon, plain_decimal d.minor (omega arith)) in
    plain_text (decimal d.major ++ 58 ∷ decimal d.minor) plain ∙ ap (λ t. 34 ∷ t) (append_assoc (decimal d.major) (58 ∷ decimal d.minor) (34 ∷ []))

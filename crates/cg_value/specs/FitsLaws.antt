-- What holds of values that fit kinds, kind by kind.
use Rattle.std.proofs.Common.{◌≡◌, ℕ, ◌↔◌, ℤ, Bool, List, [], ◌∷◌, ◌++◌, Option, map, codes, refl}
use Rattle.std.specs.List.{AllZip}
use Rattle.cg_text.specs.Class.{class_text}
use Rattle.cg_text.specs.Clamp.{IsClamp}
use Rattle.cg_text.specs.Decimal.{IsDecimal}
use Rattle.cg_text.specs.Distinct.{AreDistinct}
use Rattle.cg_text.specs.Limit.{IsLimit}
use Rattle.cg_text.specs.List.{IsStrictList}
use Rattle.cg_text.specs.Signed.{IsSigned}
use Rattle.cg_text.specs.declared.hundredths.Spelling.TheVariants.{Read}
use Rattle.cg_text.specs.declared.values.Clamp.{Clamp}
use Rattle.cg_text.specs.declared.values.Limit.{Limit}
use Rattle.cg_value.specs.Files.{IsMadeOf, ReadLines, Fits}
use Rattle.cg_value.specs.Flat.{HasDistinctKeys}
use Rattle.cg_value.specs.Kind.{any_u64}
use Rattle.cg_value.specs.Lines.{IsOneLine, AreLinesOf}
use Rattle.cg_value.specs.ReadLine.{mode_text, IsCpuMax, AreWords, IsFlatLine, AreFlatLines, IsStatLine, IsLimitLine, IsDefaultLine, IsWeightLine, IsTargetLine, IsPartition, ArePressureLines, IsNestedLine, AreNestedLines, IsNodeStats, IsRaw, IsFlatLimit, AreFlatLimits, IsParamLine}
use Rattle.cg_value.specs.SpelledLaws.{HasText, HasLines, parts_text, flat_distinct}
use Rattle.cg_value.specs.declared.flat.FlatPair.{FlatPair}
use Rattle.cg_value.specs.declared.kind.ReadForm.{ReadForm}
use Rattle.cg_value.specs.declared.kind.ReadForm.TheVariants as form
use Rattle.cg_value.specs.declared.value.Averages.{Averages}
use Rattle.cg_value.specs.declared.value.FlatLimit.{FlatLimit}
use Rattle.cg_value.specs.declared.value.GroupMode.{GroupMode}
use Rattle.cg_text.specs.declared.values.IoClass.{IoClass}
use Rattle.cg_value.specs.declared.value.LimitLine.{LimitLine}
use Rattle.cg_value.specs.declared.value.NestedLine.{NestedLine}
use Rattle.cg_value.specs.declared.value.NestedPair.{NestedPair}
use Rattle.cg_value.specs.declared.value.ParamLine.{ParamLine}
use Rattle.cg_value.specs.declared.value.Role.{Role}
use Rattle.cg_value.specs.declared.value.StatLine.{StatLine}
use Rattle.cg_value.specs.declared.value.TargetLine.{TargetLine}
use Rattle.cg_value.specs.declared.value.Value.{Value}
use Rattle.cg_value.specs.declared.value.Value.TheVariants as value
use Rattle.cg_value.specs.declared.value.WeightLine.{WeightLine}

-- ---- Forms of files

-- One line.
module _ {X : Type 0} (P : X → List ℕ → Type 0) (make : X → Value) (one : (x y : X) → make x ≡ make y → x ≡ y) where
  one_on : (x : X) → HasText (P x) → HasLines (λ lines. IsOneLine P make (make x) lines)
  one_on x h = record { lines = h.text ∷ []; spelled = record { x = x; line = h.text; value = refl; lines_are = refl; spelled = h.spelled } }

  one_back : (x : X) (lines : List (List ℕ)) → IsOneLine P make (make x) lines → HasText (P x)
  one_back x lines h = let same : x ≡ h.x = one x h.x h.value in record { text = h.line; spelled = rw same h.spelled }

-- Lines of parts.
module _ {X : Type 0} (P : X → List ℕ → Type 0) (make : List X → Value) (one : (xs ys : List X) → make xs ≡ make ys → xs ≡ ys) where
  of_on : (xs : List X) → HasLines (AllZip P xs) → HasLines (λ lines. AreLinesOf P make (make xs) lines)
  of_on xs h = record { lines = h.lines; spelled = record { xs = xs; value = refl; spelled = h.spelled } }

  of_back : (xs : List X) (lines : List (List ℕ)) → AreLinesOf P make (make xs) lines → HasLines (AllZip P xs)
  of_back xs lines h = let same : xs ≡ h.xs = one xs h.xs h.value in record { lines = lines; spelled = rw same h.spelled }

-- Lines of a whole.
module _ {X : Type 0} (P : X → List (List ℕ) → Type 0) (make : X → Value) (one : (x y : X) → make x ≡ make y → x ≡ y) where
  made_on : (x : X) → HasLines (P x) → HasLines (λ lines. IsMadeOf P make (make x) lines)
  made_on x h = record { lines = h.lines; spelled = record { x = x; value = refl; spelled = h.spelled } }

  made_back : (x : X) (lines : List (List ℕ)) → IsMadeOf P make (make x) lines → HasLines (P x)
  made_back x lines h = let same : x ≡ h.x = one x h.x h.value in record { lines = lines; spelled = rw same h.spelled }

through : {A : Type 0} (kind : ReadForm) (v : Value) → (A → HasLines (ReadLines kind v)) → ((lines : List (List ℕ)) → ReadLines kind v lines → A) → A ↔ Fits kind v
through kind v f g = (λ h. (let l = f h in record { lines = l.lines; spelled = l.spelled }), λ h. g h.lines h.spelled)

-- ---- The kinds

-- A value of the kind's variant fits exactly where its parts have texts.
pub number_fits : (lo hi n : ℕ) → HasText (IsDecimal lo hi n) ↔ Fits (form.Number lo hi) (value.Number n)
number_fits lo hi n = through (form.Number lo hi) (value.Number n) (one_on (IsDecimal lo hi) value.Number (λ x y e. cc) n) (one_back (IsDecimal lo hi) value.Number (λ x y e. cc) n)

pub signed_fits : (lo hi z : ℤ) → HasText (IsSigned lo hi z) ↔ Fits (form.Signed lo hi) (value.Signed z)
signed_fits lo hi z = through (form.Signed lo hi) (value.Signed z) (one_on (IsSigned lo hi) value.Signed (λ x y e. cc) z) (one_back (IsSigned lo hi) value.Signed (λ x y e. cc) z)

pub limit_fits : (l : Limit) → HasText (IsLimit 0 any_u64 l) ↔ Fits form.Limit (value.Limit l)
limit_fits l = through form.Limit (value.Limit l) (one_on (IsLimit 0 any_u64) value.Limit (λ x y e. cc) l) (one_back (IsLimit 0 any_u64) value.Limit (λ x y e. cc) l)

pub mode_fits : (m : GroupMode) → Fits form.Mode (value.Mode m)
mode_fits m = record { lines = mode_text m ∷ []; spelled = record { x = m; line = mode_text m; value = refl; lines_are = refl; spelled = refl } }

pub class_fits : (c : IoClass) → Fits form.Class (value.Class c)
class_fits c = record { lines = class_text c ∷ []; spelled = record { x = c; line = class_text c; value = refl; lines_are = refl; spelled = refl } }

cpu_max_one : (x y : Limit × ℕ) → value.CpuMax (x.0) (x.1) ≡ value.CpuMax (y.0) (y.1) → x ≡ y
cpu_max_one (a, b) (c, d) e = cc

cpu_max_line : (quota : Limit) (period : ℕ) → HasText (IsCpuMax (quota, period)) ↔ Fits form.CpuMax (value.CpuMax quota period)
cpu_max_line quota period =
    let make = λ (x : Limit × ℕ). value.CpuMax (x.0) (x.1) in
    through form.CpuMax (value.CpuMax quota period) (one_on IsCpuMax make cpu_max_one (quota, period)) (one_back IsCpuMax make cpu_max_one (quota, period))

pub cpu_max_fits : (quota : Limit) (period : ℕ) → (HasText (IsLimit 0 any_u64 quota) × HasText (IsDecimal 0 any_u64 period)) ↔ Fits form.CpuMax (value.CpuMax quota period)
cpu_max_fits quota period =
    let parts = parts_text (IsLimit 0 any_u64) (codes " ") (IsDecimal 0 any_u64) quota period in
    let line = cpu_max_line quota period in
    (λ h. line.0 (parts.0 h), λ f. parts.1 (line.1 f))

pub clamp_fits : (c : Clamp) → HasText (IsClamp Read c) ↔ Fits form.Clamp (value.Clamp c)
clamp_fits c = through form.Clamp (value.Clamp c) (one_on (IsClamp Read) value.Clamp (λ x y e. cc) c) (one_back (IsClamp Read) value.Clamp (λ x y e. cc) c)

pub numbers_fit : (lo hi : ℕ) (ns : List ℕ) → HasLines (AllZip (IsDecimal lo hi) ns) ↔ Fits (form.Numbers lo hi) (value.Numbers ns)
numbers_fit lo hi ns = through (form.Numbers lo hi) (value.Numbers ns) (of_on (IsDecimal lo hi) value.Numbers (λ x y e. cc) ns) (of_back (IsDecimal lo hi) value.Numbers (λ x y e. cc) ns)

pub words_fit : (words : List (List ℕ)) → HasLines (AreWords words) ↔ Fits form.Words (value.Words words)
words_fit words = through form.Words (value.Words words) (made_on AreWords value.Words (λ x y e. cc) words) (made_back AreWords value.Words (λ x y e. cc) words)

flat_lines : (ps : List FlatPair) → HasDistinctKeys ps → HasLines (AllZip IsFlatLine ps) ↔ HasLines (AreFlatLines ps)
flat_lines ps d = (
  λ h. record { lines = h.lines; spelled = record { each = h.spelled; distinct = flat_distinct ps d } },
  λ h. record { lines = h.lines; spelled = h.spelled.each },
)

pub flat_fits : (ps : List FlatPair) → HasDistinctKeys ps → HasLines (AllZip IsFlatLine ps) ↔ Fits form.Flat (value.Flat ps)
flat_fits ps d = through form.Flat (value.Flat ps) (λ h. made_on AreFlatLines value.Flat (λ x y e. cc) ps ((flat_lines ps d).0 h)) (λ lines h. (flat_lines ps d).1 (made_back AreFlatLines value.Flat (λ x y e. cc) ps lines h))

flat_limit_lines : (ps : List FlatLimit) → (HasLines (AllZip IsFlatLimit ps) × AreDistinct (map (λ p. p.key) ps)) ↔ HasLines (AreFlatLimits ps)
flat_limit_lines ps = (
  λ h. record { lines = h.0.lines; spelled = record { each = h.0.spelled; distinct = h.1 } },
  λ h. (record { lines = h.lines; spelled = h.spelled.each }, h.spelled.distinct),
)

pub flat_limits_fit : (ps : List FlatLimit) → (HasLines (AllZip IsFlatLimit ps) × AreDistinct (map (λ p. p.key) ps)) ↔ Fits form.FlatLimits (value.FlatLimits ps)
flat_limits_fit ps = through form.FlatLimits (value.FlatLimits ps) (λ h. made_on AreFlatLimits value.FlatLimits (λ x y e. cc) ps ((flat_limit_lines ps).0 h)) (λ lines h. (flat_limit_lines ps).1 (made_back AreFlatLimits value.FlatLimits (λ x y e. cc) ps lines h))

pub stats_fit : (kernel : Bool) (ls : List StatLine) → HasLines (AllZip (IsStatLine kernel) ls) ↔ Fits (form.DeviceStats kernel) (value.DeviceStats ls)
stats_fit kernel ls = through (form.DeviceStats kernel) (value.DeviceStats ls) (of_on (IsStatLine kernel) value.DeviceStats (λ x y e. cc) ls) (of_back (IsStatLine kernel) value.DeviceStats (λ x y e. cc) ls)

pub limits_fit : (kernel : Bool) (ls : List LimitLine) → HasLines (AllZip (IsLimitLine kernel) ls) ↔ Fits (form.DeviceLimits kernel) (value.DeviceLimits ls)
limits_fit kernel ls = through (form.DeviceLimits kernel) (value.DeviceLimits ls) (of_on (IsLimitLine kernel) value.DeviceLimits (λ x y e. cc) ls) (of_back (IsLimitLine kernel) value.DeviceLimits (λ x y e. cc) ls)

default_line : (most weight : ℕ) → HasText (IsDecimal 1 most weight) ↔ HasText (IsDefaultLine most weight)
default_line most weight = (
  λ h. record { text = codes "default " ++ h.text; spelled = (h.text, refl, h.spelled) },
  λ h. record { text = h.spelled.0; spelled = h.spelled.2 },
)

weights_on : (most weight : ℕ) (kernel : Bool) (ls : List WeightLine) → HasText (IsDecimal 1 most weight) × HasLines (AllZip (IsWeightLine most kernel) ls) → HasLines (ReadLines (form.DeviceWeights most kernel) (value.DeviceWeights weight ls))
weights_on most weight kernel ls h =
    let first = (default_line most weight).0 h.0 in
    record { lines = first.text ∷ h.1.lines; spelled = record { default = weight; devices = ls; first = first.text; others = h.1.lines; value = refl; lines_are = refl; first_is = first.spelled; others_are = h.1.spelled } }

weights_back : (most weight : ℕ) (kernel : Bool) (ls : List WeightLine) (lines : List (List ℕ)) → ReadLines (form.DeviceWeights most kernel) (value.DeviceWeights weight ls) lines → HasText (IsDecimal 1 most weight) × HasLines (AllZip (IsWeightLine most kernel) ls)
weights_back most weight kernel ls lines h =
    let of_all : value.DeviceWeights weight ls ≡ value.DeviceWeights h.default h.devices = h.value in
    let one : weight ≡ h.default = cc in
    let same : ls ≡ h.devices = cc in
    (rw one ((default_line most h.default).1 (record { text = h.first; spelled = h.first_is })), record { lines = h.others; spelled = rw same h.others_are })

pub weights_fit : (most weight : ℕ) (kernel : Bool) (ls : List WeightLine) → (HasText (IsDecimal 1 most weight) × HasLines (AllZip (IsWeightLine most kernel) ls)) ↔ Fits (form.DeviceWeights most kernel) (value.DeviceWeights weight ls)
weights_fit most weight kernel ls = through (form.DeviceWeights most kernel) (value.DeviceWeights weight ls) (weights_on most weight kernel ls) (weights_back most weight kernel ls)

pub targets_fit : (kernel : Bool) (ls : List TargetLine) → HasLines (AllZip (IsTargetLine kernel) ls) ↔ Fits (form.DeviceTargets kernel) (value.DeviceTargets ls)
targets_fit kernel ls = through (form.DeviceTargets kernel) (value.DeviceTargets ls) (of_on (IsTargetLine kernel) value.DeviceTargets (λ x y e. cc) ls) (of_back (IsTargetLine kernel) value.DeviceTargets (λ x y e. cc) ls)

pub params_fit : (ls : List ParamLine) → HasLines (AllZip IsParamLine ls) ↔ Fits form.DeviceParams (value.DeviceParams ls)
params_fit ls = through form.DeviceParams (value.DeviceParams ls) (of_on IsParamLine value.DeviceParams (λ x y e. cc) ls) (of_back IsParamLine value.DeviceParams (λ x y e. cc) ls)

pub set_fits : (most : ℕ) (set : List (ℕ × ℕ)) → HasText (IsStrictList most set) ↔ Fits (form.Set most) (value.Set set)
set_fits most set = through (form.Set most) (value.Set set) (one_on (IsStrictList most) value.Set (λ x y e. cc) set) (one_back (IsStrictList most) value.Set (λ x y e. cc) set)

partition_one : (x y : Role × Bool × Option (List ℕ)) → value.Partition (x.0) (x.1) (x.2) ≡ value.Partition (y.0) (y.1) (y.2) → x ≡ y
partition_one (a, b, c) (d, e, f) h = cc

pub partition_fits : (role : Role) (valid : Bool) (reason : Option (List ℕ)) → HasText (IsPartition role valid reason) ↔ Fits form.Partition (value.Partition role valid reason)
partition_fits role valid reason =
    let P = λ (x : Role × Bool × Option (List ℕ)) (line : List ℕ). IsPartition (x.0) (x.1) (x.2) line in
    let make = λ (x : Role × Bool × Option (List ℕ)). value.Partition (x.0) (x.1) (x.2) in
    through form.Partition (value.Partition role valid reason) (one_on P make partition_one (role, valid, reason)) (one_back P make partition_one (role, valid, reason))

pressure_one : (x y : Option Averages × Option Averages) → value.Pressure (x.0) (x.1) ≡ value.Pressure (y.0) (y.1) → x ≡ y
pressure_one (a, b) (c, d) h = cc

pub pressure_fits : (some full : Option Averages) → HasLines (ArePressureLines some full) ↔ Fits form.Pressure (value.Pressure some full)
pressure_fits some full =
    let P = λ (x : Option Averages × Option Averages) (lines : List (List ℕ)). ArePressureLines (x.0) (x.1) lines in
    let make = λ (x : Option Averages × Option Averages). value.Pressure (x.0) (x.1) in
    through form.Pressure (value.Pressure some full) (made_on P make pressure_one (some, full)) (made_back P make pressure_one (some, full))

nested_lines : (ls : List NestedLine) → (HasLines (AllZip IsNestedLine ls) × AreDistinct (map (λ l. l.key) ls)) ↔ HasLines (AreNestedLines ls)
nested_lines ls = (
  λ h. record { lines = h.0.lines; spelled = record { each = h.0.spelled; distinct = h.1 } },
  λ h. (record { lines = h.lines; spelled = h.spelled.each }, h.spelled.distinct),
)

pub nested_fits : (ls : List NestedLine) → (HasLines (AllZip IsNestedLine ls) × AreDistinct (map (λ l. l.key) ls)) ↔ Fits form.Nested (value.Nested ls)
nested_fits ls = through form.Nested (value.Nested ls) (λ h. made_on AreNestedLines value.Nested (λ x y e. cc) ls ((nested_lines ls).0 h)) (λ lines h. (nested_lines ls).1 (made_back AreNestedLines value.Nested (λ x y e. cc) ls lines h))

node_stats_one : (x y : ℕ × List NestedPair) → value.NodeStats (x.0) (x.1) ≡ value.NodeStats (y.0) (y.1) → x ≡ y
node_stats_one (a, b) (c, d) e = cc

pub node_stats_fit : (total : ℕ) (nodes : List NestedPair) → HasText (IsNodeStats (total, nodes)) ↔ Fits form.NodeStats (value.NodeStats total nodes)
node_stats_fit total nodes =
    let make = λ (x : ℕ × List NestedPair). value.NodeStats (x.0) (x.1) in
    through form.NodeStats (value.NodeStats total nodes) (one_on IsNodeStats make node_stats_one (total, nodes)) (one_back IsNodeStats make node_stats_one (total, nodes))

pub raw_fits : (ls : List (List ℕ)) → HasLines (AllZip IsRaw ls) ↔ Fits form.Raw (value.Raw ls)
raw_fits ls = through form.Raw (value.Raw ls) (of_on IsRaw value.Raw (λ x y e. cc) ls) (of_back IsRaw value.Raw (λ x y e. cc) ls)

-- The lemmas on the kinds.
pub ruleset fits_laws =
    (number_fits, signed_fits, limit_fits, mode_fits, class_fits, cpu_max_fits, clamp_fits, numbers_fit, words_fit, flat_fits, flat_limits_fit, stats_fit, limits_fit, weights_fit, targets_fit, params_fit, set_fits, partition_fits, pressure_fits, nested_fits, node_stats_fit, raw_fits)

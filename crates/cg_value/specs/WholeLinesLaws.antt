-- A file of any kind can end after each of its lines.
use Rattle.std.proofs.Common.{◌≡◌, ℕ, ◌⊎◌, inl, inr, Bool, List, [], ◌∷◌, ◌++◌, Option, Some, None, map, refl, sym, ◌∙◌, ap, append_assoc}
use Rattle.std.specs.List.{AllZip}
use Rattle.cg_text.specs.Class.{IsClass}
use Rattle.cg_text.specs.Clamp.{IsClamp}
use Rattle.cg_text.specs.Decimal.{IsDecimal}
use Rattle.cg_text.specs.Distinct.{LacksValue, AreDistinct}
use Rattle.cg_text.specs.Limit.{IsLimit}
use Rattle.cg_text.specs.List.{IsStrictList}
use Rattle.cg_text.specs.Signed.{IsSigned}
use Rattle.cg_text.specs.Texts.{Viable}
use Rattle.cg_text.specs.declared.hundredths.Spelling.TheVariants.{Read}
use Rattle.cg_text.specs.declared.values.Limit.{Limit}
use Rattle.cg_value.specs.Files.{ReadLines, KindFile}
use Rattle.cg_value.specs.Kind.{any_u64}
use Rattle.cg_value.specs.LineLaws.{plain_lines, split_lines}
use Rattle.cg_value.specs.Lines.{IsOneLine, AreLinesOf}
use Rattle.cg_value.specs.ReadLine.{words_line, IsMode, IsCpuMax, AreWords, IsFlatLine, AreFlatLines, IsStatLine, IsLimitLine, IsWeightLine, AreWeightLines, IsTargetLine, IsPartition, ArePressureLines, IsNestedLine, AreNestedLines, IsNodeStats, IsRaw, IsFlatLimit, AreFlatLimits, IsParamLine}
use Rattle.cg_value.specs.declared.flat.FlatPair.{FlatPair}
use Rattle.cg_value.specs.declared.kind.ReadForm.{ReadForm}
use Rattle.cg_value.specs.declared.kind.ReadForm.TheVariants as form
use Rattle.cg_value.specs.declared.value.Averages.{Averages}
use Rattle.cg_value.specs.declared.value.FlatLimit.{FlatLimit}
use Rattle.cg_value.specs.declared.value.NestedLine.{NestedLine}
use Rattle.cg_value.specs.declared.value.NestedPair.{NestedPair}
use Rattle.cg_value.specs.declared.value.Role.{Role}
use Rattle.cg_value.specs.declared.value.Value.{Value}
use Rattle.cg_value.specs.declared.value.Value.TheVariants as value

-- ---- Lists

none_before : (before after : List (List ℕ)) → before ++ after ≡ [] → before ≡ []
none_before [] after e = refl
none_before (x ∷ before) after e = cc

-- The values of the lines in front.
pub record AreInFront {X : Type 0} (P : X → List ℕ → Type 0) (xs : List X) (before : List (List ℕ)) : Type 0 where
  pub front : List X
  pub back : List X
  pub values_are : xs ≡ front ++ back
  pub spelled : AllZip P front before

pub values_in_front : {X : Type 0} (P : X → List ℕ → Type 0) (xs : List X) (before after : List (List ℕ)) → AllZip P xs (before ++ after) → AreInFront P xs before
values_in_front P xs [] after h = record { front = []; back = xs; values_are = refl; spelled = tt }
values_in_front P [] (line ∷ before) after h = absurd h
values_in_front P (x ∷ xs) (line ∷ before) after h =
    let more = values_in_front P xs before after h.1 in
    record { front = x ∷ more.front; back = more.back; values_are = ap (λ t. x ∷ t) more.values_are; spelled = (h.0, more.spelled) }

lacks_front : {X V : Type 0} (f : X → V) (v : V) (xs ys : List X) → LacksValue v (map f (xs ++ ys)) → LacksValue v (map f xs)
lacks_front f v [] ys h = tt
lacks_front f v (x ∷ xs) ys h = (h.0, lacks_front f v xs ys h.1)

-- Values that are all different are so in front.
pub distinct_front : {X V : Type 0} (f : X → V) (xs ys : List X) → AreDistinct (map f (xs ++ ys)) → AreDistinct (map f xs)
distinct_front f [] ys h = tt
distinct_front f (x ∷ xs) ys h = (lacks_front f (f x) xs ys h.0, distinct_front f xs ys h.1)

-- ---- Kinds

-- A file of one line ends there.
one_line_ends : {X : Type 0} (P : X → List ℕ → Type 0) (make : X → Value) (v : Value) (first : List ℕ) (before after : List (List ℕ)) → IsOneLine P make v (first ∷ (before ++ after)) → IsOneLine P make v (first ∷ before)
one_line_ends P make v first before after h =
    let e = h.lines_are in
    let none : before ≡ [] = none_before before after (cc) in
    let only : first ≡ h.line = cc in
    record { x = h.x; line = h.line; value = h.value; lines_are = rw (none, only) refl; spelled = h.spelled }

many_lines_end : {X : Type 0} (P : X → List ℕ → Type 0) (make : List X → Value) (v : Value) (before after : List (List ℕ)) → AreLinesOf P make v (before ++ after) → (w : Value) × AreLinesOf P make w before
many_lines_end P make v before after h =
    let front = values_in_front P h.xs before after h.spelled in
    (make front.front, record { xs = front.front; value = refl; spelled = front.spelled })

words_end : (ws : List (List ℕ)) (first : List ℕ) (before after : List (List ℕ)) → AreWords ws (first ∷ (before ++ after)) → AreWords ws (first ∷ before)
words_end ws first before after h = record { each = h.each; distinct = h.distinct; lines_are = inl (of_lines h.lines_are) }
  where
    of_lines : (first ∷ (before ++ after) ≡ words_line ws ∷ []) ⊎ ((ws ≡ []) × (first ∷ (before ++ after) ≡ [])) → first ∷ before ≡ words_line ws ∷ []
    of_lines (inl e) = let none : before ≡ [] = none_before before after (cc) in cc
    of_lines (inr e) = absurd (let none = e.1 in cc)

flat_end : (ps : List FlatPair) (before after : List (List ℕ)) → AreFlatLines ps (before ++ after) → (qs : List FlatPair) × AreFlatLines qs before
flat_end ps before after h =
    let front = values_in_front IsFlatLine ps before after h.each in
    (front.front, record { each = front.spelled; distinct = distinct_front (λ p. p.key) front.front front.back (rw front.values_are at h.distinct) })

flat_limits_end : (ps : List FlatLimit) (before after : List (List ℕ)) → AreFlatLimits ps (before ++ after) → (qs : List FlatLimit) × AreFlatLimits qs before
flat_limits_end ps before after h =
    let front = values_in_front IsFlatLimit ps before after h.each in
    (front.front, record { each = front.spelled; distinct = distinct_front (λ p. p.key) front.front front.back (rw front.values_are at h.distinct) })

nested_end : (ls : List NestedLine) (before after : List (List ℕ)) → AreNestedLines ls (before ++ after) → (ms : List NestedLine) × AreNestedLines ms before
nested_end ls before after h =
    let front = values_in_front IsNestedLine ls before after h.each in
    (front.front, record { each = front.spelled; distinct = distinct_front (λ l. l.key) front.front front.back (rw front.values_are at h.distinct) })

weights_end : (most : ℕ) (kernel : Bool) (v : Value) (first : List ℕ) (before after : List (List ℕ)) → AreWeightLines most kernel v (first ∷ (before ++ after)) → (w : Value) × AreWeightLines most kernel w (first ∷ before)
weights_end most kernel v first before after h =
    let e = h.lines_are in
    let same : first ≡ h.first = cc in
    let others : h.others ≡ before ++ after = cc in
    let front = values_in_front (IsWeightLine most kernel) h.devices before after (rw others at h.others_are) in (
      value.DeviceWeights h.default front.front,
      record {
        default = h.default;
        devices = front.front;
        first = h.first;
        others = before;
        value = refl;
        lines_are = ap (λ t. t ∷ before) same;
        first_is = h.first_is;
        others_are = front.spelled;
      },
    )

pressure_end : (some full : Option Averages) (first : List ℕ) (before after : List (List ℕ)) → ArePressureLines some full (first ∷ (before ++ after)) →
    (a : Option Averages) × (b : Option Averages) × ArePressureLines a b (first ∷ before)
pressure_end None None first before after h = absurd h
pressure_end (Some a) None first before after h =
    let e = h.1 in
    let none : before ≡ [] = none_before before after (cc) in
    (Some a, None, (h.0, (cc), h.2))
pressure_end None (Some b) first before after h =
    let e = h.1 in
    let none : before ≡ [] = none_before before after (cc) in
    (None, Some b, (h.0, (cc), h.2))
pressure_end (Some a) (Some b) first [] after h = let e = h.2 in (Some a, None, (h.0, (cc), h.3))
pressure_end (Some a) (Some b) first (second ∷ before) after h =
    let e = h.2 in
    let none : before ≡ [] = none_before before after (cc) in
    (Some a, Some b, (h.0, h.1, (cc), h.3, h.4))

-- A file of lines, ended after its first line or one further on, is a file of the kind.
pub lines_can_end : (kind : ReadForm) (v : Value) (first : List ℕ) (before after : List (List ℕ)) → ReadLines kind v (first ∷ (before ++ after)) → (w : Value) × ReadLines kind w (first ∷ before)
lines_can_end (form.Number lo hi) v first before after h = (v, one_line_ends (IsDecimal lo hi) value.Number v first before after h)
lines_can_end (form.Signed lo hi) v first before after h = (v, one_line_ends (IsSigned lo hi) value.Signed v first before after h)
lines_can_end form.Limit v first before after h = (v, one_line_ends (IsLimit 0 any_u64) value.Limit v first before after h)
lines_can_end form.Mode v first before after h = (v, one_line_ends IsMode value.Mode v first before after h)
lines_can_end form.Class v first before after h = (v, one_line_ends IsClass value.Class v first before after h)
lines_can_end form.CpuMax v first before after h = (v, one_line_ends IsCpuMax (λ (x : Limit × ℕ). value.CpuMax (x.0) (x.1)) v first before after h)
lines_can_end form.Clamp v first before after h = (v, one_line_ends (IsClamp Read) value.Clamp v first before after h)
lines_can_end (form.Numbers lo hi) v first before after h = many_lines_end (IsDecimal lo hi) value.Numbers v (first ∷ before) after h
lines_can_end form.Words v first before after h = (v, record { x = h.x; value = h.value; spelled = words_end h.x first before after h.spelled })
lines_can_end form.Flat v first before after h = let front = flat_end h.x (first ∷ before) after h.spelled in (value.Flat front.0, record { x = front.0; value = refl; spelled = front.1 })
lines_can_end form.FlatLimits v first before after h = let front = flat_limits_end h.x (first ∷ before) after h.spelled in (value.FlatLimits front.0, record { x = front.0; value = refl; spelled = front.1 })
lines_can_end (form.DeviceStats kernel) v first before after h = many_lines_end (IsStatLine kernel) value.DeviceStats v (first ∷ before) after h
lines_can_end (form.DeviceLimits kernel) v first before after h = many_lines_end (IsLimitLine kernel) value.DeviceLimits v (first ∷ before) after h
lines_can_end (form.DeviceWeights most kernel) v first before after h = weights_end most kernel v first before after h
lines_can_end (form.DeviceTargets kernel) v first before after h = many_lines_end (IsTargetLine kernel) value.DeviceTargets v (first ∷ before) after h
lines_can_end form.DeviceParams v first before after h = many_lines_end IsParamLine value.DeviceParams v (first ∷ before) after h
lines_can_end (form.Set most) v first before after h = (v, one_line_ends (IsStrictList most) value.Set v first before after h)
lines_can_end form.Partition v first before after h =
    (v, one_line_ends (λ (x : Role × Bool × Option (List ℕ)) line. IsPartition (x.0) (x.1) (x.2) line) (λ x. value.Partition (x.0) (x.1) (x.2)) v first before after h)
lines_can_end form.Pressure v first before after h =
    let front = pressure_end (h.x.0) (h.x.1) first before after h.spelled in
    (value.Pressure front.0 front.1, record { x = (front.0, front.1); value = refl; spelled = front.2 })
lines_can_end form.Nested v first before after h = let front = nested_end h.x (first ∷ before) after h.spelled in (value.Nested front.0, record { x = front.0; value = refl; spelled = front.1 })
lines_can_end form.NodeStats v first before after h = (v, one_line_ends IsNodeStats (λ (x : ℕ × List NestedPair). value.NodeStats (x.0) (x.1)) v first before after h)
lines_can_end form.Raw v first before after h = many_lines_end IsRaw value.Raw v (first ∷ before) after h

-- Where some file of the kind goes on after a newline, one also ends there.
pub can_end : (kind : ReadForm) (front : List ℕ) → Viable (KindFile kind) (front ++ 10 ∷ []) → KindFile kind (front ++ 10 ∷ [])
can_end kind front h =
    let file = h.whole.1 in
    let shape = append_assoc front (10 ∷ []) h.rest in
    let split = split_lines file.lines front h.rest (plain_lines kind h.whole.0 file.lines file.spelled) (sym file.text_is ∙ shape) in
    let ended = lines_can_end kind h.whole.0 split.first split.before split.after (rw split.lines_are at file.spelled) in
    (ended.0, record { lines = split.first ∷ split.before; spelled = ended.1; text_is = sym split.front_is })

-- A value that is read has one text: its canonical one, except that no words also have the text of no bytes.
use Rattle.std.proofs.Common.{◌≡◌, ℕ, ◌≤◌, ◌⊎◌, inl, inr, Bool, ℤ, pos, negsuc, List, [], ◌∷◌, ◌++◌, Option, Some, None, codes, map, refl, sym, ◌∙◌, ap, arith}
use Rattle.std.proofs.lemmas.Int.{ints}
use Rattle.std.proofs.lemmas.List.Elements.{All-nil}
use Rattle.std.specs.Fmt.{decimal, signed_decimal}
use Rattle.std.specs.List.{AllZip}
use Rattle.cg_text.specs.Class.{class_text, IsClass}
use Rattle.cg_text.specs.Clamp.{IsClamp}
use Rattle.cg_text.specs.Decimal.{IsDecimal}
use Rattle.cg_text.specs.Limit.{IsLimit}
use Rattle.cg_text.specs.List.{IsStrictList}
use Rattle.cg_text.specs.Signed.{IsSigned}
use Rattle.cg_text.specs.Word.{IsControllerWord}
use Rattle.cg_text.specs.declared.hundredths.Spelling.TheVariants.{Read}
use Rattle.cg_text.specs.declared.values.Limit.{Limit}
use Rattle.cg_value.specs.Files.{IsMadeOf, ReadLines, KindText, Fits}
use Rattle.cg_value.specs.Kind.{any_u64, IsListEnd, IsReadForm}
use Rattle.cg_value.specs.Laws.{HasNoLine, HasNoByte}
use Rattle.cg_value.specs.Lines.{unlines, IsOneLine, AreLinesOf}
use Rattle.cg_value.specs.Print.{print_limit, print_clamp, print_set, print_flat_line, print_stat_line, print_limit_line, print_weight_line, print_target_line, print_partition, print_pressure_line, print_nested_line, print_node_stats, print_lines, print_of, print_flat_limit, print_param_line}
use Rattle.cg_value.specs.PrintLineLaws.{decimal_text_is, limit_text_is, clamp_text_is, signed_text_is, set_text_is, cpu_max_line_is, flat_line_is, stat_line_is, limit_line_is, default_line_is, flat_limit_is, param_line_is}
use Rattle.cg_value.specs.PrintLineLaws.{weight_line_is, target_line_is, partition_line_is, pressure_line_is, nested_line_is, node_stats_line_is}
use Rattle.cg_value.specs.ReadLine.{mode_text, words_line, IsMode, IsCpuMax, IsFlatLine, AreFlatLines, IsStatLine, IsLimitLine, IsWeightLine, AreWeightLines, IsTargetLine, IsPartition, ArePressureLines, IsNestedLine, AreNestedLines, IsNodeStats, IsRaw, IsFlatLimit, AreFlatLimits, IsParamLine}
use Rattle.cg_value.specs.declared.kind.ReadForm.{ReadForm}
use Rattle.cg_value.specs.declared.kind.ReadForm.TheVariants as form
use Rattle.cg_value.specs.declared.value.Averages.{Averages}
use Rattle.cg_value.specs.declared.value.NestedPair.{NestedPair}
use Rattle.cg_value.specs.declared.value.Role.{Role}
use Rattle.cg_value.specs.declared.value.Value.{Value}
use Rattle.cg_value.specs.declared.value.Value.TheVariants as value

-- Lines of one relation each.
pub lines_are : {X : Type 0} (P : X → List ℕ → Type 0) (f : X → List ℕ) → ((x : X) (line : List ℕ) → P x line → line ≡ f x) → (xs : List X) (lines : List (List ℕ)) → AllZip P xs lines → lines ≡ map f xs
lines_are P f is [] [] h = refl
lines_are P f is [] (line ∷ lines) h = absurd h
lines_are P f is (x ∷ xs) [] h = absurd h
lines_are P f is (x ∷ xs) (line ∷ lines) h =
    let first = is x line h.0 in
    let others = lines_are P f is xs lines h.1 in
    rw (first, others)

raw_line_is : (bytes line : List ℕ) → IsRaw bytes line → line ≡ bytes
raw_line_is bytes line h = h.0

map_same : {X : Type 0} (xs : List X) → map (λ x. x) xs ≡ xs
map_same [] = refl
map_same (x ∷ xs) = ap (λ t. x ∷ t) (map_same xs)

-- A kind of one line.
one_line_is : {X : Type 0} (P : X → List ℕ → Type 0) (make : X → Value) (f : X → List ℕ) → ((x : X) → print_lines (make x) ≡ f x ∷ []) → ((x : X) (line : List ℕ) → P x line → line ≡ f x) →
    (v : Value) (lines : List (List ℕ)) → IsOneLine P make v lines → lines ≡ print_lines v
one_line_is P make f prints is v lines h = h.lines_are ∙ ap (λ t. t ∷ []) (is h.x h.line h.spelled) ∙ sym (prints h.x) ∙ ap print_lines (sym h.value)

-- A kind of many lines.
many_lines_are : {X : Type 0} (P : X → List ℕ → Type 0) (make : List X → Value) (f : X → List ℕ) → ((xs : List X) → print_lines (make xs) ≡ map f xs) → ((x : X) (line : List ℕ) → P x line → line ≡ f x) →
    (v : Value) (lines : List (List ℕ)) → AreLinesOf P make v lines → lines ≡ print_lines v
many_lines_are P make f prints is v lines h = lines_are P f is h.xs lines h.spelled ∙ sym (prints h.xs) ∙ ap print_lines (sym h.value)

-- A kind whose lines are given by one relation.
made_lines_are : {X : Type 0} (P : X → List (List ℕ) → Type 0) (make : X → Value) → ((x : X) (lines : List (List ℕ)) → P x lines → lines ≡ print_lines (make x)) →
    (v : Value) (lines : List (List ℕ)) → IsMadeOf P make v lines → lines ≡ print_lines v
made_lines_are P make is v lines h = is h.x lines h.spelled ∙ ap print_lines (sym h.value)

weight_lines_are : (most : ℕ) (kernel : Bool) (v : Value) (lines : List (List ℕ)) → most ≤ any_u64 → AreWeightLines most kernel v lines → lines ≡ print_lines v
weight_lines_are most kernel v lines b h =
    let first = default_line_is most h.default h.first b h.first_is in
    let others = lines_are (IsWeightLine most kernel) print_weight_line (λ w line. weight_line_is most kernel w line b) h.devices h.others h.others_are in
    h.lines_are ∙ rw (first, others) (ap print_lines (sym h.value))

pressure_lines_are : (some full : Option Averages) (lines : List (List ℕ)) → ArePressureLines some full lines → lines ≡ print_pressure_line (codes "some") some ++ print_pressure_line (codes "full") full
pressure_lines_are None None lines h = absurd h
pressure_lines_are (Some a) None lines h = h.1 ∙ ap (λ t. t ∷ []) (pressure_line_is (codes "some") a h.0 h.2)
pressure_lines_are None (Some b) lines h = h.1 ∙ ap (λ t. t ∷ []) (pressure_line_is (codes "full") b h.0 h.2)
pressure_lines_are (Some a) (Some b) lines h =
    let first = pressure_line_is (codes "some") a h.0 h.3 in
    let second = pressure_line_is (codes "full") b h.1 h.4 in
    h.2 ∙ rw (first, second)

-- Words on their line, or no words in no lines.
words_are : (ws : List (List ℕ)) (v : Value) (lines : List (List ℕ)) → v ≡ value.Words ws → (lines ≡ words_line ws ∷ []) ⊎ ((ws ≡ []) × (lines ≡ [])) → (lines ≡ print_lines v) ⊎ HasNoLine form.Words v lines
words_are ws v lines e (inl h) = inl (h ∙ ap print_lines (sym e))
words_are ws v lines e (inr h) = inr (record { of_words = refl; no_words = e ∙ ap value.Words h.0; no_lines = h.1 })

end_small : (most : ℕ) → IsListEnd most → most ≤ any_u64
end_small most (inl e) = omega (arith, e)
end_small most (inr e) = omega (arith, e)

signed_line_is : (lo hi z : ℤ) (line : List ℕ) → lo ≡ negsuc 19 → hi ≡ pos 19 → IsSigned lo hi z line → line ≡ signed_decimal z
signed_line_is lo hi z line low high h =
    let from = rw low at h.0 in
    let to = rw high at h.1 in
    signed_text_is z line (omega (arith, ints, from)) (omega (arith, ints, to)) h.2

-- The lines of a value are those of its canonical text, except that no words also have no lines.
pub one_text : (kind : ReadForm) (v : Value) (lines : List (List ℕ)) → IsReadForm kind → ReadLines kind v lines → (lines ≡ print_lines v) ⊎ HasNoLine kind v lines
one_text (form.Number lo hi) v lines b h = inl (one_line_is (IsDecimal lo hi) value.Number decimal (λ x. refl) (λ x line. decimal_text_is lo hi x line b.1) v lines h)
one_text (form.Signed lo hi) v lines b h = inl (one_line_is (IsSigned lo hi) value.Signed signed_decimal (λ x. refl) (λ x line. signed_line_is lo hi x line b.0 b.1) v lines h)
one_text form.Limit v lines b h = inl (one_line_is (IsLimit 0 any_u64) value.Limit print_limit (λ x. refl) (λ x line. limit_text_is any_u64 x line (omega arith)) v lines h)
one_text form.Mode v lines b h = inl (one_line_is IsMode value.Mode mode_text (λ x. refl) (λ x line k. k) v lines h)
one_text form.Class v lines b h = inl (one_line_is IsClass value.Class class_text (λ x. refl) (λ x line k. k) v lines h)
one_text form.CpuMax v lines b h = inl (one_line_is IsCpuMax (λ (x : Limit × ℕ). value.CpuMax (x.0) (x.1)) (λ (x : Limit × ℕ). print_limit (x.0) ++ 32 ∷ decimal (x.1)) (λ x. refl) cpu_max_line_is v lines h)
one_text form.Clamp v lines b h = inl (one_line_is (IsClamp Read) value.Clamp print_clamp (λ x. refl) clamp_text_is v lines h)
one_text (form.Numbers lo hi) v lines b h = inl (many_lines_are (IsDecimal lo hi) value.Numbers decimal (λ xs. refl) (λ x line. decimal_text_is lo hi x line b.1) v lines h)
one_text form.Words v lines b h = words_are h.x v lines h.value h.spelled.lines_are
one_text form.Flat v lines b h = inl (made_lines_are AreFlatLines value.Flat (λ x ls k. lines_are IsFlatLine print_flat_line flat_line_is x ls k.each) v lines h)
one_text form.FlatLimits v lines b h = inl (made_lines_are AreFlatLimits value.FlatLimits (λ x ls k. lines_are IsFlatLimit print_flat_limit flat_limit_is x ls k.each) v lines h)
one_text (form.DeviceStats kernel) v lines b h = inl (many_lines_are (IsStatLine kernel) value.DeviceStats print_stat_line (λ xs. refl) (stat_line_is kernel) v lines h)
one_text (form.DeviceLimits kernel) v lines b h = inl (many_lines_are (IsLimitLine kernel) value.DeviceLimits print_limit_line (λ xs. refl) (limit_line_is kernel) v lines h)
one_text (form.DeviceWeights most kernel) v lines b h = inl (weight_lines_are most kernel v lines b.1 h)
one_text (form.DeviceTargets kernel) v lines b h = inl (many_lines_are (IsTargetLine kernel) value.DeviceTargets print_target_line (λ xs. refl) (target_line_is kernel) v lines h)
one_text form.DeviceParams v lines b h = inl (many_lines_are IsParamLine value.DeviceParams print_param_line (λ xs. refl) param_line_is v lines h)
one_text (form.Set most) v lines b h = inl (one_line_is (IsStrictList most) value.Set print_set (λ x. refl) (λ x line k. set_text_is most x line (end_small most b) k.1) v lines h)
one_text form.Partition v lines b h =
    inl (one_line_is (λ (x : Role × Bool × Option (List ℕ)) line. IsPartition (x.0) (x.1) (x.2) line) (λ x. value.Partition (x.0) (x.1) (x.2)) (λ (x : Role × Bool × Option (List ℕ)). print_partition (x.0) (x.1) (x.2))
    (λ x. refl) (λ x line. partition_line_is (x.0) (x.1) (x.2) line) v lines h)
one_text form.Pressure v lines b h =
    inl (made_lines_are (λ (x : Option Averages × Option Averages) ls. ArePressureLines (x.0) (x.1) ls) (λ x. value.Pressure (x.0) (x.1)) (λ x ls. pressure_lines_are (x.0) (x.1) ls) v lines h)
one_text form.Nested v lines b h = inl (made_lines_are AreNestedLines value.Nested (λ x ls k. lines_are IsNestedLine print_nested_line nested_line_is x ls k.each) v lines h)
one_text form.NodeStats v lines b h =
    inl (one_line_is IsNodeStats (λ (x : ℕ × List NestedPair). value.NodeStats (x.0) (x.1)) (λ (x : ℕ × List NestedPair). print_node_stats (x.0) (x.1)) (λ x. refl) node_stats_line_is v lines h)
one_text form.Raw v lines b h = inl (many_lines_are IsRaw value.Raw (λ x. x) (λ xs. sym (map_same xs)) raw_line_is v lines h)

-- The canonical lines of a value that fits spell it.
pub lines_fit : (kind : ReadForm) (v : Value) → IsReadForm kind → Fits kind v → ReadLines kind v (print_lines v)
lines_fit kind v b h = fit (one_text kind v h.lines b h.spelled)
  where
    no_words_fit : (w : Value) → w ≡ value.Words [] → ReadLines form.Words w (print_lines w)
    no_words_fit w e = record { x = []; value = e; spelled = record { each = All-nil IsControllerWord; distinct = tt; lines_are = inl (ap print_lines e) } }

    fit : (h.lines ≡ print_lines v) ⊎ HasNoLine kind v h.lines → ReadLines kind v (print_lines v)
    fit (inl e) = rw e at h.spelled
    fit (inr e) = rw e.of_words (no_words_fit v e.no_words)

-- The canonical text of a value that fits is a file of the kind with the value.
pub print_fits : (kind : ReadForm) (v : Value) → IsReadForm kind → Fits kind v → KindText kind v (print_of v)
print_fits kind v b h = record { lines = print_lines v; spelled = lines_fit kind v b h; text_is = refl }

-- A file of the kind with the value is its canonical text, except that no words also have the text of no bytes.
pub text_is_print : (kind : ReadForm) (v : Value) (text : List ℕ) → IsReadForm kind → KindText kind v text → (text ≡ print_of v) ⊎ HasNoByte kind v text
text_is_print kind v text b h = is (one_text kind v h.lines b h.spelled)
  where
    is : (h.lines ≡ print_lines v) ⊎ HasNoLine kind v h.lines → (text ≡ print_of v) ⊎ HasNoByte kind v text
    is (inl e) = inl (h.text_is ∙ ap unlines e)
    is (inr e) = inr (record { of_words = e.of_words; no_words = e.no_words; no_bytes = h.text_is ∙ ap unlines e.no_lines })

-- Two files of the kind with one value are one, except where one of them is the text of no bytes.
pub one_read_text : (kind : ReadForm) (v : Value) (t u : List ℕ) → IsReadForm kind → KindText kind v t → KindText kind v u → (t ≡ u) ⊎ (HasNoByte kind v t ⊎ HasNoByte kind v u)
one_read_text kind v t u b h k = both (text_is_print kind v t b h) (text_is_print kind v u b k)
  where
    both : (t ≡ print_of v) ⊎ HasNoByte kind v t → (u ≡ print_of v) ⊎ HasNoByte kind v u → (t ≡ u) ⊎ (HasNoByte kind v t ⊎ HasNoByte kind v u)
    both (inl e) (inl f) = inl (e ∙ sym f)
    both (inl e) (inr f) = inr (inr f)
    both (inr e) f = inr (inl e)

-- No words have both.
pub no_words_text : KindText form.Words (value.Words []) []
no_words_text = record { lines = []; spelled = record { x = []; value = refl; spelled = record { each = All-nil IsControllerWord; distinct = tt; lines_are = inr (refl, refl) } }; text_is = refl }

-- How many lines the canonical text has.
abbrev pub count_of : {X : Type 0} → Option X → ℕ
count_of None = 0
count_of (Some x) = 1

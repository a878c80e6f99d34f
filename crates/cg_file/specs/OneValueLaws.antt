-- A text has one value, kind by kind.
use Rattle.std.proofs.Common.{◌≡◌, ℕ, ◌⊎◌, inl, inr, Bool, false, true, cond, nat_eq, ℤ, pos, negsuc, List, [], ◌∷◌, ◌++◌, length, Option, Some, None, refl, sym, ◌∙◌, ap, arith, codes}
use Rattle.std.specs.List.{All, AllByRecursion, AllZip}
use Rattle.cg_text.specs.Class.{IsClass}
use Rattle.cg_text.specs.Clamp.{IsClamp}
use Rattle.cg_text.specs.Decimal.{IsDecimal, IsNumeral}
use Rattle.cg_text.specs.DecimalLaws.{IsNumeral_one, number_digits}
use Rattle.cg_text.specs.Keyword.{text_of}
use Rattle.cg_text.specs.KeywordLaws.{keyword_bytes}
use Rattle.cg_text.specs.Limit.{IsLimit}
use Rattle.cg_text.specs.List.{IsStrictList}
use Rattle.cg_text.specs.ListFacts.{heads, tails, not_nil}
use Rattle.cg_text.specs.ListLaws.{list_one}
use Rattle.cg_text.specs.ListTextLaws.{list_new}
use Rattle.cg_text.specs.RawLaws.{reason_one}
use Rattle.cg_text.specs.Raw.{IsReason}
use Rattle.cg_text.specs.Signed.{IsSigned}
use Rattle.cg_text.specs.Texts.{Lacks}
use Rattle.cg_text.specs.Token.{HasOneText}
use Rattle.cg_text.specs.Word.{IsControllerWord}
use Rattle.cg_text.specs.declared.decimal.Progress.TheVariants.{Start}
use Rattle.cg_text.specs.declared.hundredths.Spelling.TheVariants.{Read}
use Rattle.cg_text.specs.declared.keyword.Keyword.TheVariants as word
use Rattle.cg_text.specs.declared.values.Clamp.TheVariants.{Max as MaxClamp, At as AtClamp}
use Rattle.cg_text.specs.declared.values.Limit.{Limit}
use Rattle.cg_join.specs.ApartLaws.{fixed_apart, label_apart, lacking_apart}
use Rattle.cg_join.specs.BeginsLaws.{label_begins, maybe_begins_by}
use Rattle.cg_join.specs.Composites.{AreAverages as AveragesText, IsAnyNumber, IsAverage}
use Rattle.cg_join.specs.DisjointLaws.{fixed_disjoint}
use Rattle.cg_join.specs.FilledLaws.{first_filled, fixed_filled, joined_filled, word_is_filled}
use Rattle.cg_join.specs.ClassLaws.{class_one}
use Rattle.cg_join.specs.JoinedPairs.{AreJoinedPairs}
use Rattle.cg_join.specs.JoinedPairsLaws.{joined_one, nested_is}
use Rattle.cg_join.specs.KeyedLaws.{keyed_one, only_kept, some_one}
use Rattle.cg_join.specs.LackingLaws.{decimal_lacking, either_lacking, fixed_lacking, hundredths_lacking, limit_lacking, word_lacking}
use Rattle.cg_join.specs.MaxLaws.{max_not_hundredths}
use Rattle.cg_join.specs.PairsLaws.{pair_one}
use Rattle.cg_join.specs.ProperLaws.{decimal_proper, concat_proper, label_proper, limit_proper, space_proper}
use Rattle.cg_join.specs.RepeatLaws as repeat
use Rattle.cg_join.specs.StartLaws.{lacks_stops, one_decimal}
use Rattle.cg_join.specs.SequenceLaws.{both_same}
use Rattle.cg_join.specs.Maybe.{IsMaybe}
use Rattle.cg_join.specs.OneTextLaws.{concat_one, either_one, fixed_one, maybe_one, one_as, mapped_text_one}
use Rattle.cg_join.specs.Spelling.{Disjoint}
use Rattle.cg_join.specs.TextBytes.{IsFixed}
use Rattle.cg_join.specs.WordStartLaws.{SpellsWord, one_word, word_only}
use Rattle.cg_value.specs.Files.{IsMadeOf, ReadLines}
use Rattle.cg_value.specs.Kind.{any_u64}
use Rattle.cg_value.specs.LineLaws.{plain_lines}
use Rattle.cg_value.specs.Lines.{AreLinesOf, IsOneLine, unlines}
use Rattle.cg_value.specs.Print.{print_of}
use Rattle.cg_value.specs.PrintLaws.{print_fits}
use Rattle.cg_value.specs.ReadLine.{AreAverages, AreFlatLines, AreNestedLines, ArePressureLines, AreWeightLines, AreWords, IsCpuMax, IsDefaultLine, IsFlatLine, IsLimitLine, IsMode, IsNestedLine, AreFlatLimits, IsFlatLimit, IsParamLine}
use Rattle.cg_value.specs.ReadLine.{IsNodeStats, IsPartition, IsPressureLine, IsRaw, IsStatLine, IsTargetLine, IsWeightLine, mode_text, words_line}
use Rattle.cg_value.specs.TableLaws.{read_form_ok}
use Rattle.cg_value.specs.declared.flat.FlatPair.{FlatPair}
use Rattle.cg_value.specs.declared.kind.ReadForm.{ReadForm}
use Rattle.cg_value.specs.declared.kind.ReadForm.TheVariants as form
use Rattle.cg_value.specs.declared.value.Averages.{Averages}
use Rattle.cg_value.specs.declared.value.FlatLimit.{FlatLimit}
use Rattle.cg_value.specs.declared.value.GroupMode.{GroupMode}
use Rattle.cg_value.specs.declared.value.GroupMode.TheVariants.{Domain, DomainThreaded, DomainInvalid, Threaded}
use Rattle.cg_value.specs.declared.value.NestedLine.{NestedLine}
use Rattle.cg_value.specs.declared.value.NestedPair.{NestedPair}
use Rattle.cg_value.specs.declared.value.Role.{Role}
use Rattle.cg_value.specs.declared.value.Value.{Value}
use Rattle.cg_value.specs.declared.value.Value.TheVariants as value
use Rattle.cg_file.specs.DeviceLineLaws.{NumberText, limits_startable, target_startable, weight_apart, weight_is, weight_line}
use Rattle.cg_file.specs.FlatFileLaws.{flat_line_is}
use Rattle.cg_file.specs.FlatLimitsFileLaws.{any_limit_startable, flat_limit_is}
use Rattle.cg_file.specs.FourLaws.{four_startable}
use Rattle.cg_file.specs.Laws.{OneValue, OneValueOfName, ReadBack, ReadBackOfName}
use Rattle.cg_file.specs.ManyFileLaws.{one_raw}
use Rattle.cg_file.specs.NestedFileLaws.{PairText, nested_line_is}
use Rattle.cg_file.specs.NodeStatsFileLaws.{node_stats_one}
use Rattle.cg_file.specs.OneLineFileLaws.{cpu_max_is}
use Rattle.cg_file.specs.OneLineMapped.{quota_of}
use Rattle.cg_file.specs.OneOrBoth.{Differ}
use Rattle.cg_file.specs.ParamFileLaws.{params_startable}
use Rattle.cg_file.specs.PartitionFileLaws.{member_differs, partition_is}
use Rattle.cg_file.specs.PartitionMapped.{IsInvalidText, IsReasonText, IsRootText, IsRootWord, partition_parts}
use Rattle.cg_file.specs.PressureFileLaws.{AveragesValues, averages_from, line_averages, values_of}
use Rattle.cg_file.specs.StartableLaws.{Startable, decimal_startable, device_name_startable, hundredths_startable, limit_startable}
use Rattle.cg_file.specs.StatFileLaws.{stat_startable}
use Rattle.cg_file.specs.WordsFileLaws.{line_joined}

-- ---- The lines of a text

-- Up to a newline two equal texts are one line.
first_line : (a b c d : List ℕ) → Lacks 10 a → Lacks 10 c → a ++ 10 ∷ b ≡ c ++ 10 ∷ d → (a ≡ c) × (b ≡ d)
first_line [] b [] d h k e = (refl, tails 10 10 b d e)
first_line [] b (y ∷ c) d h k e = absurd (k.0 (sym (heads 10 y b (c ++ 10 ∷ d) e)))
first_line (x ∷ a) b [] d h k e = absurd (h.0 (heads x 10 (a ++ 10 ∷ b) d e))
first_line (x ∷ a) b (y ∷ c) d h k e =
    let more = first_line a b c d h.1 k.1 (tails x y (a ++ 10 ∷ b) (c ++ 10 ∷ d) e) in
    let head : x ≡ y = heads x y (a ++ 10 ∷ b) (c ++ 10 ∷ d) e in
    let tail : a ≡ c = more.0 in
    (cc, more.1)

-- A text is of the lines that it is, and no others.
pub lines_one : (ls ms : List (List ℕ)) → AllByRecursion (Lacks 10) ls → AllByRecursion (Lacks 10) ms → unlines ls ≡ unlines ms → ls ≡ ms
lines_one [] [] h k e = refl
lines_one [] (m ∷ ms) h k e = absurd (not_nil m 10 (unlines ms) e)
lines_one (l ∷ ls) [] h k e = absurd (not_nil l 10 (unlines ls) (sym e))
lines_one (l ∷ ls) (m ∷ ms) h k e =
    let cut = first_line l (unlines ls) m (unlines ms) h.0 k.0 e in
    let head : l ≡ m = cut.0 in
    let tail : ls ≡ ms = lines_one ls ms h.1 k.1 cut.1 in
    cc

-- Lines by P spell one list of values.
values_one : {X : Type 0} (P : X → List ℕ → Type 0) → HasOneText (λ line x. P x line) → (xs ys : List X) (lines : List (List ℕ)) → AllZip P xs lines → AllZip P ys lines → xs ≡ ys
values_one P one [] [] lines h k = refl
values_one P one [] (y ∷ ys) [] h k = absurd k
values_one P one [] (y ∷ ys) (line ∷ lines) h k = absurd h
values_one P one (x ∷ xs) [] [] h k = absurd h
values_one P one (x ∷ xs) [] (line ∷ lines) h k = absurd k
values_one P one (x ∷ xs) (y ∷ ys) [] h k = absurd h
values_one P one (x ∷ xs) (y ∷ ys) (line ∷ lines) h k =
    let head : x ≡ y = one line x y h.0 k.0 in
    let tail : xs ≡ ys = values_one P one xs ys lines h.1 k.1 in
    cc

-- A value of one line, and one of any number of lines.
one_line : {X : Type 0} (P : X → List ℕ → Type 0) (make : X → Value) → HasOneText (λ line x. P x line) → (v w : Value) (lines : List (List ℕ)) → IsOneLine P make v lines → IsOneLine P make w lines → v ≡ w
one_line P make one v w lines h k =
    let same : h.line ≡ k.line = only_kept h.line k.line (sym h.lines_are ∙ k.lines_are) in
    h.value ∙ ap make (one k.line h.x k.x (rw same at h.spelled) k.spelled) ∙ sym k.value

many_lines : {X : Type 0} (P : X → List ℕ → Type 0) (make : List X → Value) → HasOneText (λ line x. P x line) → (v w : Value) (lines : List (List ℕ)) → AreLinesOf P make v lines → AreLinesOf P make w lines → v ≡ w
many_lines P make one v w lines h k = h.value ∙ ap make (values_one P one h.xs k.xs lines h.spelled k.spelled) ∙ sym k.value

-- ---- Lines of one value

no_minus : (m : ℕ) (more : List ℕ) → IsNumeral m (45 ∷ more) → ⊥
no_minus m more (inl h) = omega (arith, h.0)
no_minus m more (inr h) = omega (arith, h.0)

signed_one : (lo hi : ℤ) → HasOneText (λ line z. IsSigned lo hi z line)
signed_one lo hi line (pos m) (pos n) h k = ap pos (IsNumeral_one m n line h.2 k.2)
signed_one lo hi line (pos m) (negsuc n) h k = absurd (no_minus m k.2.0 (rw k.2.1 at h.2))
signed_one lo hi line (negsuc m) (pos n) h k = absurd (no_minus n h.2.0 (rw h.2.1 at k.2))
signed_one lo hi line (negsuc m) (negsuc n) h k =
    let same : h.2.0 ≡ k.2.0 = tails 45 45 h.2.0 k.2.0 (sym h.2.1 ∙ k.2.1) in
    let next = IsNumeral_one _ _ k.2.0 (rw same at h.2.2) k.2.2 in
    let number : m ≡ n = omega (arith, next) in
    ap negsuc number

-- The modes' words have different lengths.
mode_of_length : ℕ → GroupMode
mode_of_length n = cond (nat_eq n 6) Domain (cond (nat_eq n 15) DomainThreaded (cond (nat_eq n 14) DomainInvalid Threaded))

mode_back : (mode : GroupMode) → mode_of_length (length (mode_text mode)) ≡ mode
unfolding mode_of_length
mode_back Domain = refl
mode_back DomainThreaded = refl
mode_back DomainInvalid = refl
mode_back Threaded = refl

mode_one : HasOneText (λ line mode. IsMode mode line)
mode_one line v w h k = sym (mode_back v) ∙ ap (λ t. mode_of_length (length t)) (sym h ∙ k) ∙ mode_back w

cpu_max_one : HasOneText (λ line (x : Limit × ℕ). IsCpuMax x line)
cpu_max_one = one_as cpu_max_is (mapped_text_one quota_of
    (concat_proper (limit_proper 0 any_u64 (omega arith)) (label_proper space_proper (decimal_proper 0 any_u64 (omega arith))) (label_apart (limit_lacking 32 0 any_u64 (omega arith)))).one_text)

clamp_one : HasOneText (λ line c. IsClamp Read c line)
clamp_one line MaxClamp MaxClamp h k = refl
clamp_one line MaxClamp (AtClamp b) h k = absurd (max_not_hundredths Read 10000 b line h k)
clamp_one line (AtClamp a) MaxClamp h k = absurd (max_not_hundredths Read 10000 a line k h)
clamp_one line (AtClamp a) (AtClamp b) h k = ap AtClamp ((hundredths_startable 10000).one line a b h k)

set_one : (most : ℕ) → HasOneText (λ line set. IsStrictList most set line)
set_one most = one_as (list_new true most (λ x n. IsDecimal 0 most n x) (λ x n. (λ h. h, λ h. h)) [] refl)
    (list_one true most (λ x n. IsDecimal 0 most n x) (λ x n h. number_digits 0 most Start x n h) (λ x m n h k. one_decimal 0 most x m n h k) [] None (λ e n h. h.2))

-- ---- Words

one_words : (words others : List (List ℕ)) → All IsControllerWord words → All IsControllerWord others → words_line words ≡ words_line others → words ≡ others
one_words [] [] h k e = refl
one_words [] (u ∷ us) h k e = absurd ((joined_filled 32 (word_is_filled true)).is (u ∷ us) (rw (← e) at (line_joined u us k)))
one_words (w ∷ ws) [] h k e = absurd ((joined_filled 32 (word_is_filled true)).is (w ∷ ws) (rw e at (line_joined w ws h)))
one_words (w ∷ ws) (u ∷ us) h k e =
    let stops = lacks_stops (SpellsWord true) 32 (word_lacking 32 true (omega arith)).is in
    repeat.list_one 32 (SpellsWord true) (SpellsWord true) stops stops (one_word true) (one_word true) (words_line (u ∷ us)) (w ∷ ws) (u ∷ us) (rw e at (line_joined w ws h)) (line_joined u us k)

words_one : (words others : List (List ℕ)) (lines : List (List ℕ)) → AreWords words lines → AreWords others lines → words ≡ others
words_one words others lines h k = of_lines h.lines_are k.lines_are
  where
    of_lines : (lines ≡ words_line words ∷ []) ⊎ ((words ≡ []) × (lines ≡ [])) → (lines ≡ words_line others ∷ []) ⊎ ((others ≡ []) × (lines ≡ [])) → words ≡ others
    of_lines (inl a) (inl b) = one_words words others h.each k.each (only_kept (words_line words) (words_line others) (sym a ∙ b))
    of_lines (inl a) (inr b) = absurd (let e : words_line words ∷ [] ≡ [] = sym a ∙ b.1 in cc)
    of_lines (inr a) (inl b) = absurd (let e : words_line others ∷ [] ≡ [] = sym b ∙ a.1 in cc)
    of_lines (inr a) (inr b) = a.0 ∙ sym b.0

-- ---- Keyed lines

flat_one : HasOneText (λ line p. IsFlatLine p line)
flat_one = one_as flat_line_is (pair_one (λ (p : FlatPair). p.key) (λ p. p.number) (SpellsWord false) 32 (λ key number. record { key = key; number = number }) (λ p. refl)
    (λ t n. IsDecimal 0 any_u64 n t) (word_lacking 32 false (omega arith)).is (one_word false) (one_decimal 0 any_u64))

flat_limit_one : HasOneText (λ line p. IsFlatLimit p line)
flat_limit_one = one_as flat_limit_is (pair_one (λ (p : FlatLimit). p.key) (λ p. p.limit) (SpellsWord false) 32 (λ key limit. record { key = key; limit = limit }) (λ p. refl)
    (λ t v. IsLimit 0 any_u64 v t) (word_lacking 32 false (omega arith)).is (one_word false) any_limit_startable.one)

nested_pairs_one : HasOneText (AreJoinedPairs (λ (p : NestedPair). p.key) PairText 32)
nested_pairs_one = joined_one (λ (p : NestedPair). p.key) (λ p. p.number) (SpellsWord false) (λ t n. IsDecimal 0 any_u64 n t) 61 32 (λ key number. record { key = key; number = number }) (λ p. refl)
    (word_only false 61 (λ h. h.2 refl)) (lacks_stops (λ t n. IsDecimal 0 any_u64 n t) 32 (decimal_lacking 32 0 any_u64 (omega arith)).is) (one_word false) (one_decimal 0 any_u64)

nested_one : HasOneText (λ line l. IsNestedLine l line)
nested_one = one_as nested_line_is (one_as (nested_is (λ (l : NestedLine). l.key) (λ l. l.pairs) (λ (p : NestedPair). p.key) (SpellsWord false) PairText 32)
    (keyed_one (λ (l : NestedLine). l.key) (λ l. l.pairs) (Some []) 32 (SpellsWord false) (AreJoinedPairs (λ (p : NestedPair). p.key) PairText 32) (λ key pairs. record { key = key; pairs = pairs }) (λ l. refl)
    (word_lacking 32 false (omega arith)).is (one_word false) nested_pairs_one))

-- ---- The lines of weights

same_back : (front a b : List ℕ) → front ++ a ≡ front ++ b → a ≡ b
same_back [] a b e = e
same_back (x ∷ front) a b e = same_back front a b (tails x x (front ++ a) (front ++ b) e)

default_one : (most m n : ℕ) (line : List ℕ) → IsDefaultLine most m line → IsDefaultLine most n line → m ≡ n
default_one most m n line h k =
    let same : h.0 ≡ k.0 = same_back (codes "default ") h.0 k.0 (sym h.1 ∙ k.1) in
    one_decimal 1 most k.0 m n (rw same at h.2) k.2

weight_one : (most : ℕ) (kernel : Bool) → HasOneText (λ line w. IsWeightLine most kernel w line)
weight_one most kernel = one_as (weight_is most kernel) (mapped_text_one weight_line (concat_one (weight_apart most kernel) (device_name_startable kernel).one
    (concat_one (fixed_apart (32 ∷ []) (NumberText 1 most)) (fixed_one (32 ∷ [])) (one_decimal 1 most))))

weights_one : (most : ℕ) (kernel : Bool) (v w : Value) (lines : List (List ℕ)) → AreWeightLines most kernel v lines → AreWeightLines most kernel w lines → v ≡ w
weights_one most kernel v w lines h k =
    let same : h.first ∷ h.others ≡ k.first ∷ k.others = sym h.lines_are ∙ k.lines_are in
    let first : h.first ≡ k.first = cc in
    let others : h.others ≡ k.others = cc in
    let default : h.default ≡ k.default = default_one most h.default k.default k.first (rw first at h.first_is) k.first_is in
    let devices : h.devices ≡ k.devices = values_one (IsWeightLine most kernel) (weight_one most kernel) h.devices k.devices k.others (rw others at h.others_are) k.others_are in
    h.value ∙ ap (λ n. value.DeviceWeights n h.devices) default ∙ ap (λ ls. value.DeviceWeights k.default ls) devices ∙ sym k.value

-- ---- The line of a partition

reason_text_one : HasOneText IsReasonText
reason_text_one = concat_one (fixed_apart (text_of word.Opening) (λ t reason. IsReason reason t)) (fixed_one (text_of word.Opening)) reason_one

invalid_one : HasOneText IsInvalidText
invalid_one = concat_one (fixed_apart (text_of word.Invalid) (IsMaybe IsReasonText)) (fixed_one (text_of word.Invalid)) (maybe_one (first_filled (fixed_filled 32 _)) reason_text_one)

root_word_one : HasOneText IsRootWord
root_word_one = either_one (fixed_disjoint (text_of word.Root) (text_of word.Isolated) refl) (fixed_one (text_of word.Root)) (fixed_one (text_of word.Isolated))

root_one : HasOneText IsRootText
root_one = concat_one (lacking_apart (either_lacking (fixed_lacking 32 (text_of word.Root) refl) (fixed_lacking 32 (text_of word.Isolated) refl)) (maybe_begins_by (label_begins 32 _)))
    root_word_one (maybe_one (first_filled (fixed_filled 32 _)) invalid_one)

differ_disjoint : {V W : Type 0} (P : List ℕ → V → Type 0) (Q : List ℕ → W → Type 0) → Differ P Q → Disjoint P Q
differ_disjoint P Q differ [] v w h k = differ.0 v h
differ_disjoint P Q differ (b ∷ more) v w h k = differ.1 b more more v w h k

partition_one : HasOneText (λ line (x : Role × Bool × Option (List ℕ)). IsPartition (x.0) (x.1) (x.2) line)
partition_one = one_as partition_is (mapped_text_one partition_parts (either_one (differ_disjoint (IsFixed (text_of word.Member)) IsRootText member_differs) (fixed_one (text_of word.Member)) root_one))

-- ---- The lines of pressure

averages_startable : Startable AveragesText
averages_startable = four_startable IsAverage IsAverage IsAverage IsAnyNumber (codes "avg10=") (codes "avg60=") (codes "avg300=") (codes "total=")
    (keyword_bytes word.Avg10).1 (keyword_bytes word.Avg60).1 (keyword_bytes word.Avg300).1 (keyword_bytes word.Total).1
    (hundredths_lacking 32 Read 99999 (omega arith)) (hundredths_lacking 32 Read 99999 (omega arith)) (hundredths_lacking 32 Read 99999 (omega arith))
    (hundredths_startable 99999) (hundredths_startable 99999) (hundredths_startable 99999) (decimal_startable (omega arith))

averages_one : HasOneText (λ text a. AreAverages a text)
averages_one text a b h k =
    let same = averages_startable.one text (values_of a) (values_of b) (averages_from text a h) (averages_from text b k) in
    ap (λ (v : AveragesValues). line_averages ((tt, v), tt)) same

pressure_line_one : (name : List ℕ) → HasOneText (λ line a. IsPressureLine name a line)
pressure_line_one name line a b h k =
    let same : h.0 ≡ k.0 = same_back name h.0 k.0 (sym h.1 ∙ k.1) in
    averages_one k.0 a b (rw same at h.2) k.2

-- A line of `some` is none of `full`.
some_not_full : (line : List ℕ) (a b : Averages) → IsPressureLine (codes "some") a line → IsPressureLine (codes "full") b line → ⊥
some_not_full line a b h k =
    let e : codes "some" ++ h.0 ≡ codes "full" ++ k.0 = sym h.1 ∙ k.1 in
    omega (arith, heads 115 102 (codes "ome" ++ h.0) (codes "ull" ++ k.0) e)

not_two : (lines : List (List ℕ)) (a b c : List ℕ) → lines ≡ a ∷ [] → lines ≡ b ∷ c ∷ [] → ⊥
not_two lines a b c e f = let g : a ∷ [] ≡ b ∷ c ∷ [] = sym e ∙ f in cc

pressure_one : (a b c d : Option Averages) (lines : List (List ℕ)) → ArePressureLines a b lines → ArePressureLines c d lines → (a ≡ c) × (b ≡ d)
pressure_one None None c d lines h k = absurd h
pressure_one a b None None lines h k = absurd k
pressure_one (Some a) None (Some c) None lines h k =
    let same : h.0 ≡ k.0 = only_kept h.0 k.0 (sym h.1 ∙ k.1) in
    (ap Some (pressure_line_one (codes "some") k.0 a c (rw same at h.2) k.2), refl)
pressure_one None (Some b) None (Some d) lines h k =
    let same : h.0 ≡ k.0 = only_kept h.0 k.0 (sym h.1 ∙ k.1) in
    (refl, ap Some (pressure_line_one (codes "full") k.0 b d (rw same at h.2) k.2))
pressure_one (Some a) None None (Some d) lines h k =
    let same : h.0 ≡ k.0 = only_kept h.0 k.0 (sym h.1 ∙ k.1) in
    absurd (some_not_full k.0 a d (rw same at h.2) k.2)
pressure_one None (Some b) (Some c) None lines h k =
    let same : k.0 ≡ h.0 = only_kept k.0 h.0 (sym k.1 ∙ h.1) in
    absurd (some_not_full h.0 c b (rw same at k.2) h.2)
pressure_one (Some a) None (Some c) (Some d) lines h k = absurd (not_two lines h.0 k.0 k.1 h.1 k.2)
pressure_one None (Some b) (Some c) (Some d) lines h k = absurd (not_two lines h.0 k.0 k.1 h.1 k.2)
pressure_one (Some a) (Some b) (Some c) None lines h k = absurd (not_two lines k.0 h.0 h.1 k.1 h.2)
pressure_one (Some a) (Some b) None (Some d) lines h k = absurd (not_two lines k.0 h.0 h.1 k.1 h.2)
pressure_one (Some a) (Some b) (Some c) (Some d) lines h k =
    let same : h.0 ∷ h.1 ∷ [] ≡ k.0 ∷ k.1 ∷ [] = sym h.2 ∙ k.2 in
    let first : h.0 ≡ k.0 = cc in
    let second : h.1 ≡ k.1 = cc in
    (ap Some (pressure_line_one (codes "some") k.0 a c (rw first at h.3) k.3), ap Some (pressure_line_one (codes "full") k.1 b d (rw second at h.4) k.4))

-- ---- Files

made_one : {X : Type 0} (P : X → List (List ℕ) → Type 0) (make : X → Value) →
    ((x y : X) (lines : List (List ℕ)) → P x lines → P y lines → x ≡ y) → (v w : Value) (lines : List (List ℕ)) →
    IsMadeOf P make v lines → IsMadeOf P make w lines → v ≡ w
made_one P make one v w lines h k = h.value ∙ ap make (one h.x k.x lines h.spelled k.spelled) ∙ sym k.value

-- The same lines spell one value.
lines_value : (kind : ReadForm) (v w : Value) (lines : List (List ℕ)) → ReadLines kind v lines → ReadLines kind w lines → v ≡ w
lines_value (form.Number lo hi) v w lines h k = one_line (IsDecimal lo hi) value.Number (one_decimal lo hi) v w lines h k
lines_value (form.Signed lo hi) v w lines h k = one_line (IsSigned lo hi) value.Signed (signed_one lo hi) v w lines h k
lines_value form.Limit v w lines h k = one_line (IsLimit 0 any_u64) value.Limit (limit_startable 0 any_u64 (omega arith)).one v w lines h k
lines_value form.Mode v w lines h k = one_line IsMode value.Mode mode_one v w lines h k
lines_value form.Class v w lines h k = one_line IsClass value.Class class_one v w lines h k
lines_value form.CpuMax v w lines h k = one_line IsCpuMax (λ (x : Limit × ℕ). value.CpuMax (x.0) (x.1)) cpu_max_one v w lines h k
lines_value form.Clamp v w lines h k = one_line (IsClamp Read) value.Clamp clamp_one v w lines h k
lines_value (form.Numbers lo hi) v w lines h k = many_lines (IsDecimal lo hi) value.Numbers (one_decimal lo hi) v w lines h k
lines_value form.Words v w lines h k = made_one AreWords value.Words words_one v w lines h k
lines_value form.Flat v w lines h k = made_one AreFlatLines value.Flat (λ x y ls a b. values_one IsFlatLine flat_one x y ls a.each b.each) v w lines h k
lines_value form.FlatLimits v w lines h k = made_one AreFlatLimits value.FlatLimits (λ x y ls a b. values_one IsFlatLimit flat_limit_one x y ls a.each b.each) v w lines h k
lines_value (form.DeviceStats kernel) v w lines h k = many_lines (IsStatLine kernel) value.DeviceStats (stat_startable kernel).one v w lines h k
lines_value (form.DeviceLimits kernel) v w lines h k = many_lines (IsLimitLine kernel) value.DeviceLimits (limits_startable kernel).one v w lines h k
lines_value (form.DeviceWeights most kernel) v w lines h k = weights_one most kernel v w lines h k
lines_value (form.DeviceTargets kernel) v w lines h k = many_lines (IsTargetLine kernel) value.DeviceTargets (target_startable kernel).one v w lines h k
lines_value form.DeviceParams v w lines h k = many_lines IsParamLine value.DeviceParams params_startable.one v w lines h k
lines_value (form.Set most) v w lines h k = one_line (IsStrictList most) value.Set (set_one most) v w lines h k
lines_value form.Partition v w lines h k = one_line (λ (x : Role × Bool × Option (List ℕ)) line. IsPartition (x.0) (x.1) (x.2) line) (λ x. value.Partition (x.0) (x.1) (x.2)) partition_one v w lines h k
lines_value form.Pressure v w lines h k = made_one (λ (x : Option Averages × Option Averages) ls. ArePressureLines (x.0) (x.1) ls) (λ x. value.Pressure (x.0) (x.1))
    (λ x y ls a b. both_same (pressure_one (x.0) (x.1) (y.0) (y.1) ls a b)) v w lines h k
lines_value form.Nested v w lines h k = made_one AreNestedLines value.Nested (λ x y ls a b. values_one IsNestedLine nested_one x y ls a.each b.each) v w lines h k
lines_value form.NodeStats v w lines h k = one_line IsNodeStats (λ (x : ℕ × List NestedPair). value.NodeStats (x.0) (x.1)) node_stats_one v w lines h k
lines_value form.Raw v w lines h k = many_lines IsRaw value.Raw one_raw v w lines h k

-- A text has one value.
pub one_value : OneValue
one_value kind text v w h k =
    let same : h.lines ≡ k.lines = lines_one h.lines k.lines (plain_lines kind v h.lines h.spelled) (plain_lines kind w k.lines k.spelled) (sym h.text_is ∙ k.text_is) in
    lines_value kind v w k.lines (rw same at h.spelled) k.spelled

pub one_value_of_name : OneValueOfName
one_value_of_name profile name text v w h k =
    let same : h.kind ≡ k.kind = some_one h.kind k.kind (sym h.kind_is ∙ k.kind_is) in
    one_value k.kind text v w (rw same at h.spelled) k.spelled

-- The canonical text's value.
pub read_back : ReadBack
read_back kind v w good fits = (
  λ h. one_value kind (print_of v) w v h (print_fits kind v good fits),
  λ e. rw e (print_fits kind v good fits),
)

pub read_back_of_name : ReadBackOfName
read_back_of_name profile name kind v w is fits = (
  λ h. (let same : h.kind ≡ kind = some_one h.kind kind (sym h.kind_is ∙ is) in
      (read_back kind v w (read_form_ok profile name kind is) fits).0 (rw same at h.spelled)),
  λ e. record { kind = kind; kind_is = is; spelled = (read_back kind v w (read_form_ok profile name kind is) fits).1 e },
)

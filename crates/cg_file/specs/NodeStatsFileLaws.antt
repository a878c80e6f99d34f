-- What holds of the tokens over files of a total and pairs.
use Rattle.std.proofs.Common.{ℕ, ◌+◌, ◌≤◌, ◌↔◌, List, [], ◌∷◌, ◌++◌, codes, length, refl, sym, ◌∙◌, ap, append_assoc, subst, arith, false}
use Rattle.std.specs.List.{sum_by}
use Rattle.cg_text.specs.Keyword.{text_of}
use Rattle.cg_text.specs.Token.{HasOneText}
use Rattle.cg_text.specs.declared.keyword.Keyword.TheVariants as word
use Rattle.cg_join.specs.ApartLaws.{fixed_apart, lacking_apart}
use Rattle.cg_join.specs.BeginsLaws.{pairs_begin}
use Rattle.cg_join.specs.Composites.{IsAnyNumber, IsLabelled}
use Rattle.cg_join.specs.CutLaws.{label_is}
use Rattle.cg_join.specs.LackingLaws.{decimal_lacking}
use Rattle.cg_join.specs.Line.{LacksByte}
use Rattle.cg_join.specs.OneTextLaws.{concat_one, fixed_one, mapped_text_one, one_as}
use Rattle.cg_join.specs.Pairs.{pair_size}
use Rattle.cg_join.specs.PairsLaws.{led_after_one, pair_one, pair_stops}
use Rattle.cg_join.specs.Repeat.{items_size}
use Rattle.cg_join.specs.Spelling.{Apart, IsConcat, IsMappedText}
use Rattle.cg_join.specs.StartLaws.{lacks_stops, one_decimal}
use Rattle.cg_join.specs.WordStartLaws.{SpellsWord, one_word, word_only}
use Rattle.cg_join.specs.declared.pairs.Stage.TheVariants.{Before}
use Rattle.cg_value.specs.Files.{ReadLines}
use Rattle.cg_value.specs.Held.{held_of_key}
use Rattle.cg_value.specs.RawLinesLaws.{raw_lines}
use Rattle.cg_value.specs.ReadLine.{IsNestedPair, IsNodeStats}
use Rattle.cg_value.specs.declared.kind.ReadForm.TheVariants.{NodeStats as NodeStatsForm}
use Rattle.cg_value.specs.declared.value.NestedPair.{NestedPair}
use Rattle.cg_value.specs.declared.value.Value.{Value}
use Rattle.cg_value.specs.declared.value.Value.TheVariants.{NodeStats}
use Rattle.cg_file.specs.Kinds.{held_of_whole}
use Rattle.cg_file.specs.LineHeldLaws.{items_within}
use Rattle.cg_file.specs.ManyFileLaws.{raw_lacks}
use Rattle.cg_file.specs.NestedFileLaws.{PairText, PairsText, led_from, led_to, pair_is}

-- What a token of a line gives.
abbrev pub NodesValue : Type 0
NodesValue = Unit {0} × (ℕ × List NestedPair)

-- The text of a line: `total=`, a number, and pairs.
abbrev pub IsNodesText : List ℕ → NodesValue → Type 0
IsNodesText text v = IsLabelled word.NodeTotal (IsConcat IsAnyNumber PairsText) text v

abbrev pub nodes_of : NodesValue → ℕ × List NestedPair
nodes_of v = v.1

-- How a line is turned into a file's value.
abbrev pub node_stats_value : NodesValue × Unit {0} → Value
node_stats_value v = NodeStats (v.0.1.0) (v.0.1.1)

nodes_to : (text : List ℕ) (v : NodesValue) → IsNodesText text v → IsNodeStats v.1 text
nodes_to text v h =
    let k = (label_is (text_of word.NodeTotal) (IsConcat IsAnyNumber PairsText) text v).0 h in
    let both = k.2 in
    record {
      total = both.front;
      nodes = both.back;
      line_is = k.1 ∙ ap (λ t. codes "total=" ++ t) both.whole ∙ sym (append_assoc (codes "total=") both.front both.back);
      total_is = both.begins;
      nodes_are = led_to IsNestedPair PairText pair_is both.back (v.1.1) both.ends.0;
      distinct = both.ends.1;
    }

nodes_from : (text : List ℕ) (x : ℕ × List NestedPair) → IsNodeStats x text → IsNodesText text (tt, x)
nodes_from text x h = (label_is (text_of word.NodeTotal) (IsConcat IsAnyNumber PairsText) text (tt, x)).1 (
  h.total ++ h.nodes,
  h.line_is ∙ append_assoc (codes "total=") h.total h.nodes,
  record { front = h.total; back = h.nodes; whole = refl; begins = h.total_is; ends = (led_from IsNestedPair PairText pair_is h.nodes (x.1) h.nodes_are, h.distinct) },
)

-- The text of a line, turned into the total and the pairs.
pub nodes_are : (text : List ℕ) (x : ℕ × List NestedPair) → IsMappedText IsNodesText nodes_of text x ↔ IsNodeStats x text
nodes_are text x = (
  λ h. subst (λ (y : ℕ × List NestedPair). IsNodeStats y text) h.2 (nodes_to text h.0 h.1),
  λ h. ((tt, x), nodes_from text x h, refl),
)

-- A number has no space, with which pairs begin.
pub nodes_apart : Apart IsAnyNumber PairsText
nodes_apart = lacking_apart (decimal_lacking 32 0 18446744073709551615 (omega arith)) (pairs_begin (λ (q : NestedPair). q.key) PairText 32)

pub nodes_lack : LacksByte IsNodesText 10
nodes_lack front more v h =
    let text = front ++ 10 ∷ more in
    let line : ReadLines NodeStatsForm (NodeStats (v.1.0) (v.1.1)) (text ∷ []) = record { x = v.1; line = text; value = refl; lines_are = refl; spelled = nodes_to text v h } in
    raw_lacks front more text (refl, (raw_lines NodeStatsForm (NodeStats (v.1.0) (v.1.1)) (text ∷ []) line).0)

-- ---- A line has one value

pairs_one : HasOneText PairsText
pairs_one text v w h k =
    let key : NestedPair → List ℕ = λ p. p.key in
    let number : NestedPair → ℕ = λ p. p.number in
    let word_lacks = word_only false 61 (λ h. h.2 refl) in
    let stops = pair_stops key number 61 (SpellsWord false) IsAnyNumber 32 word_lacks (lacks_stops IsAnyNumber 32 (decimal_lacking 32 0 18446744073709551615 (omega arith)).is) in
    let one = pair_one key number (SpellsWord false) 61 (λ key number. record { key = key; number = number }) (λ p. refl) IsAnyNumber word_lacks (one_word false) (one_decimal 0 18446744073709551615) in
    led_after_one 32 Before [] PairText PairText stops stops one one text v w (v, refl, h.0) (w, refl, k.0)

pub node_stats_one : HasOneText (λ line x. IsNodeStats x line)
node_stats_one = one_as nodes_are (mapped_text_one nodes_of (concat_one (fixed_apart (text_of word.NodeTotal) (IsConcat IsAnyNumber PairsText)) (fixed_one (text_of word.NodeTotal))
    (concat_one nodes_apart (one_decimal 0 18446744073709551615) pairs_one)))

-- ---- How much is held

node_within : (p : NestedPair) → 1 + pair_size (λ (q : NestedPair). q.key) (λ q. q.number) length (λ _. 0) p ≤ held_of_key p.key
node_within p = omega arith

one_more : (n m : ℕ) → n ≤ m → 0 + n + 0 ≤ 1 + m
one_more n m h = omega (arith, h)

-- The pairs of the only line, and no more.
pub nodes_held : (v : NodesValue × Unit {0}) → 0 + items_size (pair_size (λ (q : NestedPair). q.key) (λ q. q.number) length (λ _. 0)) (v.0.1.1) + 0 ≤ held_of_whole (node_stats_value v)
nodes_held v = one_more (items_size (pair_size (λ (q : NestedPair). q.key) (λ q. q.number) length (λ _. 0)) (v.0.1.1)) (sum_by (λ (p : NestedPair). held_of_key p.key) (v.0.1.1))
    (items_within (pair_size (λ (q : NestedPair). q.key) (λ q. q.number) length (λ _. 0)) (λ p. held_of_key p.key) node_within (v.0.1.1))

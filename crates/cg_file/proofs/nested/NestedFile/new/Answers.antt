use Rattle.std.proofs.Common.{ℕ, ◌↔◌, Some, List, [], false, arith}
use Rattle.cg_text.specs.Decimal.{IsDecimal}
use Rattle.cg_join.specs.JoinedPairs.{AreJoinedPairs}
use Rattle.cg_join.specs.JoinedPairsLaws.{joined_lacks, nested_is}
use Rattle.cg_join.specs.Keyed.{IsKeyed}
use Rattle.cg_join.specs.KeyedLaws.{given_spells, keyed_spells}
use Rattle.cg_join.specs.Pairs.{IsPairText}
use Rattle.cg_join.specs.Spelling.{mapped_spells, spells_as}
use Rattle.cg_join.specs.StartLaws.{decimal_only}
use Rattle.cg_join.specs.WordStartLaws.{SpellsWord, word_only}
use Rattle.cg_value.specs.ReadLine.{IsNestedLine}
use Rattle.cg_value.specs.declared.value.NestedLine.{NestedLine}
use Rattle.cg_value.specs.declared.value.NestedPair.{NestedPair}
use Rattle.cg_file.specs.NestedFileLaws.{LineText, PairText, nested_file_is, nested_line_is, nested_value}
use Rattle.cg_file.proofs.nested.NestedFile.new.Goals as goal

pub new-requires-clause-keys_delimiter : goal.new-requires-clause-keys_delimiter
new-requires-clause-keys_delimiter c = word_only c.new-keys.result.controller 32 (λ h. absurd (omega (arith, h.0)))

pub new-requires-clause-keys_end : goal.new-requires-clause-keys_end
new-requires-clause-keys_end c = word_only c.new-keys.result.controller 10 (λ h. absurd (omega (arith, h.0)))

pub new-requires-clause-values_end : goal.new-requires-clause-values_end
new-requires-clause-values_end c =
    let word : NestedPair → List ℕ = λ p. p.key in
    let number : NestedPair → ℕ = λ p. p.number in
    let start = c.nested_start-pairs.result in
    let delimiter = c.nested_start-pairs.ensures.delimiter in
    let separator = c.nested_start-pairs.ensures.separator in
    joined_lacks word number (SpellsWord start.words.controller) (λ t n. IsDecimal start.values.lo start.values.hi n t) start.delimiter start.separator 10 (λ e. omega (arith, e, delimiter)) (λ e. omega (arith, e, separator))
    (word_only start.words.controller 10 (λ h. absurd (omega (arith, h.0)))) (decimal_only start.values.lo start.values.hi 10 (λ h k. absurd (omega (arith, h))))

pub returns-clause-spells : goal.returns-clause-spells
returns-clause-spells c =
    let key : NestedLine → List ℕ = λ l. l.key in
    let pairs : NestedLine → List NestedPair = λ l. l.pairs in
    let word : NestedPair → List ℕ = λ p. p.key in
    let number : NestedPair → ℕ = λ p. p.number in
    let given : List NestedLine → List NestedLine = λ ls. ls in
    let start = c.nested_start-pairs.result in
    let is = c.nested_start-pairs.ensures in
    let line : (text : List ℕ) (l : NestedLine) →
    IsKeyed key pairs (SpellsWord c.new-keys.result.controller)
    (AreJoinedPairs word (IsPairText word number (SpellsWord start.words.controller)
    (λ t n. IsDecimal start.values.lo start.values.hi n t) start.delimiter) start.separator) (Some []) 32 text l ↔
    LineText text l =
    rw (c.new-keys.ensures, is.words, is.low, is.high, is.separator, is.delimiter) (nested_is key pairs word (SpellsWord false) PairText 32) in
    let each : (text : List ℕ) (l : NestedLine) →
    IsKeyed key pairs (SpellsWord c.new-keys.result.controller)
    (AreJoinedPairs word (IsPairText word number (SpellsWord start.words.controller)
    (λ t n. IsDecimal start.values.lo start.values.hi n t) start.delimiter) start.separator) (Some []) 32 text l ↔
    IsNestedLine l text =
    λ text l. (λ h. (nested_line_is text l).0 ((line text l).0 h), λ h. (line text l).1 ((nested_line_is text l).1 h)) in
    let whole = spells_as (mapped_spells nested_value (given_spells (keyed_spells key given 10 each c.new.ensures.spells)) c.new-2.ensures.spells) nested_file_is in
    record { is = whole.is }

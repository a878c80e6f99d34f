use Rattle.std.proofs.Common.{ℕ, ◌↔◌, List, arith, refl}
use Rattle.cg_text.specs.Decimal.{IsDecimal}
use Rattle.cg_join.specs.Pairs.{ArePairs, IsPairText}
use Rattle.cg_join.specs.Spelling.{spells_as}
use Rattle.cg_join.specs.StartLaws.{decimal_only, lacks_stops}
use Rattle.cg_join.specs.WordStartLaws.{SpellsWord, word_only}
use Rattle.cg_value.specs.declared.value.NestedPair.{NestedPair}
use Rattle.cg_file.specs.NestedFileLaws.{PairsText}
use Rattle.cg_file.proofs.node_stats.NodePairs.new.Goals as goal

pub new-requires-clause-lacks : goal.new-requires-clause-lacks
new-requires-clause-lacks c = word_only c.new-words.result.controller 61 (λ h. h.2 refl)

pub new-requires-clause-stops : goal.new-requires-clause-stops
new-requires-clause-stops c =
    let lo = c.new-numbers.result.lo in
    let hi = c.new-numbers.result.hi in
    lacks_stops (λ text n. IsDecimal lo hi n text) 32 (decimal_only lo hi 32 (λ h k. absurd (omega (arith, h))))

pub returns-clause-spells : goal.returns-clause-spells
returns-clause-spells c =
    let key : NestedPair → List ℕ = λ p. p.key in
    let number : NestedPair → ℕ = λ p. p.number in
    let numbers = c.new-numbers.result in
    let pairs : (text : List ℕ) (ps : List NestedPair) →
    ArePairs key (IsPairText key number (SpellsWord c.new-words.result.controller) (λ t n. IsDecimal numbers.lo numbers.hi n t) 61) 32 text ps ↔ PairsText text ps =
    rw (c.new-words.ensures, c.new-numbers.ensures.low, c.new-numbers.ensures.high) (λ text ps. (λ h. h, λ h. h)) in
    let whole = spells_as c.new.ensures.spells pairs in
    record { is = whole.is }

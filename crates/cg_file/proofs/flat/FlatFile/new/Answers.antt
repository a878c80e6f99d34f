use Rattle.std.proofs.Common.{ℕ, ◌↔◌, None, List, false, arith}
use Rattle.cg_text.specs.Decimal.{IsDecimal}
use Rattle.cg_join.specs.Keyed.{IsKeyed}
use Rattle.cg_join.specs.KeyedLaws.{flat_is, given_spells, keyed_spells}
use Rattle.cg_join.specs.Spelling.{mapped_spells, spells_as}
use Rattle.cg_join.specs.StartLaws.{decimal_only}
use Rattle.cg_join.specs.WordStartLaws.{SpellsWord, word_only}
use Rattle.cg_value.specs.ReadLine.{IsFlatLine}
use Rattle.cg_value.specs.declared.flat.FlatPair.{FlatPair}
use Rattle.cg_file.specs.FlatFileLaws.{LineText, flat_file_is, flat_line_is, flat_value}
use Rattle.cg_file.proofs.flat.FlatFile.new.Goals as goal

pub new-requires-clause-keys_delimiter : goal.new-requires-clause-keys_delimiter
new-requires-clause-keys_delimiter c = word_only c.new-keys.result.controller 32 (λ h. absurd (omega (arith, h.0)))

pub new-requires-clause-keys_end : goal.new-requires-clause-keys_end
new-requires-clause-keys_end c = word_only c.new-keys.result.controller 10 (λ h. absurd (omega (arith, h.0)))

pub new-requires-clause-values_end : goal.new-requires-clause-values_end
new-requires-clause-values_end c = decimal_only c.new-numbers.result.lo c.new-numbers.result.hi 10 (λ h k. absurd (omega (arith, h)))

pub returns-clause-spells : goal.returns-clause-spells
returns-clause-spells c =
    let key : FlatPair → List ℕ = λ p. p.key in
    let number : FlatPair → ℕ = λ p. p.number in
    let given : List FlatPair → List FlatPair = λ ps. ps in
    let start = c.new-numbers.result in
    let line : (text : List ℕ) (p : FlatPair) → IsKeyed key number (SpellsWord c.new-keys.result.controller) (λ t n. IsDecimal start.lo start.hi n t) None 32 text p ↔ LineText text p =
    rw (c.new-keys.ensures, c.new-numbers.ensures.low, c.new-numbers.ensures.high) (flat_is key number (SpellsWord false) (λ t n. IsDecimal 0 18446744073709551615 n t) 32) in
    let each : (text : List ℕ) (p : FlatPair) → IsKeyed key number (SpellsWord c.new-keys.result.controller) (λ t n. IsDecimal start.lo start.hi n t) None 32 text p ↔ IsFlatLine p text =
    λ text p. (λ h. (flat_line_is text p).0 ((line text p).0 h), λ h. (line text p).1 ((flat_line_is text p).1 h)) in
    let whole = spells_as (mapped_spells flat_value (given_spells (keyed_spells key given 10 each c.new.ensures.spells)) c.new-2.ensures.spells) flat_file_is in
    record { is = whole.is }

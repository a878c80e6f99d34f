use Rattle.std.proofs.Common.{arith, refl}
use Rattle.cg_text.specs.Decimal.{IsDecimal}
use Rattle.cg_join.specs.StartLaws.{decimal_only, lacks_stops}
use Rattle.cg_join.specs.WordStartLaws.{word_only}
use Rattle.cg_file.proofs.nested.nested_start.Goals as goal

pub new-requires-clause-lacks : goal.new-requires-clause-lacks
new-requires-clause-lacks c = word_only c.new-words.result.controller 61 (λ h. h.2 refl)

pub new-requires-clause-stops : goal.new-requires-clause-stops
new-requires-clause-stops c =
    let lo = c.new-numbers.result.lo in
    let hi = c.new-numbers.result.hi in
    lacks_stops (λ text n. IsDecimal lo hi n text) 32 (decimal_only lo hi 32 (λ h k. absurd (omega (arith, h))))

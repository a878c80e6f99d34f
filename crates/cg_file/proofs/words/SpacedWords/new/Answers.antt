use Rattle.std.proofs.Common.{arith}
use Rattle.cg_join.specs.FilledLaws.{distinct_filled, filled_spelled, word_is_filled}
use Rattle.cg_join.specs.ReadyLaws.{or_ready_spells}
use Rattle.cg_join.specs.StartLaws.{lacks_stops}
use Rattle.cg_join.specs.WordStartLaws.{SpellsWord, word_only}
use Rattle.cg_file.proofs.words.SpacedWords.new.Goals as goal

pub new-words-requires-clause-stops : goal.new-words-requires-clause-stops
new-words-requires-clause-stops c = lacks_stops (SpellsWord c.new.result.controller) 32 (word_only c.new.result.controller 32 (λ h. absurd (omega (arith, h.0))))

pub new-requires-3-clause-filled : goal.new-requires-3-clause-filled
new-requires-3-clause-filled c = filled_spelled c.new-words.ensures.spells (distinct_filled 32 (word_is_filled c.new.result.controller))

pub returns-clause-spells : goal.returns-clause-spells
returns-clause-spells c =
    let whole = or_ready_spells c.new-2.result c.new-words.ensures.spells c.new-3.ensures.spells in
    let spells = rw (c.new.ensures, c.new-2.ensures) at whole in
    record { is = spells.is }

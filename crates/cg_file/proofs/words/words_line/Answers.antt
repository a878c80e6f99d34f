use Rattle.std.proofs.Common.{true, arith}
use Rattle.cg_join.specs.ApartLaws.{lacking_apart}
use Rattle.cg_join.specs.BeginsLaws.{fixed_begins}
use Rattle.cg_join.specs.FilledLaws.{fixed_filled, filled_spelled, second_filled}
use Rattle.cg_join.specs.LackingLaws.{distinct_lacking, or_ready_lacking, word_lacking}
use Rattle.cg_join.specs.ReadyLaws.{or_ready_spells}
use Rattle.cg_join.specs.Spelling.{apart_spells, sequence_spells}
use Rattle.cg_file.proofs.words.words_line.Goals as goal

pub new-line-requires : goal.new-line-requires
new-line-requires c =
    apart_spells c.new.ensures.spells c.new-2.ensures.spells
    (lacking_apart (or_ready_lacking (distinct_lacking 32 (λ e. omega (arith, e)) (word_lacking 10 true (omega arith)))) (fixed_begins 10 _))

pub new-requires-4-clause-filled : goal.new-requires-4-clause-filled
new-requires-4-clause-filled c =
    let line = sequence_spells c.new.ensures.spells c.new-2.ensures.spells c.new-line.ensures.spells in
    filled_spelled line (second_filled (fixed_filled 10 _))

pub returns-clause-spells : goal.returns-clause-spells
returns-clause-spells c =
    let line = sequence_spells c.new.ensures.spells c.new-2.ensures.spells c.new-line.ensures.spells in
    let whole = or_ready_spells (c.new-3.result, tt) line c.new-4.ensures.spells in
    rw c.new-3.ensures at whole

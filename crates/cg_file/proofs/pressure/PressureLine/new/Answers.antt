use Rattle.cg_join.specs.CutLaws.{label_spells}
use Rattle.cg_join.specs.LineLaws.{lacks_spelled, line_as}
use Rattle.cg_join.specs.Spelling.{spells_as}
use Rattle.cg_file.specs.PressureFileLaws.{line_averages, line_is, word_lacks}
use Rattle.cg_file.proofs.pressure.PressureLine.new.Goals as goal

pub one_line-requires : goal.one_line-requires
one_line-requires c = lacks_spelled _ _ 10 (label_spells c.averages.ensures.spells c.labelled.ensures.spells) (word_lacks c.args.word).is

pub returns-clause-spells : goal.returns-clause-spells
returns-clause-spells c =
    let token = label_spells c.averages.ensures.spells c.labelled.ensures.spells in
    let whole = spells_as (spells_as c.one_line.ensures.spells (line_as line_averages token.is)) (line_is c.args.word) in
    record { is = whole.is }

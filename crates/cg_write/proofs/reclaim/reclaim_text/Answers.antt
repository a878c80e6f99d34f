use Rattle.cg_join.specs.CutLaws.{label_spells}
use Rattle.cg_join.specs.FilledLaws.{filled_spelled, first_filled, fixed_filled}
use Rattle.cg_join.specs.MaybeLaws.{maybe_spells}
use Rattle.cg_join.specs.Spelling.{apart_spells, sequence_spells}
use Rattle.cg_write.specs.ReclaimLaws.{reclaim_apart}
use Rattle.cg_write.proofs.reclaim.reclaim_text.Goals as goal

pub new-requires-clause-filled : goal.new-requires-clause-filled
new-requires-clause-filled c = filled_spelled c.labelled-swappiness.ensures.spells (first_filled (fixed_filled 32 _))

pub new-requires-2 : goal.new-requires-2
new-requires-2 c =
    let swappiness = maybe_spells (label_spells c.conditional.ensures.spells c.labelled-swappiness.ensures.spells) c.new.ensures.spells in
    apart_spells c.new-size.ensures.spells swappiness (reclaim_apart c.args.max)

pub returns-clause-spells : goal.returns-clause-spells
returns-clause-spells c =
    let swappiness = maybe_spells (label_spells c.conditional.ensures.spells c.labelled-swappiness.ensures.spells) c.new.ensures.spells in
    sequence_spells c.new-size.ensures.spells swappiness c.new-2.ensures.spells

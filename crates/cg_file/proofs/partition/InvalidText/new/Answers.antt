use Rattle.cg_join.specs.CutLaws.{label_spells}
use Rattle.cg_join.specs.FilledLaws.{filled_spelled, first_filled, fixed_filled}
use Rattle.cg_join.specs.MaybeLaws.{maybe_spells}
use Rattle.cg_file.proofs.partition.InvalidText.new.Goals as goal

pub returns-clause-spells : goal.returns-clause-spells
returns-clause-spells c =
    let k = maybe_spells (label_spells c.new.ensures.spells c.labelled.ensures.spells) c.new-2.ensures.spells in
    record { is = k.is }

pub new-requires-2-clause-filled : goal.new-requires-2-clause-filled
new-requires-2-clause-filled c = filled_spelled c.labelled.ensures.spells (first_filled (fixed_filled 32 _))

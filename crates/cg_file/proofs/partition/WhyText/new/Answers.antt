use Rattle.cg_join.specs.CutLaws.{label_spells}
use Rattle.cg_join.specs.MaybeLaws.{maybe_spells}
use Rattle.cg_file.proofs.partition.WhyText.new.Goals as goal

pub returns-clause-spells : goal.returns-clause-spells
returns-clause-spells c =
    let k = maybe_spells (label_spells c.new.ensures.spells c.labelled.ensures.spells) c.new-2.ensures.spells in
    record { is = k.is }

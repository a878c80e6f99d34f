use Rattle.cg_join.specs.CutLaws.{label_spells}
use Rattle.cg_join.specs.Spelling.{apart_spells, sequence_spells}
use Rattle.cg_file.specs.NodeStatsFileLaws.{nodes_apart}
use Rattle.cg_file.proofs.node_stats.NodesText.new.Goals as goal

pub new-both-requires : goal.new-both-requires
new-both-requires c = apart_spells c.decimal_in-total.ensures.spells c.new-nodes.ensures.spells nodes_apart

pub returns-clause-spells : goal.returns-clause-spells
returns-clause-spells c =
    let both = sequence_spells c.decimal_in-total.ensures.spells c.new-nodes.ensures.spells c.new-both.ensures.spells in
    let whole = label_spells both c.labelled.ensures.spells in
    record { is = whole.is }

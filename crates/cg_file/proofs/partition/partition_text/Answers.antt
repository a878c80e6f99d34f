use Rattle.cg_join.specs.FilledLaws.{filled_spelled}
use Rattle.cg_file.specs.BranchLaws.{branch_spells}
use Rattle.cg_file.specs.OneOrBothLaws.{differ_spells}
use Rattle.cg_file.specs.PartitionFileLaws.{member_differs, root_filled}
use Rattle.cg_file.proofs.partition.partition_text.Goals as goal

pub new-requires-3-clause-filled : goal.new-requires-3-clause-filled
new-requires-3-clause-filled c = filled_spelled c.new-2.ensures.spells root_filled

pub new-requires-3-clause-differ : goal.new-requires-3-clause-differ
new-requires-3-clause-differ c = differ_spells c.new.ensures.spells c.new-2.ensures.spells member_differs

pub returns-clause-spells : goal.returns-clause-spells
returns-clause-spells c = branch_spells c.new.ensures.spells c.new-2.ensures.spells c.new-3.ensures.spells

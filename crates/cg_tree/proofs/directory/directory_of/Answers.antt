use Rattle.std.proofs.Common.{◌∙◌}
use Rattle.cg_tree.specs.DirectoryLaws.{front_is}
use Rattle.cg_tree.proofs.directory.directory_of.Goals as goal

pub returns : goal.returns
returns c = c.split_at.ensures.front ∙ front_is c.args.path.now c.name_of-name.result.now c.name_of-name.ensures

use Rattle.cg_index.specs.TreeLaws.{only_nearest}
use Rattle.cg_index.proofs.tree.nearest.Goals as goal

pub returns-clause-only : goal.returns-clause-only
returns-clause-only g c = λ keys of j h is. only_nearest of.sound of.tree c.args.key.now j c.key_of_walk.result c.key_of_walk.ensures.leads h is

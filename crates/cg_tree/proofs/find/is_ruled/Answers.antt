use Rattle.std.proofs.Common.{ap, sym, ◌∙◌}
use Rattle.cg_tree.specs.DirectoryLaws.{name_is}
use Rattle.cg_tree.specs.Ruled.{is_ruled}
use Rattle.cg_tree.proofs.find.is_ruled.Goals as goal

pub returns : goal.returns
returns c = c.is_ruled_name.ensures ∙ ap is_ruled (sym (name_is c.args.entry.now.path c.name.result.now c.name.ensures))

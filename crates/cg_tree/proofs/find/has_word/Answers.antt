use Rattle.std.proofs.Common.{is_some, ap, ◌∙◌}
use Rattle.cg_tree.specs.FindLaws.{found_is}
use Rattle.cg_tree.proofs.find.has_word.Goals as goal

pub returns-in-Words : goal.returns-in-Words
returns-in-Words c = rw c.in-Words.is (c.is_some.ensures ∙ ap is_some c.find.ensures ∙ found_is c.args.word.now c.in-Words.words)

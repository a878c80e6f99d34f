use Rattle.std.proofs.Common.{map, is_some, ap, ◌∙◌}
use Rattle.cg_index.specs.KeyedLaws.{some_place}
use Rattle.cg_index.proofs.keyed.KeyedBuilder.has.Goals as goal

pub returns : goal.returns
returns g c = c.is_some.ensures ∙ ap is_some c.find.ensures ∙ some_place c.args.key.now (map g.T.HasKey.key_of c.args.self.now.items)

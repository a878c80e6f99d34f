use Rattle.std.proofs.Common.{map, rules}
use Rattle.std.proofs.lemmas.List.Folds.{flat_map-map}
use Rattle.cg_index.specs.Cells.{item_of}
use Rattle.cg_print.specs.JoinedLaws.{led_is}
use Rattle.cg_print.proofs.canonical.append_spaced.Goals as goal

pub returns : goal.returns
returns g c = rw (← c.cells.ensures.items, ← led_is g.T.Canonical.printed (map item_of c.cells.result.now), flat_map-map) (search rules)

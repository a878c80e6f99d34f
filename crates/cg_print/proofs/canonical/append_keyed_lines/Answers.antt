use Rattle.std.proofs.Common.{rules}
use Rattle.std.proofs.lemmas.Simd.{map-map}
use Rattle.cg_index.specs.Cells.{item_of}
use Rattle.cg_print.proofs.canonical.append_keyed_lines.Goals as goal

pub returns : goal.returns
returns g c = rw (← c.cells.ensures.items, map-map g.T.Canonical.printed item_of c.cells.result.now) (search rules)

use Rattle.std.proofs.Common.{rules}
use Rattle.std.proofs.lemmas.Simd.{map-map}
use Rattle.cg_index.specs.Cells.{item_of}
use Rattle.cg_value.specs.Print.{print_flat_line}
use Rattle.cg_print.proofs.file.append_value.Goals as goal

pub returns-in-Flat : goal.returns-in-Flat
returns-in-Flat c = rw (c.in-Flat.is, ← c.pairs.ensures.pairs, map-map print_flat_line item_of c.pairs.result.now) (search rules)

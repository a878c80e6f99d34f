use Rattle.std.proofs.Common.{◌≡◌, map, take}
use Rattle.cg_index.specs.Cells.{item_of}
use Rattle.cg_value.proofs.copied.copy_all.Given as goal

abbrev pub invariant-loop-cell : goal.invariant-loop-cell
invariant-loop-cell g l = l.copies.items ≡ map item_of (take l.cell-index l.cells)

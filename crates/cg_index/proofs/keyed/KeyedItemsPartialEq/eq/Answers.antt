use Rattle.std.proofs.Common.{sym, ◌∙◌}
use Rattle.std.specs.Cmp.Derive.Mapped.{pointwise-map}
use Rattle.cg_index.specs.Cells.{item_of}
use Rattle.cg_index.proofs.keyed.KeyedItemsPartialEq.eq.Goals as goal

pub returns : goal.returns
returns g c =
    let eq = g.T.PartialEq.eq in
    rw (← c.cells.ensures.items, ← c.cells-2.ensures.items) (c.eq.ensures ∙ sym (pointwise-map item_of eq c.cells.result.now c.cells-2.result.now))

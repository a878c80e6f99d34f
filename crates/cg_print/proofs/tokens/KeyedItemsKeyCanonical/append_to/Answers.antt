use Rattle.std.proofs.Common.{map, rules}
use Rattle.cg_index.specs.Cells.{item_of}
use Rattle.cg_print.specs.JoinedLaws.{words_is, joined_mapped}
use Rattle.cg_print.proofs.tokens.KeyedItemsKeyCanonical.append_to.Goals as goal

pub returns : goal.returns
returns c =
    let cells = c.cells.result.now in
    rw (← c.cells.ensures.items, ← words_is (map item_of cells), joined_mapped 32 (λ w. w) item_of cells) (search rules)

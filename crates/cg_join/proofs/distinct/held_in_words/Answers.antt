use Rattle.std.proofs.Common.{◌≡◌}
use Rattle.cg_text.specs.Token.{saturated}
use Rattle.cg_index.specs.Cells.{item_of}
use Rattle.cg_join.specs.RepeatLaws.{saturated_item}
use Rattle.cg_text.specs.contracts.word.WordTextToken.TheImpl as word_text
use Rattle.cg_join.proofs.distinct.held_in_words.Goals as goal

pub loop-cell-preserved : goal.loop-cell-preserved
loop-cell-preserved c =
    let size : c.held_in.result ≡ saturated (word_text.ghosts.value_size c.cell-item.result.item) = c.held_in.ensures in
    saturated_item word_text.ghosts.value_size item_of c.args.cells.now c.loop-cell.cell-index c.cell-item.result c.args.places c.loop-cell.total c.held_in.result c.saturating_add-total.result
    c.loop-cell-test.true c.cell-item.is c.loop-cell.invariant size c.saturating_add-total.ensures

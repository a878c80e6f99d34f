use Rattle.std.proofs.Common.{◌≡◌, ◌+◌, map, take}
use Rattle.std.specs.List.{sum_by}
use Rattle.cg_text.specs.Token.{saturated}
use Rattle.cg_index.specs.Cells.{item_of}
use Rattle.cg_text.specs.contracts.word.WordTextToken.TheImpl as word_text
use Rattle.cg_join.proofs.distinct.held_in_words.Given as goal

abbrev pub invariant-loop-cell : goal.invariant-loop-cell
invariant-loop-cell l = l.total ≡ saturated (l.fn.places + sum_by word_text.ghosts.value_size (take l.cell-index (map item_of l.cells)))

use Rattle.std.proofs.Common.{◌≡◌, ◌+◌, map, take}
use Rattle.std.specs.List.{sum_by}
use Rattle.cg_text.specs.Token.{saturated}
use Rattle.cg_index.specs.Cells.{item_of}
use Rattle.cg_join.specs.Pairs.{pair_size}
use Rattle.cg_text.specs.contracts.word.WordTextToken.TheImpl as word_text
use Rattle.cg_join.proofs.pair_list.held_in_made.Given as goal

abbrev pub invariant-loop-cell : goal.invariant-loop-cell
invariant-loop-cell g l = l.total ≡ saturated (l.fn.places + sum_by (pair_size g.F.MakePair.key_of g.F.MakePair.value_of word_text.ghosts.value_size g.V.Token.value_size) (take l.cell-index (map item_of l.cells)))

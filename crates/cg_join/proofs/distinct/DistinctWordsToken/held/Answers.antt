use Rattle.std.proofs.Common.{◌+◌, map, refl}
use Rattle.cg_index.specs.Cells.{item_of}
use Rattle.cg_join.specs.Repeat.{items_size}
use Rattle.cg_join.specs.RepeatLaws.{saturated_size, saturated_sum}
use Rattle.cg_text.specs.contracts.word.WordTextToken.TheImpl as word_text
use Rattle.cg_join.proofs.distinct.DistinctWordsToken.held.Goals as goal

pub returns : goal.returns
returns c =
    let self = c.args.self.now in
    let f = word_text.ghosts.value_size in
    let word = word_text.ghosts.size self.current in
    let items = saturated_size f (map item_of c.cells.result.now) self.items.items c.places.result c.held_in_words.result c.cells.ensures.items c.places.ensures c.held_in_words.ensures in
    saturated_sum (items_size f self.items.items) word (items_size f self.items.items + word) c.held_in_words.result c.held.result c.saturating_add.result items c.held.ensures c.saturating_add.ensures refl

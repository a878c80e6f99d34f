use Rattle.std.proofs.Common.{◌+◌, map, refl}
use Rattle.cg_index.specs.Cells.{item_of}
use Rattle.cg_join.specs.Pairs.{pair_size}
use Rattle.cg_join.specs.Repeat.{items_size}
use Rattle.cg_join.specs.RepeatLaws.{saturated_size, saturated_sum}
use Rattle.cg_text.specs.contracts.word.WordTextToken.TheImpl as word_text
use Rattle.cg_join.proofs.pairs.DistinctPairsToken.held.Goals as goal

pub returns : goal.returns
returns g c =
    let self = c.args.self.now in
    let f = pair_size g.F.Pairing.word_of g.F.Pairing.value_of word_text.ghosts.value_size g.V.Token.value_size in
    let word = word_text.ghosts.size self.word in
    let value = g.V.Token.size self.value in
    let items = saturated_size f (map item_of c.cells.result.now) self.items.items c.places.result c.held_in_pairs.result c.cells.ensures.items c.places.ensures c.held_in_pairs.ensures in
    let hand = saturated_sum word value (word + value) c.held.result c.held-2.result c.saturating_add-at_hand.result c.held.ensures c.held-2.ensures c.saturating_add-at_hand.ensures refl in
    saturated_sum (items_size f self.items.items) (word + value) (items_size f self.items.items + (word + value)) c.held_in_pairs.result c.saturating_add-at_hand.result c.saturating_add.result
    items hand c.saturating_add.ensures refl

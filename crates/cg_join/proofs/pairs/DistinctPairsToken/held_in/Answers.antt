use Rattle.std.proofs.Common.{map}
use Rattle.cg_index.specs.Cells.{item_of}
use Rattle.cg_join.specs.Pairs.{pair_size}
use Rattle.cg_join.specs.RepeatLaws.{saturated_size}
use Rattle.cg_text.specs.contracts.word.WordTextToken.TheImpl as word_text
use Rattle.cg_join.proofs.pairs.DistinctPairsToken.held_in.Goals as goal

pub returns : goal.returns
returns g c =
    let f = pair_size g.F.Pairing.word_of g.F.Pairing.value_of word_text.ghosts.value_size g.V.Token.value_size in
    saturated_size f (map item_of c.cells.result.now) c.args.value.now c.places.result c.held_in_pairs.result c.cells.ensures.items c.places.ensures c.held_in_pairs.ensures

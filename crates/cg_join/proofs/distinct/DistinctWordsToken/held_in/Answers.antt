use Rattle.std.proofs.Common.{◌-◌, map, ap, ◌∙◌}
use Rattle.cg_index.specs.Cells.{item_of}
use Rattle.cg_join.specs.RepeatLaws.{saturated_out_size}
use Rattle.cg_text.specs.contracts.word.WordTextToken.TheImpl as word_text
use Rattle.cg_join.proofs.distinct.DistinctWordsToken.held_in.Goals as goal

pub returns : goal.returns
returns c =
    saturated_out_size word_text.ghosts.value_size (map item_of c.cells.result.now) c.args.value.now c.saturating_sub.result c.held_in_words.result c.cells.ensures.items
    (c.saturating_sub.ensures ∙ ap (λ n. n - 1) c.places.ensures) c.held_in_words.ensures

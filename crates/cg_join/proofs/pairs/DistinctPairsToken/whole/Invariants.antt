use Rattle.std.proofs.Common.{◌+◌, ◌-◌, ◌≤◌, length, map, take}
use Rattle.cg_join.specs.Distinct.{AreDistinct}
use Rattle.cg_join.specs.Pairs.{IsPairText, pair_size}
use Rattle.cg_join.specs.Repeat.{IsList, items_size}
use Rattle.cg_join.specs.WordStartLaws.{SpellsWord}
use Rattle.cg_text.specs.contracts.word.WordTextToken.TheImpl as word_text
use Rattle.cg_join.proofs.pairs.DistinctPairsToken.whole.Given as goal

abbrev pub invariant-loop-used : goal.invariant-loop-used
invariant-loop-used g l =
    let self = l.fn.self in
    let word = g.F.Pairing.word_of in
    let value = g.F.Pairing.value_of in
    record {
      within : l.used ≤ length l.bytes;
      list : IsList (IsPairText word value (word_text.ghosts.means self.word) (g.V.Token.means self.value) self.delimiter) (IsPairText word value (SpellsWord self.words.controller) (g.B.MakeToken.texts self.values) self.delimiter) self.separator
          (take l.used l.bytes) l.items;
      distinct : AreDistinct (map word l.items);
      size : items_size (pair_size word value word_text.ghosts.value_size g.V.Token.value_size) l.items ≤ word_text.ghosts.size self.word + (g.V.Token.size self.value + l.used);
    }

abbrev pub decreases-loop-used : goal.decreases-loop-used
decreases-loop-used g l = length l.bytes - l.used

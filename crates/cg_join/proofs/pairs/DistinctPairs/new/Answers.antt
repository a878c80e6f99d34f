use Rattle.cg_join.specs.RepeatLaws.{stops_same}
use Rattle.cg_join.specs.LinesLaws.{lacks_same}
use Rattle.cg_join.specs.DistinctLaws.{with_distinct}
use Rattle.cg_join.specs.Pairs.{IsPairText}
use Rattle.cg_join.specs.PairsLaws.{led_new, pair_alike}
use Rattle.cg_join.specs.WordStartLaws.{SpellsWord}
use Rattle.cg_text.specs.contracts.word.WordTextToken.TheImpl as word_text
use Rattle.cg_join.proofs.pairs.DistinctPairs.new.Goals as goal

pub returns-clause-spells : goal.returns-clause-spells
returns-clause-spells g c =
    let w = g.F.Pairing.word_of in
    let v = g.F.Pairing.value_of in
    let K = word_text.ghosts.means c.start-word.result in
    let D = g.V.Token.means c.start-value.result in
    let T = SpellsWord c.args.words.controller in
    let U = g.B.MakeToken.texts c.args.values in
    record {
      is = rw c.new.ensures (λ rest all. with_distinct
          (led_new c.args.separator (IsPairText w v K D c.args.delimiter) (IsPairText w v T U c.args.delimiter)
          (pair_alike w v c.args.delimiter T K U D c.start-word.ensures.spells.is c.start-value.ensures.spells.is) rest
          all));
    }

pub invariant_of-result-clause-lacks : goal.invariant_of-result-clause-lacks
invariant_of-result-clause-lacks g c =
    lacks_same c.args.delimiter (SpellsWord c.args.words.controller) (word_text.ghosts.means c.start-word.result) c.start-word.ensures.spells.is c.requires.lacks

pub invariant_of-result-clause-stops : goal.invariant_of-result-clause-stops
invariant_of-result-clause-stops g c =
    stops_same c.args.separator (g.B.MakeToken.texts c.args.values) (g.V.Token.means c.start-value.result) c.start-value.ensures.spells.is c.requires.stops

use Rattle.std.proofs.Common.{[]}
use Rattle.cg_join.specs.RepeatLaws.{list_new, stops_same}
use Rattle.cg_join.specs.DistinctLaws.{with_distinct}
use Rattle.cg_join.specs.WordStartLaws.{SpellsWord}
use Rattle.cg_text.specs.contracts.word.WordTextToken.TheImpl as word_text
use Rattle.cg_join.proofs.distinct.DistinctWords.new.Goals as goal

pub returns-clause-spells : goal.returns-clause-spells
returns-clause-spells c = record {
  is = rw c.new.ensures (λ rest all. with_distinct
      (list_new c.args.separator (word_text.ghosts.means c.start-current.result)
      (SpellsWord c.args.start.controller) c.start-current.ensures.spells.is rest all));
}

pub invariant_of-result-clause-stops : goal.invariant_of-result-clause-stops
invariant_of-result-clause-stops c =
    stops_same c.args.separator (SpellsWord c.args.start.controller) (word_text.ghosts.means c.start-current.result) c.start-current.ensures.spells.is c.requires.stops

pub invariant_of-result-clause-room : goal.invariant_of-result-clause-room
invariant_of-result-clause-room c =
    λ e. absurd (let v = (word_text.ghosts.ends_is c.start-current.result).0 e in c.requires.filled v.0 ((c.start-current.ensures.spells.is [] v.0).0 v.1))

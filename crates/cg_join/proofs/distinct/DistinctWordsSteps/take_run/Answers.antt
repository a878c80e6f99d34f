use Rattle.std.proofs.Common.{take}
use Rattle.cg_join.specs.PartRunLaws.{distinct_run}
use Rattle.cg_join.specs.WordStartLaws.{SpellsWord}
use Rattle.cg_text.specs.contracts.word.WordTextToken.TheImpl as word_text
use Rattle.cg_join.proofs.distinct.DistinctWordsSteps.take_run.Goals as goal

pub returns-clause-follows : goal.returns-clause-follows
returns-clause-follows c =
    let old = c.args.self.now in
    let new = c.push_count.new.token in
    rw c.reserve.ensures.items (distinct_run old.separator (SpellsWord old.start.controller) old.items.items (word_text.ghosts.means old.current) (word_text.ghosts.means new)
    (take c.push_count.result c.args.bytes.now) old.stops (word_text.ghosts.completes new) c.push_count.ensures.follows)

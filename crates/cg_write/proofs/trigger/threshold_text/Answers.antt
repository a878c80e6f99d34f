use Rattle.cg_join.specs.CutLaws.{label_spells}
use Rattle.cg_join.specs.Spelling.{apart_spells, choice_spells, none_spells, sequence_spells}
use Rattle.cg_write.specs.TriggerLaws.{some_not_full, tasks_apart}
use Rattle.cg_write.proofs.trigger.threshold_text.Goals as goal

pub new-tasks-requires-clause-apart : goal.new-tasks-requires-clause-apart
new-tasks-requires-clause-apart c = none_spells c.new-some.ensures.spells c.new-full.ensures.spells some_not_full

pub new-requires-2 : goal.new-requires-2
new-requires-2 c =
    let tasks = choice_spells c.new-some.ensures.spells c.new-full.ensures.spells c.new-tasks.ensures.spells in
    apart_spells tasks (label_spells c.new.ensures.spells c.spaced.ensures.spells) tasks_apart

pub returns-clause-spells : goal.returns-clause-spells
returns-clause-spells c =
    let tasks = choice_spells c.new-some.ensures.spells c.new-full.ensures.spells c.new-tasks.ensures.spells in
    sequence_spells tasks (label_spells c.new.ensures.spells c.spaced.ensures.spells) c.new-2.ensures.spells

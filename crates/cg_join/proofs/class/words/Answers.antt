use Rattle.cg_join.specs.ClassLaws.{low_words_apart, no_words_apart, other_words_apart, words_apart}
use Rattle.cg_join.specs.Spelling.{choice_spells, none_spells}
use Rattle.cg_join.proofs.class.words.Goals as goal

pub new-alike-requires-clause-apart : goal.new-alike-requires-clause-apart
new-alike-requires-clause-apart c = none_spells c.new-no_change.ensures.spells c.new-none_to_rt.ensures.spells no_words_apart

pub new-low-requires-clause-apart : goal.new-low-requires-clause-apart
new-low-requires-clause-apart c = none_spells c.new-restrict.ensures.spells c.new-idle.ensures.spells low_words_apart

pub new-others-requires-clause-apart : goal.new-others-requires-clause-apart
new-others-requires-clause-apart c =
    let low = choice_spells c.new-restrict.ensures.spells c.new-idle.ensures.spells c.new-low.ensures.spells in
    none_spells c.new-promote.ensures.spells low other_words_apart

pub new-requires-clause-apart : goal.new-requires-clause-apart
new-requires-clause-apart c =
    let alike = choice_spells c.new-no_change.ensures.spells c.new-none_to_rt.ensures.spells c.new-alike.ensures.spells in
    let low = choice_spells c.new-restrict.ensures.spells c.new-idle.ensures.spells c.new-low.ensures.spells in
    none_spells alike (choice_spells c.new-promote.ensures.spells low c.new-others.ensures.spells) words_apart

pub returns-clause-spells : goal.returns-clause-spells
returns-clause-spells c =
    let alike = choice_spells c.new-no_change.ensures.spells c.new-none_to_rt.ensures.spells c.new-alike.ensures.spells in
    let low = choice_spells c.new-restrict.ensures.spells c.new-idle.ensures.spells c.new-low.ensures.spells in
    choice_spells alike (choice_spells c.new-promote.ensures.spells low c.new-others.ensures.spells) c.new.ensures.spells

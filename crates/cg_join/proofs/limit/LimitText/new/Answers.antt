use Rattle.cg_join.specs.Spelling.{none_spells, choice_spells, mapped_spells, spells_as}
use Rattle.cg_join.specs.LimitState.{limit_of}
use Rattle.cg_join.specs.LimitLaws.{limit_is}
use Rattle.cg_join.specs.MaxLaws.{max_not_decimal}
use Rattle.cg_join.proofs.limit.LimitText.new.Goals as goal

pub new-requires-in-Some-2-clause-apart : goal.new-requires-in-Some-2-clause-apart
new-requires-in-Some-2-clause-apart c = none_spells c.in-Some.ensures.1 c.new-in-Some.ensures.spells (λ text n u h k. max_not_decimal c.args.lo c.args.hi n text k h)

pub returns-in-Some-clause-spells : goal.returns-in-Some-clause-spells
returns-in-Some-clause-spells c =
    let parts = spells_as (mapped_spells limit_of (choice_spells c.in-Some.ensures.1 c.new-in-Some.ensures.spells c.new-in-Some-2.ensures.spells) c.new-in-Some-3.ensures.spells) (limit_is c.args.lo c.args.hi) in
    (c.in-Some.ensures.0, record { is = parts.is })

use Rattle.cg_join.specs.Spelling.{conditional_spells, mapped_spells, none_spells, spells_as}
use Rattle.cg_join.specs.LimitState.{limit_of}
use Rattle.cg_join.specs.LimitLaws.{limit_where_is}
use Rattle.cg_join.specs.MaxLaws.{max_not_decimal}
use Rattle.cg_join.proofs.limit.LimitText.conditional.Goals as goal

pub conditional-requires-clause-apart : goal.conditional-requires-clause-apart
conditional-requires-clause-apart c = none_spells c.decimal_in-number.ensures.spells c.new-word.ensures.spells (λ text n u h k. max_not_decimal c.args.lo c.args.hi n text k h)

pub returns-clause-spells : goal.returns-clause-spells
returns-clause-spells c =
    let either = conditional_spells c.args.max c.decimal_in-number.ensures.spells c.new-word.ensures.spells c.conditional.ensures.spells in
    let parts = spells_as (mapped_spells limit_of either c.new.ensures.spells) (limit_where_is c.args.max c.args.lo c.args.hi) in
    record { is = parts.is }

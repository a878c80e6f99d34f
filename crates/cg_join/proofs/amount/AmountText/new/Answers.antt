use Rattle.std.proofs.Common.{refl}
use Rattle.cg_join.specs.AmountLaws.{IsNegated, fraction_not_max, whole_apart, unsigned_begins, amount_is}
use Rattle.cg_join.specs.AmountState.{amount_of}
use Rattle.cg_join.specs.ForkLaws.{fork_spells, none_begins}
use Rattle.cg_join.specs.Spelling.{none_spells, choice_spells, mapped_spells, spells_as}
use Rattle.cg_join.proofs.amount.AmountText.new.Goals as goal

pub new-other-requires-clause-apart : goal.new-other-requires-clause-apart
new-other-requires-clause-apart c = none_spells c.new-hundredths.ensures.spells c.new.ensures.spells fraction_not_max

pub new-unsigned-requires-clause-apart : goal.new-unsigned-requires-clause-apart
new-unsigned-requires-clause-apart c =
    let other = choice_spells c.new-hundredths.ensures.spells c.new.ensures.spells c.new-other.ensures.spells in
    none_spells c.decimal_in.ensures.spells other whole_apart

pub new-requires-2-clause-none : goal.new-requires-2-clause-none
new-requires-2-clause-none c =
    let other = choice_spells c.new-hundredths.ensures.spells c.new.ensures.spells c.new-other.ensures.spells in
    none_begins 45 (choice_spells c.decimal_in.ensures.spells other c.new-unsigned.ensures.spells) unsigned_begins (λ other. other refl)

pub returns-clause-spells : goal.returns-clause-spells
returns-clause-spells c =
    let other = choice_spells c.new-hundredths.ensures.spells c.new.ensures.spells c.new-other.ensures.spells in
    let unsigned = choice_spells c.decimal_in.ensures.spells other c.new-unsigned.ensures.spells in
    let any = fork_spells IsNegated c.args.signed unsigned c.new-2.ensures.spells in
    let parts = spells_as (mapped_spells amount_of any c.new-3.ensures.spells) (amount_is c.args.signed) in
    record { is = parts.is }

use Rattle.cg_text.specs.RangesState.{number_rest}
use Rattle.cg_text.specs.ListTextLaws.{list_new}
use Rattle.cg_text.proofs.ranges.RangesText.new.Goals as goal

pub returns-clause-spells : goal.returns-clause-spells
returns-clause-spells c =
    let f = rw c.from.ensures at c.in-Some.ensures.1.is in
    record { is = rw c.from-in-Some.ensures (list_new c.args.strict c.args.most (number_rest c.in-Some.number) f c.new-in-Some.result.items c.new-in-Some.ensures.items) }

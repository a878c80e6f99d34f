use Rattle.std.proofs.Common.{[], ◌∙◌}
use Rattle.cg_first.proofs.Firsts.{at_start, more_first, last_first, entry_first, stop_first, starved_first}
use Rattle.cg_first.proofs.first.first_entry.Goals as goal

pub returns-then-is_end : goal.returns-then-is_end
returns-then-is_end c = last_first c.next-what.new.self c.args.profile c.args.limits c.args.bytes.now c.next-what.result.used c.next-what.result.what c.pulled_is_closed.ensures
    (c.next-what.ensures.form ∙ c.new-decoder.ensures.profile) (c.next-what.ensures.limits ∙ c.new-decoder.ensures.limits) (c.next-what.ensures.pulled [] [] c.new-decoder.ensures.stop (at_start c.new-decoder.result c.args.profile c.new-decoder.ensures.profile c.new-decoder.ensures.stands))
    c.in-NeedMore.is c.args.is_end c.if-is_end.true c.ended.result c.ended.ensures

pub returns-else-is_end : goal.returns-else-is_end
returns-else-is_end c = more_first c.next-what.new.self c.args.profile c.args.limits c.args.bytes.now c.next-what.result.used c.next-what.result.what c.pulled_is_closed.ensures
    (c.next-what.ensures.form ∙ c.new-decoder.ensures.profile) (c.next-what.ensures.limits ∙ c.new-decoder.ensures.limits) (c.next-what.ensures.pulled [] [] c.new-decoder.ensures.stop (at_start c.new-decoder.result c.args.profile c.new-decoder.ensures.profile c.new-decoder.ensures.stands))
    c.in-NeedMore.is c.args.is_end c.if-is_end.false

pub returns-in-Given : goal.returns-in-Given
returns-in-Given c = entry_first c.next-what.new.self c.args.profile c.args.limits c.args.bytes.now c.next-what.result.used c.next-what.result.what c.pulled_is_closed.ensures
    (c.next-what.ensures.form ∙ c.new-decoder.ensures.profile) (c.next-what.ensures.limits ∙ c.new-decoder.ensures.limits) (c.next-what.ensures.pulled [] [] c.new-decoder.ensures.stop (at_start c.new-decoder.result c.args.profile c.new-decoder.ensures.profile c.new-decoder.ensures.stands))
    c.one_list.ensures.printed c.next-what.ensures.used c.args.is_end c.in-Given.entry c.counted.result c.in-Given.is c.counted.ensures

pub returns-in-Stopped : goal.returns-in-Stopped
returns-in-Stopped c = stop_first c.next-what.new.self c.args.profile c.args.limits c.args.bytes.now c.next-what.result.used c.next-what.result.what c.pulled_is_closed.ensures
    (c.next-what.ensures.form ∙ c.new-decoder.ensures.profile) (c.next-what.ensures.limits ∙ c.new-decoder.ensures.limits) (c.next-what.ensures.pulled [] [] c.new-decoder.ensures.stop (at_start c.new-decoder.result c.args.profile c.new-decoder.ensures.profile c.new-decoder.ensures.stands))
    c.args.is_end c.in-Stopped.stop c.in-Stopped.is

pub returns-in-OutOfMemory : goal.returns-in-OutOfMemory
returns-in-OutOfMemory c = starved_first c.next-what.new.self c.args.profile c.args.limits c.args.bytes.now c.next-what.result.used c.next-what.result.what c.pulled_is_closed.ensures
    (c.next-what.ensures.form ∙ c.new-decoder.ensures.profile) (c.next-what.ensures.limits ∙ c.new-decoder.ensures.limits) (c.next-what.ensures.pulled [] [] c.new-decoder.ensures.stop (at_start c.new-decoder.result c.args.profile c.new-decoder.ensures.profile c.new-decoder.ensures.stands))
    c.args.is_end c.in-OutOfMemory.is

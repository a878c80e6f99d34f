use Rattle.std.proofs.Common.{length}
use Rattle.cg_text.specs.PlainLaws.{plain_searched}
use Rattle.cg_text.proofs.count.count_before.Goals as goal

pub returns-in-Some-clause-lacks : goal.returns-in-Some-clause-lacks
returns-in-Some-clause-lacks c = plain_searched c.args.byte c.args.bytes.now c.in-Some.place c.in-Some.ensures.0.before

pub returns-in-None-clause-lacks : goal.returns-in-None-clause-lacks
returns-in-None-clause-lacks c = plain_searched c.args.byte c.args.bytes.now (length c.args.bytes.now) c.in-None.ensures

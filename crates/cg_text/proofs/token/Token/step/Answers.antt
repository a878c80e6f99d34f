use Rattle.cg_text.specs.PushLaws.{only_refused}
use Rattle.cg_text.proofs.token.Token.step.Goals as goal

pub returns-in-Refused-clause-refused : goal.returns-in-Refused-clause-refused
returns-in-Refused-clause-refused g c =
    only_refused g.Self.Token.means c.args.self.now c.push.new.self c.args.byte c.in-Refused.field-0 c.in-Refused.ensures.within c.in-Refused.ensures.follows c.in-Refused.ensures.stops

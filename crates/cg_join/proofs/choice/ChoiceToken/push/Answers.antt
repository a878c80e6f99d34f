use Rattle.std.proofs.Common.{take, arith}
use Rattle.cg_join.specs.ChoicePushLaws.{left_alone, left_stops, longer_refused, right_alone, right_far}
use Rattle.cg_join.specs.ChoiceRunLaws.{run_refused}
use Rattle.cg_join.specs.declared.choice.Either.TheVariants.{Left}
use Rattle.cg_join.proofs.choice.ChoiceToken.push.Goals as goal

pub returns-then-not-self-clause-stops : goal.returns-then-not-self-clause-stops
returns-then-not-self-clause-stops g c =
    let old = c.args.self.now in
    left_stops g.A.Token.means g.B.Token.means c.push.new.self old.right c.args.bytes.now old.left_lives old.right_lives old.some c.if-not-self.true c.push.result c.push.ensures.stops

pub returns-then-more-used-clause-follows : goal.returns-then-more-used-clause-follows
returns-then-more-used-clause-follows g c =
    let old = c.args.self.now in
    let none = longer_refused g.B.Token.means old.right c.push-in-Refused.new.self c.args.bytes.now c.in-Refused-push.more c.in-Refused.used c.if-more-used.true (omega (arith, c.in-Refused.ensures.within))
    c.in-Refused-push.ensures.follows c.in-Refused-push.ensures.stops in
    left_alone g.A.Token.means g.B.Token.means old.left c.push-pushed.new.self old.right c.push-in-Refused.new.self old.left_lives old.right_lives (take c.in-Refused.used c.args.bytes.now) c.if-not-self-2.false c.if-not-self.false c.in-Refused.ensures.follows none

pub returns-in-Starved-clause-stops : goal.returns-in-Starved-clause-stops
returns-in-Starved-clause-stops g c =
    let b = c.in-Starved.ensures.stops in
    (b.0, Left b.1, (c.if-not-self-2.false, b.2))

pub returns-in-All-push-clause-follows : goal.returns-in-All-push-clause-follows
returns-in-All-push-clause-follows g c =
    let old = c.args.self.now in
    let none = run_refused g.A.Token.means old.left c.push-pushed.new.self c.args.bytes.now c.in-Refused.used c.in-Refused.ensures.within c.in-Refused.ensures.follows c.in-Refused.ensures.stops in
    right_alone g.A.Token.means g.B.Token.means old.left c.push-pushed.new.self old.right c.push-in-Refused.new.self old.left_lives old.right_lives c.args.bytes.now c.if-not-self-2.false c.if-not-self.false c.in-All-push.ensures.follows none

pub returns-else-more-used-clause-follows : goal.returns-else-more-used-clause-follows
returns-else-more-used-clause-follows g c =
    let old = c.args.self.now in
    right_far g.A.Token.means g.B.Token.means old.left c.push-pushed.new.self old.right c.push-in-Refused.new.self old.left_lives old.right_lives c.if-not-self-2.false c.if-not-self.false c.args.bytes.now c.in-Refused.used c.in-Refused-push.more (omega (arith, c.if-more-used.false))
    (omega (arith, c.in-Refused-push.ensures.within)) c.in-Refused.ensures.follows c.in-Refused-push.ensures.follows c.in-Refused.ensures.stops

use Rattle.std.proofs.Common.{◌≡◌, ◌<◌, ◌+◌, suc, length, arith, ap}
use Rattle.cg_text.specs.LimitPairsState.{key_start}
use Rattle.cg_text.specs.LimitPairsLaws.{key_whole, key_next, key_refuses, goes_on_within}
use Rattle.cg_text.proofs.pairs.key_after.Goals as goal

pub returns-then-at-key_start : goal.returns-then-at-key_start
returns-then-at-key_start c =
    let whole : length (key_start c.in-Some.key) ≡ suc c.args.at = omega (arith, c.if-at-key_start.true, ap length c.key_start.ensures) in
    key_whole c.args.given c.args.like c.in-Some.key c.args.at c.args.byte whole c.in-Some.ensures

pub returns-else-at-key_start : goal.returns-else-at-key_start
returns-else-at-key_start c =
    let within : c.args.at < length (key_start c.in-Some.key) = goes_on_within c.args.given c.args.like c.in-Some.key c.args.at c.args.byte c.requires c.in-Some.ensures in
    key_next c.args.given c.args.like c.in-Some.key c.args.at (c.args.at + 1) c.args.byte (omega arith) (omega (arith, c.if-at-key_start.false, ap length c.key_start.ensures)) c.in-Some.ensures

pub returns-in-None : goal.returns-in-None
returns-in-None c = key_refuses c.args.given c.args.like c.args.at c.args.byte c.requires c.in-None.ensures

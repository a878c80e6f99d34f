use Rattle.std.proofs.Common.{arith}
use Rattle.cg_text.specs.LimitPairsFront.{new_pair}
use Rattle.cg_text.proofs.pairs.pair_in_front.Goals as goal

pub returns-in-Some-limit_in_front : goal.returns-in-Some-limit_in_front
returns-in-Some-limit_in_front c =
    let found = c.in-Some-limit_in_front in
    let limit = rw (c.split_at.ensures.back, c.key_start-start.ensures) at found.ensures.1 in (
      omega (arith, found.ensures.0, c.split_at.ensures.back_len),
      rw c.key_start-start.ensures (new_pair c.args.given c.in-Some.key found.limit found.count c.args.bytes.now c.in-Some.ensures limit),
    )

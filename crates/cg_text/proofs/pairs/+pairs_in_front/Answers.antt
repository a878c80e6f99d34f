use Rattle.std.proofs.Common.{◌+◌, take, arith, ap, length, sym, ◌∙◌}
use Rattle.cg_text.specs.ByteLaws.{take_space}
use Rattle.cg_text.specs.LimitPairsFront.{limits_last, limits_more}
use Rattle.cg_text.proofs.pairs.+pairs_in_front.Goals as goal

pub returns-in-Some-pairs_in_front : goal.returns-in-Some-pairs_in_front
returns-in-Some-pairs_in_front t c =
    let bytes = c.args.bytes.now in
    let pair = c.in-Some.found.0 in
    let count = c.in-Some.found.1 in
    let behind = c.in-Some-behind_space.behind.now in
    let further = c.in-Some-pairs_in_front in
    let space = sym c.split_at.ensures.back ∙ c.in-Some-behind_space.ensures in
    let text = take_space count further.more bytes behind space in (
      omega (arith, further.ensures.0, c.split_at.ensures.back_len, ap length c.in-Some-behind_space.ensures),
      limits_more c.args.given c.with_limit-all.result pair (take count bytes) (take further.more behind) (take (count + 1 + further.more) bytes) further.limits
          c.with_limit-all.ensures text c.in-Some.ensures.1 further.ensures.1,
    )

pub returns-in-None-pairs_in_front : goal.returns-in-None-pairs_in_front
returns-in-None-pairs_in_front t c =
    let text = take c.in-Some.found.1 c.args.bytes.now in
    (c.in-Some.ensures.0, limits_last c.args.given c.with_limit-all.result c.in-Some.found.0 text c.with_limit-all.ensures c.in-Some.ensures.1)

pub returns-in-None-behind_space : goal.returns-in-None-behind_space
returns-in-None-behind_space t c =
    let text = take c.in-Some.found.1 c.args.bytes.now in
    (c.in-Some.ensures.0, limits_last c.args.given c.with_limit-all.result c.in-Some.found.0 text c.with_limit-all.ensures c.in-Some.ensures.1)

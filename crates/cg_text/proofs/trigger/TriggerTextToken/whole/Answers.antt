use Rattle.std.proofs.Common.{◌+◌, take, arith, ap, length, sym, ◌∙◌}
use Rattle.cg_text.specs.ByteLaws.{take_space}
use Rattle.cg_text.specs.RangesState.{number_rest}
use Rattle.cg_text.specs.TriggerLaws.{times_whole}
use Rattle.cg_text.proofs.trigger.TriggerTextToken.whole.Goals as goal

pub returns-in-Some-number_in_front-clause-front : goal.returns-in-Some-number_in_front-clause-front
returns-in-Some-number_in_front-clause-front c =
    let s = c.args.self.now in
    let bytes = c.args.bytes.now in
    let stall = c.in-Some.found.0 in
    let count = c.in-Some.found.1 in
    let behind = c.in-Some-behind_space.behind.now in
    let window = c.in-Some-number_in_front in
    let space = sym c.split_at.ensures.back ∙ c.in-Some-behind_space.ensures in
    let text = take_space count window.more bytes behind space in (
      omega (arith, window.ensures.0, c.split_at.ensures.back_len, ap length c.in-Some-behind_space.ensures),
      times_whole s.stall (number_rest s.number) stall window.window (take count bytes) (take window.more behind) (take (count + 1 + window.more) bytes)
          (sym c.is_some.ensures ∙ c.if-is_some.false) text c.in-Some.ensures.front.1 window.ensures.1,
    )

use Rattle.cg_text.specs.DecimalLaws.{number_digits}
use Rattle.cg_text.specs.RangesState.{number_rest}
use Rattle.cg_text.specs.RangesLaws.{digit_byte, number_one}
use Rattle.cg_text.specs.TriggerLaws.{times_digit, times_space, times_begun}
use Rattle.cg_text.proofs.trigger.TriggerTextSteps.take_byte.Goals as goal

pub returns-in-Digit-clause-taken : goal.returns-in-Digit-clause-taken
returns-in-Digit-clause-taken c =
    let s = c.args.self.now in
    let t = c.in-Digit.ensures.turn in
    times_digit c.args.byte (number_rest s.number) (number_rest c.in-Digit.number) (digit_byte s.number c.in-Digit.number c.args.byte t) t s.stall

pub returns-in-Space-clause-taken : goal.returns-in-Space-clause-taken
returns-in-Space-clause-taken c =
    let s = c.args.self.now in
    let t = c.in-Space.ensures.turn in
    rw (t.0, t.4) (times_space c.in-Space.stall (number_rest s.number) (number_rest c.in-Space.number) t.1 (number_one s.number c.in-Space.stall t.1) (number_digits s.number.lo s.number.hi s.number.progress) t.3)

pub returns-in-Refused-clause-refused : goal.returns-in-Refused-clause-refused
returns-in-Refused-clause-refused c =
    let s = c.args.self.now in
    λ rest v h. c.in-Refused.ensures.turn (times_begun c.args.byte s.stall (number_rest s.number) rest v h)

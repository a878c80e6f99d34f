use Rattle.std.proofs.Common.{refl}
use Rattle.cg_text.specs.RangesState.{number_rest}
use Rattle.cg_text.specs.TriggerLaws.{turn_begins, times_begun}
use Rattle.cg_text.proofs.trigger.TriggerTextToken.allows.Goals as goal

pub returns-in-Refused : goal.returns-in-Refused
returns-in-Refused c =
    let s = c.args.self.now in
    (λ e. absurd (cc), λ h. absurd (c.in-Refused.ensures.turn (times_begun c.args.byte s.stall (number_rest s.number) h.0 h.1 h.2)))

pub returns-in_default : goal.returns-in_default
returns-in_default c =
    let s = c.args.self.now in
    (λ e. turn_begins c.args.byte s.stall s.number c.turn.result s.within c.turn.ensures.turn c.in_default.not-Refused, λ h. refl)

use Rattle.std.proofs.Common.{◌≡◌, ◌++◌, refl}
use Rattle.cg_text.specs.RangesState.{front, number_rest}
use Rattle.cg_text.specs.ListLaws.{begun_list}
use Rattle.cg_text.specs.RangesLaws.{rest_begun, turn_begun}
use Rattle.cg_text.proofs.ranges.RangesTextToken.allows.Goals as goal

pub returns-in-Refused : goal.returns-in-Refused
returns-in-Refused c =
    let s = c.args.self.now in
    (λ e. absurd (cc), λ h. absurd (c.in-Refused.ensures.turn (rest_begun s.strict s.ranges.items s.most s.low (number_rest s.number) c.args.byte (λ rs. h.1 ≡ front s.ranges.items ++ rs) h.0 h.2)))

pub returns-in_default : goal.returns-in_default
returns-in_default c =
    let s = c.args.self.now in
    (λ e. begun_list s.strict s.ranges.items s.most s.low (number_rest s.number) c.args.byte (turn_begun s.strict s.most s.low s.number c.args.byte c.list_byte.result c.list_byte.ensures.turn c.in_default.not-Refused), λ h. refl)

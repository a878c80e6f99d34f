use Rattle.std.proofs.Common.{◌≡◌, ◌∷◌, [], ◌++◌, arith, ap, sym, ◌∙◌, inl, inr}
use Rattle.cg_text.specs.DecimalLaws.{number_digits, IsDecimalRest_completes}
use Rattle.cg_text.specs.RangesState.{number_rest, begin_of, front}
use Rattle.cg_text.specs.ListLaws.{list_digit, list_comma, list_dash, closed_length, begun_list}
use Rattle.cg_text.specs.RangesLaws.{rest_begun, digit_byte, number_one, some_length, begin_some, begin_none}
use Rattle.cg_text.specs.TokenLaws.{err_holds}
use Rattle.cg_text.proofs.ranges.RangesTextSteps.take_byte.Goals as goal
use Rattle.cg_text.proofs.ranges.RangesTextSteps.take_byte.Goals.{in-Some, in-None}

pub returns-in_ok-open-in-Digit-clause-taken : goal.returns-in_ok-open-in-Digit-clause-taken
returns-in_ok-open-in-Digit-clause-taken c =
    let s = c.args.self.now in
    let t = c.in-Digit.ensures.turn in
    let o = c.in_ok-open-in-Digit.ensures.opened in
    list_digit s.strict s.most c.args.byte (number_rest s.number) (number_rest c.in-Digit.number) (digit_byte s.number c.in-Digit.number c.args.byte t) t s.ranges.items c.open.new.ranges.items s.low o.0 o.1

pub returns-in-Dash-clause-taken : goal.returns-in-Dash-clause-taken
returns-in-Dash-clause-taken c =
    let s = c.args.self.now in
    let t = c.in-Dash.ensures.turn in
    λ rest all. rw (t.0, t.4) (list_dash s.strict s.most c.in-Dash.end (number_rest s.number) t.1 (number_one s.number c.in-Dash.end t.1) (number_digits s.number.lo s.number.hi s.number.progress)
    (number_rest c.in-Dash.number) t.3 s.ranges.items s.fresh rest all)

pub returns-in-Refused-clause-refused : goal.returns-in-Refused-clause-refused
returns-in-Refused-clause-refused c =
    let s = c.args.self.now in
    λ rest all h. c.in-Refused.ensures.turn (rest_begun s.strict s.ranges.items s.most s.low (number_rest s.number) c.args.byte (λ rs. all ≡ front s.ranges.items ++ rs) rest h)

pub returns-in_ok-close-in-Comma-clause-taken : goal.returns-in_ok-close-in-Comma-clause-taken
returns-in_ok-close-in-Comma-clause-taken c =
    let s = c.args.self.now in
    let t = c.in-Comma.ensures.turn in
    let b : c.match-self.begin ≡ begin_of s.low c.in-Comma.end =
    elim c.match-self.branch [
      | in-Some w ↦ w.begin-is
          ∙ sym (begin_some s.low w.in-Some.low c.in-Comma.end w.in-Some.is)
      | in-None w ↦ w.begin-is
          ∙ sym (begin_none s.low c.in-Comma.end w.in-None.is)
    ] in
    let e : c.close.new.ranges.items
    ≡ (front s.ranges.items ++ (begin_of s.low c.in-Comma.end, c.in-Comma.end) ∷ []) ++ (0, 0) ∷ [] =
    c.in_ok-close-in-Comma.ensures.closed ∙ ap
    (λ z. (front s.ranges.items ++ (z, c.in-Comma.end) ∷ []) ++ (0, 0) ∷ []) b in
    λ rest all. rw t.0 (list_comma s.strict s.most c.in-Comma.end (number_rest s.number) t.1 (number_one s.number c.in-Comma.end t.1) (number_digits s.number.lo s.number.hi s.number.progress)
    (number_rest c.in-Comma.number) t.3 s.ranges.items c.close.new.ranges.items s.low e rest all)

pub returns-in_ok-close-in-Comma-clause-size : goal.returns-in_ok-close-in-Comma-clause-size
returns-in_ok-close-in-Comma-clause-size c =
    let s = c.args.self.now in
    let t = c.in-Comma.ensures.turn in
    omega (arith, closed_length s.ranges.items c.close.new.ranges.items (c.match-self.begin, c.in-Comma.end) (0, 0) (some_length s.ranges.items (λ e. s.fresh e c.in-Comma.end t.1)) c.in_ok-close-in-Comma.ensures.closed)

pub returns-in_err-open-in-Digit-clause-last : goal.returns-in_err-open-in-Digit-clause-last
returns-in_err-open-in-Digit-clause-last c =
    let s = c.args.self.now in
    let t = c.in-Digit.ensures.turn in
    let n = c.in-Digit.number in
    let k = IsDecimalRest_completes n.lo n.hi n.progress n.range n.live in
    err_holds c.from_residual.result (begun_list s.strict s.ranges.items s.most s.low (number_rest s.number) c.args.byte (inl (k.0, k.1, (t k.0 k.1).0 k.2)))

pub returns-in_err-close-in-Comma-clause-last : goal.returns-in_err-close-in-Comma-clause-last
returns-in_err-close-in-Comma-clause-last c =
    let s = c.args.self.now in
    let t = c.in-Comma.ensures.turn in
    err_holds c.from_residual-in_err-close-in-Comma.result (begun_list s.strict s.ranges.items s.most s.low (number_rest s.number) c.args.byte (inr (inl (t.0, c.in-Comma.end, t.1, t.2))))

use Rattle.std.proofs.Common.{◌≡◌, ◌≤◌, ◌∷◌, [], get_or, true, refl, arith}
use native.Mathlib.Decide.{dec_lt}
use Prim.{yes, no}
use Rattle.cg_text.specs.Texts.{TextOf}
use Rattle.cg_line.specs.AllowedLaws.{next_is_byte}
use Rattle.cg_line.specs.RestsLaws.{begins_next}
use Rattle.cg_line.proofs.text.goes_on.Goals as goal

pub returns-then-allows : goal.returns-then-allows
returns-then-allows g c =
    let byte = get_or (48 ∷ 97 ∷ 102 ∷ []) c.loop-likely.likely-index 0 in
    (λ e. record { byte = byte; next = (begins_next g.T.Token.means g.T.Token.size c.args.text.now byte).0 (c.allows.ensures.0 c.if-allows.true) }, λ some. refl)

pub returns-then-allows-2 : goal.returns-then-allows-2
returns-then-allows-2 g c =
    let byte = c.loop-number.number in
    (λ e. record { byte = byte; next = (begins_next g.T.Token.means g.T.Token.size c.args.text.now byte).0 (c.allows-in-loop-number.ensures.0 c.if-allows-2.true) }, λ some. refl)

pub loop-number-preserved : goal.loop-number-preserved
loop-number-preserved g c byte lt goes =
    elim (dec_lt byte c.loop-number.number) [
      | yes less ↦ c.loop-number.invariant byte less goes
      | no more ↦ (
          let same : byte ≡ c.loop-number.number = omega (arith, more, lt) in
          let allowed : c.allows-in-loop-number.result ≡ true = c.allows-in-loop-number.ensures.1 ((begins_next g.T.Token.means g.T.Token.size c.args.text.now c.loop-number.number).1 (rw same at goes)) in
          let refused = c.if-allows-2.false in
          cc)
    ]

pub returns : goal.returns
returns g c = (
  λ e. absurd (cc),
  λ some. absurd (let done : 256 ≤ c.loop-number.number = omega arith in
      c.loop-number.invariant some.byte (omega (arith, done, next_is_byte (TextOf (g.T.Token.means c.args.text.now)) [] (λ text h. g.T.Token.holds_bytes c.args.text.now text h.0 h.1) some.byte some.next)) some.next),
)

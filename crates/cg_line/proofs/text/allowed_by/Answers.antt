use Rattle.std.proofs.Common.{◌≡◌, ◌≤◌, [], true, arith}
use Rattle.cg_text.specs.Texts.{TextOf}
use Rattle.cg_line.specs.AllowedLaws.{allowed_more, allowed_same, allowed_all}
use Rattle.cg_line.specs.RestsLaws.{begins_next}
use Rattle.cg_line.proofs.text.allowed_by.Goals as goal
use Rattle.cg_line.proofs.text.allowed_by.Goals.{then-allows, else-allows}

pub loop-number-preserved : goal.loop-number-preserved
loop-number-preserved g c =
    let number = c.loop-number.number in
    let texts = TextOf (g.T.Token.means c.args.text.now) in
    let before = c.loop-number.invariant in
    let next = begins_next g.T.Token.means g.T.Token.size c.args.text.now number in
    elim c.if-allows.branch [
      | then-allows w ↦ rw w.set-is (allowed_more texts [] c.loop-number.set w.insert.new.self number before w.insert.ensures.added (next.0 (c.allows.ensures.0 w.if-allows.true)))
      | else-allows w ↦ rw w.set-is (allowed_same texts [] c.loop-number.set number before
          (λ goes. (let allowed : c.allows.result ≡ true = c.allows.ensures.1 (next.1 goes) in let refused = w.if-allows.false in cc)))
    ]

pub returns : goal.returns
returns g c =
    let done : 256 ≤ c.loop-number.number = omega arith in
    allowed_all (TextOf (g.T.Token.means c.args.text.now)) [] (λ text h. g.T.Token.holds_bytes c.args.text.now text h.0 h.1) c.loop-number.set c.loop-number.number done c.loop-number.invariant

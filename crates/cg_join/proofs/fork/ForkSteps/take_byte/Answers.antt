use Rattle.std.proofs.Common.{◌≡◌, IsTrue}
use Rattle.cg_text.specs.TokenLaws.{if_err_as}
use Rattle.cg_join.specs.ForkLaws.{first_begins}
use Rattle.cg_join.proofs.fork.ForkSteps.take_byte.Goals.{else-self-via-then-self+else-byte-self, else-self-via-else-self}
use Rattle.cg_join.proofs.fork.ForkSteps.take_byte.Goals as goal

pub returns-in-Left-clause-last : goal.returns-in-Left-clause-last
returns-in-Left-clause-last g c =
    let old = c.args.self.now in
    let not : IsTrue old.allowed → c.args.byte ≡ old.byte → ⊥ = λ may e. elim c.else-self.branch [
      | else-self-via-then-self+else-byte-self w ↦ w.if-byte-self.false e
      | else-self-via-else-self w ↦ absurd (let f = w.if-self.false in cc)
    ] in
    let is = first_begins g.A.Token.means g.B.Token.means (g.S.MakeToken.texts old.start) old.byte old.begins old.allowed c.in-Left.token c.args.byte not in
    if_err_as c.step-taken.result (λ b. rw c.in-Left.is (is.0 b)) c.step-taken.ensures.last

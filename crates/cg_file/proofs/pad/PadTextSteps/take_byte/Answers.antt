use Rattle.std.proofs.Common.{true, refl}
use Rattle.cg_text.specs.TokenLaws.{if_err_as}
use Rattle.cg_file.specs.PadLaws.{second_space, other_byte, other_begins, known_begins}
use Rattle.cg_file.proofs.pad.PadTextSteps.take_byte.Goals as goal

pub returns-then-byte-eq32-clause-taken : goal.returns-then-byte-eq32-clause-taken
returns-then-byte-eq32-clause-taken g c =
    let s = c.args.self.now in
    rw (c.in-Perhaps.is, c.if-byte-eq32.true) (second_space (g.T.Token.means s.token) s.ready (s.unspaced (rw c.in-Perhaps.is refl)))

pub returns-in-Ok-true-clause-taken : goal.returns-in-Ok-true-clause-taken
returns-in-Ok-true-clause-taken g c =
    let s = c.args.self.now in
    rw c.in-Perhaps.is (other_byte (g.T.Token.means s.token) s.ready (g.T.Token.means c.step.new.self) c.args.byte c.if-byte-eq32.false (rw c.in-Ok-true.field-0-test at c.in-Ok-true.ensures.taken))

pub returns-in-Err-clause-last : goal.returns-in-Err-clause-last
returns-in-Err-clause-last g c =
    let s = c.args.self.now in
    rw c.in-Perhaps.is ((other_begins (g.T.Token.means s.token) s.ready true c.args.byte c.if-byte-eq32.false (λ _. c.in-Err.ensures.last, λ _. refl)).0 refl)

pub returns-in-Known-clause-last : goal.returns-in-Known-clause-last
returns-in-Known-clause-last g c =
    let s = c.args.self.now in
    rw c.in-Known.is (if_err_as c.step-in-Known.result (λ b. (known_begins (g.T.Token.means s.token) s.ready true c.args.byte _ (λ _. b, λ _. refl)).0 refl) c.step-in-Known.ensures.last)

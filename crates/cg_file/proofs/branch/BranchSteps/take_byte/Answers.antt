use Rattle.cg_text.specs.TokenLaws.{if_err_as}
use Rattle.cg_join.specs.declared.choice.Either.TheVariants.{Left, Right}
use Rattle.std.proofs.Common.{refl}
use Rattle.cg_file.specs.BranchLaws.{first_begun}
use Rattle.cg_file.proofs.branch.BranchSteps.take_byte.Goals as goal

pub returns-in-Ok-true-clause-taken : goal.returns-in-Ok-true-clause-taken
returns-in-Ok-true-clause-taken g c =
    let taken = rw c.in-Ok-true.field-0-test at c.in-Ok-true.ensures.taken in
    let old = c.args.self.now in
    rw c.in-Start.is (first_begun g.A.Token.means g.B.Token.means old.first c.step.new.self old.second c.args.byte (old.differ (rw c.in-Start.is refl)) (g.A.Token.completes c.step.new.self) taken)

pub returns-in-Err-clause-last : goal.returns-in-Err-clause-last
returns-in-Err-clause-last g c =
    let b = c.in-Err.ensures.last in
    rw c.in-Start.is (b.0, Left b.1, (refl, b.2))

pub returns-in-Err-step-clause-last : goal.returns-in-Err-step-clause-last
returns-in-Err-step-clause-last g c =
    let b = c.in-Err-step.ensures.last in
    rw c.in-Start.is (b.0, Right b.1, (refl, b.2))

pub returns-in-First-clause-last : goal.returns-in-First-clause-last
returns-in-First-clause-last g c =
    rw c.in-First.is (if_err_as c.step-in-First.result (λ b. (b.0, Left b.1, (refl, b.2))) c.step-in-First.ensures.last)

pub returns-in-Second-clause-last : goal.returns-in-Second-clause-last
returns-in-Second-clause-last g c =
    rw c.in-Second.is (if_err_as c.step-in-Second.result (λ b. (b.0, Right b.1, (refl, b.2))) c.step-in-Second.ensures.last)

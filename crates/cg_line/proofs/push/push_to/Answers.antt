use Rattle.std.proofs.Common.{◌≤◌, ◌+◌, [], ◌∷◌, arith}
use Rattle.cg_line.specs.RestsLaws.{after_run, begins_next}
use Rattle.cg_line.proofs.push.push_to.Goals as goal

pub returns-in-Ok-true-clause-pushed : goal.returns-in-Ok-true-clause-pushed
returns-in-Ok-true-clause-pushed g c =
    let new = c.step.new.self in
    let taken = rw c.in-Ok-true.field-0-test at c.in-Ok-true.ensures.taken in
    after_run g.T.Token.means g.T.Token.size c.args.text.now new (c.args.byte ∷ []) taken (g.T.Token.completes new) c.step.ensures.size

pub returns-in-Ok-false-clause-pushed : goal.returns-in-Ok-false-clause-pushed
returns-in-Ok-false-clause-pushed g c =
    let old = c.args.text.now in
    let new = c.step.new.self in
    let same = rw c.in-Ok-false.field-0-test at c.in-Ok-false.ensures.same in
    let same_size = rw c.in-Ok-false.field-0-test at c.in-Ok-false.ensures.same_size in
    let refused = rw c.in-Ok-false.field-0-test at c.in-Ok-false.ensures.refused in
    let few : g.T.Token.size new ≤ g.T.Token.size old + 0 = omega (arith, same_size) in
    (after_run g.T.Token.means g.T.Token.size old new [] same (g.T.Token.completes new) few, λ w. refused w.rest w.whole.0 w.whole.1)

pub returns-in-Err-clause-pushed : goal.returns-in-Err-clause-pushed
returns-in-Err-clause-pushed g c =
    let old = c.args.text.now in
    let new = c.step.new.self in
    let few : g.T.Token.size new ≤ g.T.Token.size old + 0 = omega (arith, c.in-Err.ensures.same_size) in
    (after_run g.T.Token.means g.T.Token.size old new [] c.in-Err.ensures.same (g.T.Token.completes new) few, (begins_next g.T.Token.means g.T.Token.size old c.args.byte).0 c.in-Err.ensures.last)

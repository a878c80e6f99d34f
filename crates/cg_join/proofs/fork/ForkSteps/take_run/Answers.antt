use Rattle.std.proofs.Common.{◌<◌, length, take, arith}
use Rattle.cg_join.specs.ForkLaws.{first_run}
use Rattle.cg_join.specs.ScanLaws.{some_taken}
use Rattle.cg_join.proofs.fork.ForkSteps.take_run.Goals as goal

pub returns-then-count-gt0-clause-follows : goal.returns-then-count-gt0-clause-follows
returns-then-count-gt0-clause-follows g c =
    let old = c.args.self.now in
    let run = take c.push_count-count.result c.args.bytes.now in
    let some : 0 < length run = some_taken c.push_count-count.result c.args.bytes.now c.if-count-gt0.true c.push_count-count.ensures.within in
    let new = c.push_count-count.new.token in
    rw c.in-Left.is (first_run g.A.Token.means g.B.Token.means (g.S.MakeToken.texts old.start) old.byte old.begins old.allowed c.in-Left.token new run
    (rw c.in-Left.is at old.free) (g.A.Token.completes new) (λ e. let z = rw e at some in omega (arith, z)) c.push_count-count.ensures.follows)

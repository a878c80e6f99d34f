use Rattle.std.proofs.Common.{◌<◌, length, take, arith}
use Rattle.cg_join.specs.RunLaws.{maybe_run}
use Rattle.cg_join.specs.ScanLaws.{some_taken}
use Rattle.cg_join.proofs.maybe.MaybeSteps.take_run.Goals as goal

pub returns-then-count-gt0-clause-follows : goal.returns-then-count-gt0-clause-follows
returns-then-count-gt0-clause-follows g c =
    let old = c.args.self.now in
    let run = take c.push_count-count.result c.args.bytes.now in
    let some : 0 < length run = some_taken c.push_count-count.result c.args.bytes.now (omega (arith, c.if-count-gt0.true)) c.push_count-count.ensures.within in
    maybe_run (g.T.Token.means old.token) (g.T.Token.means c.push_count-count.new.token) run c.push_count-count.ensures.follows some old.begun

use Rattle.cg_join.specs.MaybeLaws.{maybe_begins}
use Rattle.cg_join.proofs.maybe.MaybeSteps.take_byte.Goals as goal

pub returns-in-Err-clause-last : goal.returns-in-Err-clause-last
returns-in-Err-clause-last g c =
    let old = c.args.self.now in
    (maybe_begins (g.T.Token.means old.token) old.begun c.args.byte).0 c.in-Err.ensures.last

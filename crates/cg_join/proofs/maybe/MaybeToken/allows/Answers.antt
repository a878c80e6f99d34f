use Rattle.cg_join.specs.MaybeLaws.{maybe_begins}
use Rattle.cg_join.proofs.maybe.MaybeToken.allows.Goals as goal

pub returns : goal.returns
returns g c =
    let now = c.args.self.now in
    let all = maybe_begins (g.T.Token.means now.token) now.begun c.args.byte in
    (λ h. all.0 (c.allows.ensures.0 h), λ h. c.allows.ensures.1 (all.1 h))

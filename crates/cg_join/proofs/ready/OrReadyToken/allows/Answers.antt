use Rattle.cg_join.specs.ReadyLaws.{or_ready_begins_with}
use Rattle.cg_join.proofs.ready.OrReadyToken.allows.Goals as goal

pub returns : goal.returns
returns g c =
    let now = c.args.self.now in
    let all = or_ready_begins_with (g.T.Token.means now.token) now.value now.begun c.args.byte in
    (λ h. all.0 (c.allows.ensures.0 h), λ h. c.allows.ensures.1 (all.1 h))

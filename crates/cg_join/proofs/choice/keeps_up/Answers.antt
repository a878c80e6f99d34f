use Rattle.cg_join.specs.ChoiceRunLaws.{run_refused}
use Rattle.cg_join.proofs.choice.keeps_up.Goals as goal

pub returns-in-Refused : goal.returns-in-Refused
returns-in-Refused g c = λ rest v.
    let e = c.in-Refused.ensures in
    (λ h. absurd (cc), λ h. absurd (run_refused g.T.Token.means c.args.token.now c.push.new.self c.args.bytes.now c.in-Refused.field-0 e.within e.follows e.stops rest v h))

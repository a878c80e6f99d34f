use Rattle.std.proofs.Common.{refl, take}
use Rattle.cg_file.specs.OneOrBothLaws.{first_run}
use Rattle.cg_file.proofs.one_or_both.OneOrBothSteps.take_run.Goals as goal

pub returns-in-First-clause-follows : goal.returns-in-First-clause-follows
returns-in-First-clause-follows g c =
    let old = c.args.self.now in
    let new = c.push_count.new.token in
    rw c.in-First.is (λ rest v. first_run g.A.Token.means g.B.Token.means old.first new old.second (take c.push_count.result c.args.bytes.now) (old.apart (rw c.in-First.is refl)) (g.A.Token.completes new) c.push_count.ensures.follows rest v.0 v.1)

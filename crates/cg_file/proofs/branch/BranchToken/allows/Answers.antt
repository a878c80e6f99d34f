use Rattle.cg_file.specs.BranchLaws.{start_begins, first_begins, second_begins}
use Rattle.cg_file.proofs.branch.BranchToken.allows.Goals as goal

pub returns-in-Start : goal.returns-in-Start
returns-in-Start g c =
    let s = c.args.self.now in
    rw c.in-Start.is (start_begins g.A.Token.means g.B.Token.means s.first s.second c.args.byte c.allows-first.result c.allows-second.result c.allows-first.ensures c.allows-second.ensures)

pub returns-in-First : goal.returns-in-First
returns-in-First g c =
    let s = c.args.self.now in
    rw c.in-First.is (first_begins g.A.Token.means g.B.Token.means s.first s.second c.args.byte c.allows-first.result c.allows-first.ensures)

pub returns-in-Second : goal.returns-in-Second
returns-in-Second g c =
    let s = c.args.self.now in
    rw c.in-Second.is (second_begins g.A.Token.means g.B.Token.means s.first s.second c.args.byte c.allows-second.result c.allows-second.ensures)

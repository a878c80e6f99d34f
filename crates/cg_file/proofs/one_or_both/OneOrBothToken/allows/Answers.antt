use Rattle.std.proofs.Common.{refl, sym}
use Rattle.cg_file.specs.OneOrBothLaws.{start_begins, first_begins, second_begins, both_begin}
use Rattle.cg_file.proofs.one_or_both.OneOrBothToken.allows.Goals as goal

pub returns-in-Start : goal.returns-in-Start
returns-in-Start g c =
    let s = c.args.self.now in
    rw c.in-Start.is (start_begins g.A.Token.means g.B.Token.means s.first s.second c.args.byte c.allows-first.result c.allows-second.result (s.differ (rw c.in-Start.is refl)) c.allows-first.ensures c.allows-second.ensures)

pub returns-in-First : goal.returns-in-First
returns-in-First g c =
    let s = c.args.self.now in
    let ended = g.A.Token.ends_is s.first in
    rw c.in-First.is (first_begins g.A.Token.means g.B.Token.means s.first s.second c.args.byte
    c.allows-first.result c.can_end-ended.result c.allows-second.result c.allows-first.ensures
    (rw (sym c.can_end-ended.ensures) at ended) c.allows-second.ensures)

pub returns-in-Second : goal.returns-in-Second
returns-in-Second g c =
    let s = c.args.self.now in
    rw c.in-Second.is (second_begins g.A.Token.means g.B.Token.means s.first s.second c.args.byte c.allows-second.result c.allows-second.ensures)

pub returns-in-Both : goal.returns-in-Both
returns-in-Both g c =
    let s = c.args.self.now in
    rw c.in-Both.is (both_begin g.A.Token.means g.B.Token.means s.first s.second c.args.byte c.allows-second.result ((g.A.Token.ends_is s.first).0 (s.ended (rw c.in-Both.is refl))) c.allows-second.ensures)

use Rattle.std.proofs.Common.{eqb-true, eq-eqb}
use Rattle.cg_file.specs.PadLaws.{before_begins, space_begins, other_begins, known_begins}
use Rattle.cg_file.proofs.pad.PadTextToken.allows.Goals as goal

pub returns-in-Before : goal.returns-in-Before
returns-in-Before g c =
    let s = c.args.self.now in
    rw c.in-Before.is (before_begins (g.T.Token.means s.token) s.ready _ c.args.byte (eqb-true c.args.byte 32, eq-eqb c.args.byte 32))

pub returns-then-byte-eq32 : goal.returns-then-byte-eq32
returns-then-byte-eq32 g c =
    let s = c.args.self.now in
    rw c.in-Perhaps.is (space_begins (g.T.Token.means s.token) s.ready _ c.args.byte (eq-eqb c.args.byte 32 c.if-byte-eq32.true) c.if-byte-eq32.true (g.T.Token.completes s.token))

pub returns-else-byte-eq32 : goal.returns-else-byte-eq32
returns-else-byte-eq32 g c =
    let s = c.args.self.now in
    rw c.in-Perhaps.is (other_begins (g.T.Token.means s.token) s.ready c.allows.result c.args.byte c.if-byte-eq32.false c.allows.ensures)

pub returns-in-Known : goal.returns-in-Known
returns-in-Known g c =
    let s = c.args.self.now in
    rw c.in-Known.is (known_begins (g.T.Token.means s.token) s.ready c.allows-in-Known.result c.args.byte _ c.allows-in-Known.ensures)

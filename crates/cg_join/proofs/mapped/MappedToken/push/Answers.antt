use Rattle.cg_join.specs.MappedLaws.{mapped_stops}
use Rattle.cg_join.proofs.mapped.MappedToken.push.Goals as goal

pub returns-clause-stops : goal.returns-clause-stops
returns-clause-stops g c = mapped_stops g.T.Token.means g.F.MapValue.mapped c.push.new.self c.args.bytes.now c.push.result c.push.ensures.stops

use Rattle.cg_value.specs.LinesOfLaws.{ended_whole}
use Rattle.cg_file.proofs.raw.RawFileToken.take.Goals as goal

pub unreachable-requires : goal.unreachable-requires
unreachable-requires c = c.in-Err.ensures.err.1 ((ended_whole c.args.self.text.items).0 c.requires)

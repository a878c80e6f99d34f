use Rattle.cg_file.specs.FlatFileLaws.{new_refused}
use Rattle.cg_file.proofs.flat.FlatPairsCollectionDecimalText.push.Goals as goal

pub unreachable-requires : goal.unreachable-requires
unreachable-requires c = new_refused c.push.result c.in-Err.field-0 c.args.key c.args.self.now.building.pairs c.in-Err.is c.requires.new c.push.ensures.repeated (c.push.ensures.room c.requires.room)

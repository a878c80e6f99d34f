use Rattle.std.proofs.Common.{sym, ◌∙◌}
use Rattle.cg_file.specs.FlatFileLaws.{added_new}
use Rattle.cg_file.proofs.flat.FlatPairsCollectionDecimalText.add.Goals as goal

pub returns-clause-new : goal.returns-clause-new
returns-clause-new c e = added_new c.push.result c.args.key c.args.self.now.building.pairs (sym c.is_ok.ensures.value ∙ e) c.push.ensures.repeated

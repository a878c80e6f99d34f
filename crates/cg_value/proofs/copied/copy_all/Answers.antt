use Rattle.std.proofs.Common.{◌∙◌}
use Rattle.cg_value.specs.CopiedLaws.{one_copied, key_is_new}
use Rattle.cg_value.proofs.copied.copy_all.Goals as goal

pub push-requires-clause-new : goal.push-requires-clause-new
push-requires-clause-new g c =
    key_is_new c.args.cells.now c.loop-cell.cell-index c.cell-item.result c.in_ok-copy.copy c.reserve.new.self.items
    c.loop-cell-test.true c.cell-item.is c.in_ok-copy.ensures (c.reserve.ensures.items ∙ c.loop-cell.invariant) g.T.HasKey.key_of c.requires

pub loop-cell-preserved : goal.loop-cell-preserved
loop-cell-preserved g c =
    c.push.ensures
    ∙ one_copied c.args.cells.now c.loop-cell.cell-index c.cell-item.result c.in_ok-copy.copy c.reserve.new.self.items
    c.loop-cell-test.true c.cell-item.is c.in_ok-copy.ensures (c.reserve.ensures.items ∙ c.loop-cell.invariant)

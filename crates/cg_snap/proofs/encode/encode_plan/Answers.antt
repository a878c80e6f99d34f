use Rattle.std.proofs.Common.{◌∙◌}
use Rattle.cg_snap.specs.EncodeLaws.{items_more}
use Rattle.cg_snap.proofs.encode.encode_plan.Goals as goal

pub loop-item-preserved : goal.loop-item-preserved
loop-item-preserved c =
    c.in_ok-append_item.ensures.added ∙ items_more c.args.items.now c.loop-item.item-index c.item-item.result c.loop-item.text.items c.loop-item-test.true c.item-item.is c.loop-item.invariant

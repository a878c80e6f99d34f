use Rattle.std.proofs.Common.{◌∙◌}
use Rattle.cg_snap.specs.EncodeLaws.{entries_more}
use Rattle.cg_snap.proofs.encode.records_of.Goals as goal

pub loop-entry-preserved : goal.loop-entry-preserved
loop-entry-preserved c =
    c.in_ok-append_entry.ensures.added ∙ entries_more c.args.entries.now c.loop-entry.entry-index c.entry-item.result c.loop-entry.text.items c.loop-entry-test.true c.entry-item.is c.loop-entry.invariant

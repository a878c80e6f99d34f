use Rattle.std.proofs.Common.{◌≡◌, take}
use Rattle.cg_snap.specs.Laws.{print_items}
use Rattle.cg_snap.proofs.encode.encode_plan.Given as goal

abbrev pub invariant-loop-item : goal.invariant-loop-item
invariant-loop-item l = l.text.items ≡ print_items (take l.item-index l.items)

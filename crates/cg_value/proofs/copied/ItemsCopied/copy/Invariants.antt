use Rattle.std.proofs.Common.{◌≡◌, take}
use Rattle.cg_value.proofs.copied.ItemsCopied.copy.Given as goal

abbrev pub invariant-loop-item : goal.invariant-loop-item
invariant-loop-item g l = l.held.items ≡ take l.item-index l.item-items

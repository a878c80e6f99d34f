use Rattle.std.proofs.Common.{◌≡◌, take}
use Rattle.cg_text.specs.Token.{saturated}
use Rattle.cg_join.specs.Repeat.{items_size}
use Rattle.cg_join.proofs.store.held_in_all.Given as goal

abbrev pub invariant-loop-item : goal.invariant-loop-item
invariant-loop-item g l = l.total ≡ saturated (items_size g.T.Token.value_size (take l.item-index l.items))

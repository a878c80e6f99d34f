use Rattle.std.proofs.Common.{◌≡◌, ◌+◌, length, take}
use Rattle.std.specs.List.{sum_by}
use Rattle.cg_text.specs.Token.{saturated}
use Rattle.cg_value.proofs.flat.FlatBuilder.held.Given as goal

abbrev pub invariant-loop-pair : goal.invariant-loop-pair
invariant-loop-pair l = l.held ≡ saturated (length l.pair-items + sum_by (λ cell. length cell.item.key) (take l.pair-index l.pair-items))

use Rattle.std.proofs.Common.{◌≡◌, ◌<◌, ◌+◌, length, take, get_or, [], ◌∷◌, ◌++◌, sym, ◌∙◌, ap, arith}
use Rattle.std.proofs.lemmas.List.{take_more}
use Rattle.cg_join.specs.Repeat.{items_size}
use Rattle.cg_join.specs.RepeatLaws.{saturated_more, size_pushed}
use Rattle.cg_join.proofs.store.held_in_all.Goals as goal

pub loop-item-preserved : goal.loop-item-preserved
loop-item-preserved g c =
    let f = g.T.Token.value_size in
    let xs = c.args.items.now in
    let i = c.loop-item.item-index in
    let v = c.item-item.result in
    let lt : i < length xs = omega arith in
    let at : get_or xs i v ≡ v = sym c.item-item.is in
    saturated_more (items_size f (take i xs)) (f v) (items_size f (take (i + 1) xs)) c.loop-item.total c.saturating_add.result c.held_in.result c.saturating_add-total.result
    c.loop-item.invariant c.saturating_add.ensures c.held_in.ensures c.saturating_add-total.ensures
    (size_pushed f (take (i + 1) xs) (take i xs) v (take_more xs i v lt ∙ ap (λ x. take i xs ++ x ∷ []) at))

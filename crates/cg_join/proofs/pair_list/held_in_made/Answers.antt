use Rattle.std.proofs.Common.{◌≡◌, ◌+◌, ◌∙◌, ap, arith}
use Rattle.cg_index.specs.Cells.{item_of}
use Rattle.cg_join.specs.Pairs.{pair_size}
use Rattle.cg_join.specs.RepeatLaws.{saturated_item, saturated_sum}
use Rattle.cg_text.specs.contracts.word.WordTextToken.TheImpl as word_text
use Rattle.cg_join.proofs.pair_list.held_in_made.Goals as goal

pub loop-cell-preserved : goal.loop-cell-preserved
loop-cell-preserved g c =
    let k = word_text.ghosts.value_size in
    let d = g.V.Token.value_size in
    let w = g.F.MakePair.key_of in
    let v = g.F.MakePair.value_of in
    let f = pair_size w v k d in
    let x = c.cell-item.result.item in
    let key : k c.key.result.now ≡ k (w x) = ap k (c.key.ensures ∙ ap (λ h. h x) g.met.F.MakePair.keyed) in
    let value : d c.value.result.now ≡ d (v x) = ap d c.value.ensures in
    let sum : f x ≡ k c.key.result.now + d c.value.result.now = omega (arith, key, value) in
    let one = saturated_sum (k c.key.result.now) (d c.value.result.now) (f x) c.held_in-key.result c.held_in.result c.saturating_add-size.result
    c.held_in-key.ensures c.held_in.ensures c.saturating_add-size.ensures sum in
    saturated_item f item_of c.args.cells.now c.loop-cell.cell-index c.cell-item.result c.args.places c.loop-cell.total c.saturating_add-size.result c.saturating_add-total.result
    c.loop-cell-test.true c.cell-item.is c.loop-cell.invariant one c.saturating_add-total.ensures

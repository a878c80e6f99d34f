use Rattle.std.proofs.Common.{length, ap, ◌∙◌, arith}
use Rattle.std.proofs.lemmas.List.{length-map, take_all}
use Rattle.cg_text.specs.Token.{saturated}
use Rattle.cg_index.specs.Cells.{item_of}
use Rattle.cg_value.specs.declared.flat.FlatPair.{FlatPair}
use Rattle.cg_value.specs.Flat.{Building, flat_size}
use Rattle.cg_value.specs.FlatLaws.{parts_size}
use Rattle.cg_value.proofs.flat.FlatBuilder.held.Goals as goal

pub loop-pair-init : goal.loop-pair-init
loop-pair-init c = omega (arith, c.places-held.ensures, ap length c.cells-pair-items.ensures.items, length-map c.cells-pair-items.result.now (item_of {T = FlatPair}))

pub returns : goal.returns
returns c =
    let cells = c.cells-pair-items.result.now in
    let whole = c.loop-pair.invariant ∙ rw (take_all c.loop-pair.pair-index cells c.loop-pair-test.false) (ap saturated (parts_size cells)) in
    whole ∙ ap (λ ps. saturated (flat_size ps)) (c.cells-pair-items.ensures.items ∙ ap (λ (b : Building). b.pairs) c.self.view_is)

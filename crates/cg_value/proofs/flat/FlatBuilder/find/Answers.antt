use Rattle.std.proofs.Common.{◌<◌, length, sym, ap, ◌∙◌, arith}
use Rattle.std.proofs.lemmas.List.{length-map}
use Rattle.cg_index.specs.Cells.{item_of}
use Rattle.cg_index.specs.CellLaws.{key_in}
use Rattle.cg_index.specs.PlaceLaws.{found_none, found_place}
use Rattle.cg_index.specs.Tree.{key_at}
use Rattle.cg_index.specs.declared.cell.Cell.{Cell}
use Rattle.cg_value.specs.declared.flat.FlatPair.{FlatPair}
use Rattle.cg_value.specs.Flat.{Building}
use Rattle.cg_value.specs.FlatLaws.{keys_of, place_of_keys}
use Rattle.cg_value.proofs.flat.FlatBuilder.find.Goals as goal

pub returns-in-None-clause-place : goal.returns-in-None-clause-place
returns-in-None-clause-place c =
    let pairs_is = ap (λ (b : Building). b.pairs) c.self.view_is in
    let pairs = c.self.inside.built.items in
    rw (← pairs_is) (sym (found_none (keys_of pairs) c.args.key.now c.nearest.result c.in-None.is c.nearest.ensures.only) ∙ place_of_keys c.args.key.now pairs)

pub returns-in-Some-clause-place : goal.returns-in-Some-clause-place
returns-in-Some-clause-place c =
    let pairs_is = ap (λ (b : Building). b.pairs) c.self.view_is in
    let pairs = c.self.inside.built.items in
    let cells = c.cells.result.now in
    let same = c.cells.ensures.items in
    let place = c.in-Some.place in
    let cell = c.index-cells-place in
    let there : place < length (keys_of pairs) = omega (arith, c.in-Some.ensures.within, length-map pairs (λ (p : FlatPair). p.key)) in
    let within : place < length cells = omega (arith, c.in-Some.ensures.within, ap length same, length-map cells (item_of {T = FlatPair})) in
    let seen = c.bytes.ensures.bytes ∙ ap (λ (x : Cell FlatPair). x.item.key) (sym cell.is) ∙ sym (key_in (λ (p : FlatPair). p.key) cells place cell.result within cell.is)
    ∙ ap (λ ps. key_at (keys_of ps) place) same in
    rw (← pairs_is) (c.then_some.ensures
    ∙ found_place (keys_of pairs) c.cells.ensures.distinct place c.bytes.result.now c.args.key.now c.eq.result there c.in-Some.ensures.only seen c.eq.ensures
    ∙ place_of_keys c.args.key.now pairs)

use Rattle.std.proofs.Common.{◌<◌, length, map, ap, sym, ◌∙◌, arith}
use Rattle.std.proofs.lemmas.List.{length-map}
use Rattle.cg_index.specs.Cells.{item_of}
use Rattle.cg_index.specs.CellLaws.{item_there}
use Rattle.cg_index.specs.PlaceLaws.{keys_read, found_place, found_none}
use Rattle.cg_index.proofs.keyed.KeyedBuilder.find.Goals as goal

pub returns-in_err-place : goal.returns-in_err-place
returns-in_err-place g c =
    let keys = map g.T.HasKey.key_of c.args.self.now.items in
    c.from_residual.ensures ∙ sym (found_none keys c.args.key.now c.nearest.result c.in_err-place.was c.nearest.ensures.only)

pub returns : goal.returns
returns g c =
    let key = g.T.HasKey.key_of in
    let cells = c.self.inside.cells.items in
    let items = map item_of cells in
    let place = c.in_ok-place.place in
    let within = rw (← c.self.view_is) at c.in_ok-place.ensures.within in
    let only = rw (← c.self.view_is) at c.in_ok-place.ensures.only in
    let there : place < length (map key items) = omega (arith, within, length-map items key) in
    let read = item_there cells place c.index.result.now (omega (arith, within, length-map cells item_of)) c.index.ensures in
    let seen = c.bytes.ensures.bytes ∙ c.key.ensures ∙ ap key (sym read) ∙ sym (keys_read key items place c.index.result.now.item within) in
    rw (← c.self.view_is) (c.then_some.ensures ∙ found_place (map key items) c.self.invariant.distinct place c.bytes.result.now c.args.key.now c.eq.result there only seen c.eq.ensures)

use Rattle.std.proofs.Common.{◌≡◌, ℕ, ◌<◌, List, length, get_or, map, Some, sym, ap, ◌∙◌, arith}
use Rattle.std.proofs.lemmas.List.{get_or-map, length-map}
use Rattle.cg_index.specs.Cells.{item_of}
use Rattle.cg_index.specs.declared.cell.Cell.{Cell}
use Rattle.cg_value.specs.declared.flat.FlatPair.{FlatPair}
use Rattle.cg_value.specs.Flat.{place_of}
use Rattle.cg_value.specs.FlatLaws.{place_within, number_there, no_number}
use Rattle.cg_value.proofs.flat.Flat.get.Goals as goal

-- The place that is found is that of a cell.
within : (key : List ℕ) (cells : List (Cell FlatPair)) (pairs : List FlatPair) (place : ℕ) → map item_of cells ≡ pairs → place_of key pairs ≡ Some place → place < length cells
within key cells pairs place same found = omega (arith, place_within key pairs place found, ap length same, length-map cells (item_of {T = FlatPair}))

pub bounds-pairs-place : goal.bounds-pairs-place
bounds-pairs-place c = within c.args.key.now c.pairs.result.now c.args.self.now c.in-Some.place c.pairs.ensures.pairs (sym c.find.ensures.place ∙ c.in-Some.is)

pub bounds-pairs-place-in-Some : goal.bounds-pairs-place-in-Some
bounds-pairs-place-in-Some c = within c.args.key.now c.pairs.result.now c.args.self.now c.in-Some.place c.pairs.ensures.pairs (sym c.find.ensures.place ∙ c.in-Some.is)

pub offset_bounds-pairs-place : goal.offset_bounds-pairs-place
offset_bounds-pairs-place c =
    let inside = within c.args.key.now c.pairs.result.now c.args.self.now c.in-Some.place c.pairs.ensures.pairs (sym c.find.ensures.place ∙ c.in-Some.is) in
    omega (arith, inside)

pub returns-in-Some : goal.returns-in-Some
returns-in-Some c =
    let cells = c.pairs.result.now in
    let place = c.in-Some.place in
    let cell = c.index-pairs-place.result in
    let found = sym c.find.ensures.place ∙ c.in-Some.is in
    let inside = within c.args.key.now cells c.args.self.now place c.pairs.ensures.pairs found in
    let read = sym (get_or-map item_of cells place cell cell.item inside) ∙ ap (λ ps. get_or ps place cell.item) c.pairs.ensures.pairs in
    ap (λ (p : FlatPair). Some p.number) read ∙ sym (number_there c.args.key.now c.args.self.now place cell.item found)

pub returns-in-None : goal.returns-in-None
returns-in-None c = sym (no_number c.args.key.now c.args.self.now (sym c.find.ensures.place ∙ c.in-None.is))

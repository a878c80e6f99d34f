use Rattle.std.proofs.Common.{◌≡◌, ◌<◌, length, map, sym, arith}
use Rattle.std.proofs.lemmas.List.{length-map}
use Rattle.cg_index.specs.Cells.{fork_of}
use Rattle.cg_index.specs.GrownLaws.{edge_point, first_point}
use Rattle.cg_index.proofs.tree.point_near.Goals as goal

pub returns-then-place-eq0 : goal.returns-then-place-eq0
returns-then-place-eq0 g c = λ keys of near.
    let count : length (map fork_of c.args.cells.now) ≡ 0 = omega (arith, c.if-place-eq0.true, length-map c.args.cells.now fork_of) in
    first_point _ keys c.args.key.now c.none.result of count c.none.ensures

pub returns : goal.returns
returns g c = λ keys of near.
    let cells = c.args.cells.now in
    let count : length cells ≡ length (map fork_of cells) = sym (length-map cells fork_of) in
    let some : 0 < length (map fork_of cells) = omega (arith, count, c.if-place-eq0.false) in
    edge_point _ keys c.args.key.now c.args.near.now c.first_difference-at.result c.edge_before-edge.result (length cells) c.new.result
    of near count some (record { differs = c.first_difference-at.ensures.differs; below = c.first_difference-at.ensures.below }) c.edge_before-edge.ensures c.new.ensures c.first_difference-at.ensures.digit (omega arith)

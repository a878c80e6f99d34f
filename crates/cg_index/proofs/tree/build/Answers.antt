use Rattle.std.proofs.Common.{◌<◌, length, set, refl, ap, ◌∙◌, arith}
use Rattle.std.proofs.Math.Seq.{map-set_same}
use Rattle.std.proofs.lemmas.List.{map-set}
use Rattle.cg_index.specs.Cells.{item_of, fork_of}
use Rattle.cg_index.specs.CellLaws.{built, taken_lacks}
use Rattle.cg_index.specs.declared.cell.Links.TheVariants as links
use Rattle.cg_index.proofs.tree.build.Goals as goal

pub new_point-point-requires-clause-new : goal.new_point-point-requires-clause-new
new_point-point-requires-clause-new g c =
    let key = g.T.HasKey.key_of in
    let old = c.loop-place.cells.items in
    let within : c.loop-place.place < length old = omega (arith, c.loop-place-test.true, c.len-place-end.ensures, c.loop-place.invariant.len, c.loop-place.cells.ok.0) in
    rw (c.deref.ensures.value, c.key.ensures) (taken_lacks key old c.loop-place.place c.index.result.now (rw (c.loop-place.invariant.items) c.requires) within c.index.ensures)

pub loop-place-preserved : goal.loop-place-preserved
loop-place-preserved g c =
    let key = g.T.HasKey.key_of in
    let old = c.loop-place.cells.items in
    let place = c.loop-place.place in
    let within : place < length old = omega (arith, c.loop-place-test.true, c.len-place-end.ensures, c.loop-place.invariant.len, c.loop-place.cells.ok.0) in
    let items = map-set_same item_of c.redirect-root.new.cells.items place (record c.index_mut.result.now { links = links.Tree c.new_point-point.result.fork }) c.index_mut.result.now (ap item_of c.index_mut.ensures.value) ∙ c.redirect-root.ensures.items in
    let forks = map-set fork_of c.redirect-root.new.cells.items place (record c.index_mut.result.now { links = links.Tree c.new_point-point.result.fork }) ∙ ap (λ v. set v place c.new_point-point.result.fork) c.redirect-root.ensures.forks in
    let point = rw (c.deref.ensures.value, c.key.ensures) at c.new_point-point.ensures in
    record {
      items = items ∙ c.loop-place.invariant.items;
      tree = rw (c.redirect-root.ensures.root) (built key old _ place c.loop-place.root c.index.result.now.item c.new_point-point.result c.index.result.now within c.index.ensures refl point items forks);
      len = c.redirect-root.ensures.len ∙ c.loop-place.invariant.len;
      capacity = c.redirect-root.ensures.capacity ∙ c.loop-place.invariant.capacity;
    }

use Rattle.std.proofs.Common.{map, sym}
use Rattle.cg_index.specs.Cells.{item_of}
use Rattle.cg_index.specs.Keyed.{is_among}
use Rattle.cg_index.specs.KeyedLaws.{not_among}
use Rattle.cg_index.specs.FoundLaws.{keyed_grown}
use Rattle.cg_index.proofs.keyed.KeyedBuilder.add_by_tree.Goals as goal

pub invariant_of-self : goal.invariant_of-self
invariant_of-self g c =
    let key = g.T.HasKey.key_of in
    let keys = map key (map item_of c.self.inside.cells.items) in
    let there = rw (c.as_slice.ensures.value) at c.in-Some-point_of.ensures.there in
    let lacks = rw (c.key.ensures) at (not_among c.key.result.now keys (sym {b = is_among c.key.result.now keys} there)) in
    keyed_grown key (map item_of c.self.inside.cells.items) c.args.item c.self.invariant.distinct lacks (rw (← c.make_room.ensures.items) c.insert.ensures.items) c.insert.ensures.tree

use Rattle.std.proofs.Common.{◌≡◌, ◌-◌, length, arith, ap}
use Rattle.std.proofs.Math.Seq.{map-set_same}
use Rattle.cg_index.specs.Cells.{places_of, fork_of}
use Rattle.cg_index.specs.CellLaws.{last_part}
use Rattle.cg_index.specs.KeyedLaws.{changed_keys}
use Rattle.cg_index.proofs.keyed.KeyedBuilder.change_last.Goals as goal

pub invariant_of-self : goal.invariant_of-self
invariant_of-self g c =
    let cells = c.self.inside.cells in
    let count : c.len-last.result ≡ length cells.items = omega (arith, c.len-last.ensures, cells.ok.0) in
    let some = rw (← c.self.view_is) at c.requires in
    let changed = last_part g.C.Change.changed c.args.part cells.items c.len-last.result c.index_mut.result.now (record c.index_mut.result.now { item = c.change.new.item }) count some c.index_mut.ensures.value c.change.ensures in
    let set = record c.index_mut.result.now { item = c.change.new.item } in
    rw (
      changed_keys g.T.HasKey.key_of g.C.Change.changed g.met.C.Change.same_key changed,
      map-set_same places_of cells.items (c.len-last.result - 1) set c.index_mut.result.now (ap places_of c.index_mut.ensures.value),
      map-set_same fork_of cells.items (c.len-last.result - 1) set c.index_mut.result.now (ap fork_of c.index_mut.ensures.value),
    ) c.self.invariant

pub returns-clause-items : goal.returns-clause-items
returns-clause-items g c =
    let cells = c.self.inside.cells in
    let count : c.len-last.result ≡ length cells.items = omega (arith, c.len-last.ensures, cells.ok.0) in
    let some = rw (← c.self.view_is) at c.requires in
    rw (← c.self.view_is) (last_part g.C.Change.changed c.args.part cells.items c.len-last.result c.index_mut.result.now (record c.index_mut.result.now { item = c.change.new.item }) count some c.index_mut.ensures.value c.change.ensures)

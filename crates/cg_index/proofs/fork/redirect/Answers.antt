use Rattle.std.proofs.Common.{ap}
use Rattle.std.proofs.Math.Seq.{map-set_same}
use Rattle.cg_index.specs.Cells.{item_of}
use Rattle.cg_index.specs.CellLaws.{turned_there}
use Rattle.cg_index.proofs.fork.redirect.Goals as goal

pub returns-in-Some-clause-items : goal.returns-in-Some-clause-items
returns-in-Some-clause-items g c =
    map-set_same item_of c.args.cells.now.items c.in-Some.place _ c.index_mut.result.now (ap item_of c.index_mut.ensures.value)

pub returns-in-Some-clause-forks : goal.returns-in-Some-clause-forks
returns-in-Some-clause-forks g c =
    let here = rw c.in-Some.is at c.requires in
    rw c.in-Some.is (turned_there c.args.cells.now.items c.in-Some.place c.index.result.now _ c.fork.result c.args.point.digit c.args.point.link here c.index.ensures c.fork.ensures c.turned.ensures)

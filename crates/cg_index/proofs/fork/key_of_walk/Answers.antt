use Rattle.std.proofs.Common.{map}
use Rattle.cg_index.specs.Cells.{fork_of}
use Rattle.cg_index.specs.CellLaws.{fork_there}
use Rattle.cg_index.specs.Position.{side}
use Rattle.cg_index.specs.Tree.{at, here, turn}
use Rattle.cg_index.specs.TreeLaws.{below_fork, child_read, digit_read, left_falls, goes_on}
use Rattle.cg_index.proofs.fork.key_of_walk.Goals as goal

pub returns-in-Key-clause-leads : goal.returns-in-Key-clause-leads
returns-in-Key-clause-leads g c = c.loop-link.invariant.leads c.in-Key.place (rw (c.in-Key.is) here)

pub side-requires : goal.side-requires
side-requires g c =
    let forks = map fork_of c.args.cells.now in
    let there = below_fork forks 0 c.loop-link.link c.in-Fork.place c.in-Fork.is c.loop-link.invariant.below in
    let read = fork_there c.args.cells.now c.in-Fork.place c.index-cells-place.result c.fork-fork.result there.1 c.index-cells-place.is c.fork-fork.ensures in
    digit_read forks c.in-Fork.place _ read c.requires.tree there.1

pub loop-link-smaller : goal.loop-link-smaller
loop-link-smaller g c =
    let forks = map fork_of c.args.cells.now in
    let there = below_fork forks 0 c.loop-link.link c.in-Fork.place c.in-Fork.is c.loop-link.invariant.below in
    let read = fork_there c.args.cells.now c.in-Fork.place c.index-cells-place.result c.fork-fork.result there.1 c.index-cells-place.is c.fork-fork.ensures in
    let goes = child_read forks c.in-Fork.place _ read c.args.key.now c.side.result c.child_at-link.result c.side.ensures c.child_at-link.ensures in
    rw (c.in-Fork.is) (left_falls c.requires.tree c.in-Fork.place there.0 there.1 (side c.args.key.now (at forks c.in-Fork.place)) c.child_at-link.result goes)

pub loop-link-preserved : goal.loop-link-preserved
loop-link-preserved g c =
    let forks = map fork_of c.args.cells.now in
    let there = below_fork forks 0 c.loop-link.link c.in-Fork.place c.in-Fork.is c.loop-link.invariant.below in
    let read = fork_there c.args.cells.now c.in-Fork.place c.index-cells-place.result c.fork-fork.result there.1 c.index-cells-place.is c.fork-fork.ensures in
    let goes = child_read forks c.in-Fork.place _ read c.args.key.now c.side.result c.child_at-link.result c.side.ensures c.child_at-link.ensures in
    record {
      below = goes_on c.requires.tree c.in-Fork.place there.0 there.1 (side c.args.key.now (at forks c.in-Fork.place)) c.child_at-link.result goes;
      leads = λ k w. c.loop-link.invariant.leads k (rw (c.in-Fork.is) (turn (rw goes at w)));
    }

use Rattle.std.proofs.Common.{map}
use Rattle.cg_index.specs.Cells.{fork_of}
use Rattle.cg_index.specs.CellLaws.{fork_there}
use Rattle.cg_index.specs.Position.{side}
use Rattle.cg_index.specs.Tree.{at}
use Rattle.cg_index.specs.TreeLaws.{at_read, turn_read, child_read, digit_read, left_falls, walk_within, walk_on, walk_ends, not_before}
use Rattle.cg_index.proofs.fork.edge_before.Goals as goal

pub is_before-requires-clause-digit : goal.is_before-requires-clause-digit
is_before-requires-clause-digit g c =
    let there = walk_within c.requires.tree c.loop-edge.invariant c.in-Fork.is in
    let read = fork_there c.args.cells.now c.in-Fork.place c.index-cells-place.result c.fork-fork.result there.1 c.index-cells-place.is c.fork-fork.ensures in
    digit_read (map fork_of c.args.cells.now) c.in-Fork.place _ read c.requires.tree there.1

pub side-digit-requires : goal.side-digit-requires
side-digit-requires g c =
    let there = walk_within c.requires.tree c.loop-edge.invariant c.in-Fork.is in
    let read = fork_there c.args.cells.now c.in-Fork.place c.index-cells-place.result c.fork-fork.result there.1 c.index-cells-place.is c.fork-fork.ensures in
    digit_read (map fork_of c.args.cells.now) c.in-Fork.place _ read c.requires.tree there.1

pub loop-edge-smaller : goal.loop-edge-smaller
loop-edge-smaller g c =
    let forks = map fork_of c.args.cells.now in
    let there = walk_within c.requires.tree c.loop-edge.invariant c.in-Fork.is in
    let read = fork_there c.args.cells.now c.in-Fork.place c.index-cells-place.result c.fork-fork.result there.1 c.index-cells-place.is c.fork-fork.ensures in
    let goes = child_read forks c.in-Fork.place _ read c.args.key.now c.side-digit.result c.child_at.result c.side-digit.ensures c.child_at.ensures in
    rw (c.in-Fork.is) (left_falls c.requires.tree c.in-Fork.place there.0 there.1 (side c.args.key.now (at forks c.in-Fork.place)) c.child_at.result goes)

pub loop-edge-preserved : goal.loop-edge-preserved
loop-edge-preserved g c =
    let forks = map fork_of c.args.cells.now in
    let there = walk_within c.requires.tree c.loop-edge.invariant c.in-Fork.is in
    let read = fork_there c.args.cells.now c.in-Fork.place c.index-cells-place.result c.fork-fork.result there.1 c.index-cells-place.is c.fork-fork.ensures in
    let goes = child_read forks c.in-Fork.place _ read c.args.key.now c.side-digit.result c.child_at.result c.side-digit.ensures c.child_at.ensures in
    let before = c.is_before.ensures.0 c.if-not-is_before.false in
    let turns = turn_read forks c.in-Fork.place _ read c.args.key.now c.side-digit.result c.side-digit.ensures in
    walk_on c.requires.tree c.loop-edge.invariant c.in-Fork.is c.side-digit.result c.child_at.result turns goes (rw (at_read forks c.in-Fork.place _ read) before)

pub returns-then-not-is_before : goal.returns-then-not-is_before
returns-then-not-is_before g c =
    let there = walk_within c.requires.tree c.loop-edge.invariant c.in-Fork.is in
    let read = fork_there c.args.cells.now c.in-Fork.place c.index-cells-place.result c.fork-fork.result there.1 c.index-cells-place.is c.fork-fork.ensures in
    let at_is = at_read (map fork_of c.args.cells.now) c.in-Fork.place _ read in
    walk_ends c.requires.tree c.loop-edge.invariant c.in-Fork.is (not_before c.is_before.result _ _ (λ less. c.is_before.ensures.1 (rw (← at_is) less)) c.if-not-is_before.true)

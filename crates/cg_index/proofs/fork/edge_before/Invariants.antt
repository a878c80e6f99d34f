use Rattle.std.proofs.Common.{map}
use Rattle.cg_index.specs.Cells.{fork_of}
use Rattle.cg_index.specs.Position.{number}
use Rattle.cg_index.specs.TreeLaws.{left, IsWalk}
use Rattle.cg_index.proofs.fork.edge_before.Given as goal

abbrev pub invariant-loop-edge : goal.invariant-loop-edge
invariant-loop-edge g l = IsWalk (map fork_of l.cells) l.fn.root l.key (number l.at) l.edge

abbrev pub decreases-loop-edge : goal.decreases-loop-edge
decreases-loop-edge g l = left (map fork_of l.cells) l.edge.to

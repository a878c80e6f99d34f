use Rattle.std.proofs.Common.{ℕ, map}
use Rattle.cg_index.specs.Cells.{fork_of}
use Rattle.cg_index.specs.Tree.{IsBelow, Leads}
use Rattle.cg_index.specs.TreeLaws.{left}
use Rattle.cg_index.proofs.fork.key_of_walk.Given as goal

abbrev pub invariant-loop-link : goal.invariant-loop-link
invariant-loop-link g l = record {
  below : IsBelow (map fork_of l.cells) 0 l.link;
  leads : (k : ℕ) → Leads (map fork_of l.cells) l.key l.link k → Leads (map fork_of l.cells) l.key l.fn.root k;
}

abbrev pub decreases-loop-link : goal.decreases-loop-link
decreases-loop-link g l = left (map fork_of l.cells) l.link

use Rattle.std.proofs.Common.{◌≡◌, map, take}
use Rattle.std.specs.Prelude.{vec_len, vec_capacity}
use Rattle.cg_index.specs.Cells.{item_of, tree_of}
use Rattle.cg_index.specs.Tree.{Indexes}
use Rattle.cg_index.proofs.tree.build.Given as goal

abbrev pub invariant-loop-place : goal.invariant-loop-place
invariant-loop-place g l = record {
  items : map item_of l.cells.items ≡ map item_of l.fn.cells.items;
  tree : Indexes (tree_of (take l.place l.cells.items) l.root) (map g.T.HasKey.key_of (map item_of (take l.place l.cells.items)));
  len : vec_len l.cells ≡ vec_len l.fn.cells;
  capacity : vec_capacity l.cells ≡ vec_capacity l.fn.cells;
}

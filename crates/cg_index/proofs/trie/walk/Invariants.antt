use Rattle.std.proofs.Common.{◌-◌, length, map}
use Rattle.cg_index.specs.Cells.{item_of, places_of}
use Rattle.cg_index.specs.Trie.{Ends, IsEnd}
use Rattle.cg_index.specs.declared.trie.End.{End}
use Rattle.cg_index.proofs.trie.walk.Given as goal

abbrev pub invariant-loop-cell : goal.invariant-loop-cell
invariant-loop-cell g l = (e : End) → Ends (map places_of l.cells) (map g.T.HasKey.key_of (map item_of l.cells)) l.hash l.rest l.place e →
    IsEnd (map places_of l.cells) (map g.T.HasKey.key_of (map item_of l.cells)) l.hash e

abbrev pub decreases-loop-cell : goal.decreases-loop-cell
decreases-loop-cell g l = length l.cells - l.place

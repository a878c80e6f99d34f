-- Items in cells, and the links that lie with them.
use Rattle.std.specs.Prelude.{ℕ, List, [], ◌∷◌, map}
use Rattle.cg_index.specs.Tree.{Indexed, no_fork}
use Rattle.cg_index.specs.declared.cell.Cell.{Cell}
use Rattle.cg_index.specs.declared.cell.Links.{Links}
use Rattle.cg_index.specs.declared.cell.Links.TheVariants as links
use Rattle.cg_index.specs.declared.fork.Fork.{Fork}
use Rattle.cg_index.specs.declared.fork.Link.{Link}

-- The item in a cell.
abbrev pub item_of : {T : Type 0} → Cell T → T
item_of cell = cell.item

-- The places to which links of a trie lead, by two digits, and none of a tree.
abbrev pub places_in : Links → List ℕ
places_in (links.Trie places) = places
places_in (links.Tree fork) = []

-- The fork of a tree, and one that counts for nothing of a trie.
abbrev pub fork_in : Links → Fork
fork_in (links.Trie places) = no_fork
fork_in (links.Tree fork) = fork

-- Links that lead nowhere.
abbrev pub no_links : Links
no_links = links.Trie (0 ∷ 0 ∷ 0 ∷ 0 ∷ [])

abbrev pub places_of : {T : Type 0} → Cell T → List ℕ
places_of cell = places_in cell.links

abbrev pub fork_of : {T : Type 0} → Cell T → Fork
fork_of cell = fork_in cell.links

-- The tree of the forks in the cells, over which walks begin at the link.
abbrev pub tree_of : {T : Type 0} → List (Cell T) → Link → Indexed
tree_of cells root = record { forks = map fork_of cells; root = root }

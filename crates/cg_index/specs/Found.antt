-- Keys that are found by the trie of their hashes, and keys that are found by a tree.
use Rattle.std.specs.Prelude.{◌≡◌, ℕ, ◌<◌, List, Option, Some, None, length}
use Rattle.cg_text.specs.Distinct.{AreDistinct}
use Rattle.cg_index.specs.Tree.{Indexes, key_at}
use Rattle.cg_index.specs.Trie.{IsTrie, IsEnd}
use Rattle.cg_index.specs.declared.fork.Fork.{Fork}
use Rattle.cg_index.specs.declared.fork.Link.{Link}
use Rattle.cg_index.specs.declared.trie.End.TheVariants as end
use Rattle.cg_index.specs.declared.trie.Opening.{Opening}

-- Whichever of the keys this key is, it is the one at the place.
abbrev pub IsOnlyPlace : List (List ℕ) → List ℕ → Option ℕ → Type 0
IsOnlyPlace keys key place = (j : ℕ) → j < length keys → key_at keys j ≡ key → place ≡ Some j

-- There is no tree, and no key has the hash, which goes in here.
pub record IsOpening (trie keys : List (List ℕ)) (root : Option Link) (hash : ℕ) (at : Opening) : Type 0 where
  pub none : root ≡ None
  pub ends : IsEnd trie keys hash (end.Open at)

-- Where there is no tree, the links are those of the trie of the keys' hashes, and else the forks are those of the tree of the keys.
abbrev pub AreFoundBy : List (List ℕ) → List (List ℕ) → List Fork → Option Link → Type 0
AreFoundBy keys trie forks None = IsTrie trie keys
AreFoundBy keys trie forks (Some root) = Indexes (record { forks = forks; root = root }) keys

-- The keys are all different, and are found.
pub record IsKeyed (keys trie : List (List ℕ)) (forks : List Fork) (root : Option Link) : Type 0 where
  pub distinct : AreDistinct keys
  pub found : AreFoundBy keys trie forks root

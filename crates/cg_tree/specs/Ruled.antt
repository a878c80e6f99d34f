-- The entries that the rules for delegation speak of.
use Rattle.std.specs.Prelude.{ℕ, Bool, List, [], ◌∷◌, codes}
use Rattle.std.specs.List.{filter}
use Rattle.cg_value.specs.Entry.{EntryData}
use Rattle.cg_tree.specs.Directory.{name_of}
use Rattle.cg_tree.specs.Find.{is_among}

-- The names of their files.
abbrev pub ruled_names : List (List ℕ)
ruled_names = codes "cgroup.controllers" ∷ codes "cgroup.subtree_control" ∷ codes "cgroup.procs" ∷ codes "cgroup.type" ∷ []

abbrev pub is_ruled : List ℕ → Bool
is_ruled name = is_among name ruled_names

-- Those of the entries that have such a name, in order.
abbrev pub ruled : List EntryData → List EntryData
ruled es = filter (λ e. is_ruled (name_of e.path)) es

-- The files of a hierarchy.
use Rattle.std.specs.Prelude.{ℕ, List, [], ◌∷◌, take, length}
use Rattle.std.specs.List.{filter}
use Rattle.std.specs.Str.{bytes_eq}
use Rattle.cg_value.specs.Entry.{EntryData}
use Rattle.cg_tree.specs.Directory.{directory_of, name_of}
use Rattle.cg_tree.specs.File.{FileData}
use Rattle.cg_tree.specs.Picked.{picked}

-- The file of an entry with its place.
abbrev pub file_of : ℕ × EntryData → FileData
file_of p = record { place = p.0; directory = directory_of p.1.path; value = p.1.value }

-- The entries of this name, in order.
abbrev pub named : List ℕ → List EntryData → List FileData
named name es = picked (λ p. bytes_eq (name_of p.1.path) name) file_of es

-- Those of the files that lie in the directory.
abbrev pub within : List ℕ → List FileData → List FileData
within directory fs = filter (λ f. bytes_eq f.directory directory) fs

-- Those that lie in the directory above it: its own, without its last byte, which is a '/'. Above the empty one there is none.
abbrev pub above : List ℕ → List FileData → List FileData
above [] fs = []
above (b ∷ bs) fs = within (directory_of (take (length bs) (b ∷ bs))) fs

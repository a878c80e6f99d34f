-- The parts of a path (cgroup-v2.rst, "Organizing Processes and Threads": each control group is a directory, its files lie in it,
-- and it lies in the directory of its parent).
use Rattle.std.specs.Prelude.{ℕ, ◌==◌, List, [], ◌∷◌, drop, length, if◌then◌else◌}
use Rattle.std.specs.List.{list_any}

-- The path up to and with its last '/', empty where there is none.
abbrev pub directory_of : List ℕ → List ℕ
directory_of [] = []
directory_of (b ∷ bs) = if list_any (λ c. c == 47) (b ∷ bs) then b ∷ directory_of bs else []

-- What follows it.
abbrev pub name_of : List ℕ → List ℕ
name_of path = drop (length (directory_of path)) path

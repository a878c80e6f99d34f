-- The records of a file among others, as they are in a snapshot and in a plan (grep manual, "-r" and "-Z": the file's name, a
-- NUL and the line).
use Rattle.std.specs.Prelude.{ℕ, List, [], ◌∷◌, ◌++◌}

-- A record for each line: the path, a NUL, the line and a newline.
abbrev pub records : List ℕ → List (List ℕ) → List ℕ
records path [] = []
records path (line ∷ lines) = path ++ 0 ∷ (line ++ 10 ∷ records path lines)

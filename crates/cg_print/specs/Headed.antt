-- Lines after a head: none in the text of a file, and a path with a mark in a text of many files.
use Rattle.std.specs.Prelude.{ℕ, List, [], ◌∷◌, ◌++◌}

-- The lines, each after the head and with its newline.
abbrev pub headed : List ℕ → List (List ℕ) → List ℕ
headed head [] = []
headed head (line ∷ lines) = head ++ (line ++ 10 ∷ headed head lines)

-- A file among others, as `grep -r` without `-Z` prints its lines, but with a space after the colon: the path, a colon, a space
-- and the line. So these are its records, each NUL replaced.
abbrev pub shown : List ℕ → List (List ℕ) → List ℕ
shown path [] = []
shown path (line ∷ lines) = path ++ 58 ∷ 32 ∷ (line ++ 10 ∷ shown path lines)

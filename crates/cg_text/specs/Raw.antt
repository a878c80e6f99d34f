-- Raw lines, and the reason of an invalid partition (cgroup-v2.rst, cpuset.cpus.partition).
use Rattle.std.specs.Prelude.{◌≡◌, ℕ, ◌<◌, ◌≢◌, List, [], ◌∷◌, ◌++◌}

-- Each byte is 1 to 255 and no newline.
abbrev pub IsRawLine : List ℕ → Type 0
IsRawLine [] = Unit {0}
IsRawLine (c ∷ cs) = (0 < c) × (c < 256) × (c ≢ 10) × IsRawLine cs

-- The text is a raw line's bytes and a closing parenthesis, its last byte.
abbrev pub IsReason : List ℕ → List ℕ → Type 0
IsReason reason text = (text ≡ reason ++ 41 ∷ []) × IsRawLine reason

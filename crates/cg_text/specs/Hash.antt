-- A small number of some bytes, by which nearly all keys are told apart at once.
use Rattle.std.specs.Prelude.{ℕ, ◌+◌, ◌*◌, ◌^◌, ◌%◌, List, [], ◌∷◌}

-- What it becomes with one more byte.
abbrev pub hash_after : ℕ → ℕ → ℕ
hash_after hash byte = ((hash * 31) % 2 ^ 32 + byte) % 2 ^ 32

abbrev pub hash_from : ℕ → List ℕ → ℕ
hash_from hash [] = hash
hash_from hash (b ∷ bs) = hash_from (hash_after hash b) bs

unfoldable pub hash_of : List ℕ → ℕ
hash_of bytes = hash_from 0 bytes

-- Sets of bytes, as a mark for each byte.
use Rattle.std.specs.Prelude.{ℕ, Bool, false, List, IsTrue, slice_index_or, count_by, replicate}

-- The byte is in the set.
abbrev pub HasByte : List Bool → ℕ → Type 0
HasByte marks byte = IsTrue (slice_index_or marks byte false)

-- No byte is in the set.
abbrev pub no_bytes : List Bool
no_bytes = replicate 256 false

-- How many bytes are in the set.
abbrev pub count_of : List Bool → ℕ
count_of marks = count_by (λ mark. mark) marks

-- What a call of a source does. The bytes to come are a list where they are known, and none where
-- they aren't, as for a terminal: then nothing is said of them.
use Rattle.std.specs.Prelude.{◌≡◌, ℕ, ◌+◌, ◌≤◌, ◌<◌, Bool, true, List, length, take, min, Option, Result, Ok, Err}
use Rattle.std.specs.Io.KnownBytes.{Keeps, Consumes, IsAtEnd}
use Rattle.cg_print.specs.declared.sink.Failed.{Failed}

-- One `pull` that left these bytes in the buffer, `old` being to come before it and `new` after it,
-- and `was` and `is` telling whether the source had failed.
abbrev pub Pulls : (old new : Option (List ℕ)) (was is : Bool) (buffer : List ℕ) → Result ℕ Failed → Type 0
Pulls old new was is buffer (Ok n) = (n ≤ length buffer) × Consumes old new (take n buffer) × (n ≡ 0 → 0 < length buffer → IsAtEnd new) × (is ≡ was)
Pulls old new was is buffer (Err e) = Keeps old new × (is ≡ true) × (0 < length buffer)

-- one more ask, counted in 64 bits
abbrev pub ask_more : ℕ → ℕ
ask_more n = min (n + 1) 18446744073709551615

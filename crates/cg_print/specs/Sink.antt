-- What a call of a sink does. The bytes that a sink took are a list where they are known, and
-- none where they aren't, as for a terminal: then nothing is said of them.
use Rattle.std.specs.Prelude.{◌≡◌, ℕ, ◌≤◌, ◌<◌, Bool, true, List, length, take, Option, Result, Ok, Err}
use Rattle.std.specs.Io.KnownBytes.{Keeps, Appends}
use Rattle.cg_print.specs.declared.sink.Failed.{Failed}

-- One `put` of these bytes, the sink having taken `old` before it and `new` after it, and `was` and
-- `is` telling whether it had failed.
abbrev pub Puts : (old new : Option (List ℕ)) (was is : Bool) (bytes : List ℕ) → Result ℕ Failed → Type 0
Puts old new was is bytes (Ok n) = (n ≤ length bytes) × (0 < length bytes → 0 < n) × Appends old new (take n bytes) × (is ≡ was)
Puts old new was is bytes (Err e) = Keeps old new × (is ≡ true) × (0 < length bytes)

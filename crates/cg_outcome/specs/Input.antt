-- What a run read.
use Rattle.std.specs.Prelude.{◌≡◌, ℕ, Bool, false, List, Option}
use Rattle.std.specs.Io.KnownBytes.{IsAtEnd}

-- The bytes that were read, and how reading ended: what the source has left, and whether it has failed.
pub record Reading : Type 0 where
  pub bytes : List ℕ
  pub left : Option (List ℕ)
  pub failed : Bool

-- The source has nothing to come and hasn't failed.
abbrev pub IsEnded : Reading → Type 0
IsEnded r = IsAtEnd r.left × (r.failed ≡ false)

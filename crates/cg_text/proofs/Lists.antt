-- What a step of the ranges does to a list over them.
use Rattle.std.specs.Prelude.{ℕ, Bool, true, false, List, ◌∷◌, Ok, Err}
use Rattle.std.specs.declared.result.Result.{Result}
use Rattle.cg_text.specs.GivenRanges.{Gives, GivesOnly}
use Rattle.cg_text.specs.Token.{Follows, Same, IfTaken, UnlessTaken}
use Rattle.cg_text.specs.declared.memory.OutOfMemory.{OutOfMemory}
use Rattle.cg_text.specs.declared.ranges.RangesText.{RangesText}

-- What holds of the ranges whatever follows holds of those after a byte.
pub given_after : (Q : List (ℕ × ℕ) → Type 0) (old new : RangesText) (byte : ℕ) (r : Result Bool OutOfMemory) →
    IfTaken r (Follows Gives old byte new) → UnlessTaken r (Same Gives old new) → GivesOnly Q old → GivesOnly Q new
given_after Q old new byte (Ok true) f s g rest all h = g (byte ∷ rest) all ((f rest all).0 h)
given_after Q old new byte (Ok false) f s g rest all h = g rest all ((s rest all).0 h)
given_after Q old new byte (Err e) f s g rest all h = g rest all ((s rest all).0 h)

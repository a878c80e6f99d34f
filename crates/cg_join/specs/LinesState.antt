-- The state of a token of lines.
use Rattle.std.specs.Prelude.{ℕ, Bool, true, false, List}

-- The rests of the line at hand: P's of a line that is begun, and R's where none is.
abbrev pub at_hand : {V : Type 0} → Bool → (List ℕ → V → Type 0) → (List ℕ → V → Type 0) → List ℕ → V → Type 0
at_hand true P R = P
at_hand false P R = R

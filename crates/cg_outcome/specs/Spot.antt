-- What is written of a spot.
use Rattle.std.specs.Prelude.{ℕ, ◌+◌, ◌-◌, length, Bool, true, false, List, [], Option, Some, None}
use Rattle.cg_snap.specs.declared.stop.Stop.{Stop}
use Rattle.cg_snap.specs.declared.stop.Stop.TheVariants as stop
use Rattle.cg_outcome.specs.Explain.{explanation}
use Rattle.cg_outcome.specs.declared.spot.Spot.{Spot}

-- The line of a spot.
abbrev pub spot_words : Spot → List ℕ
spot_words spot = explanation (spot.ended + 1) spot.in_path spot.path.now (spot.before + 1) spot.byte spot.wanted

-- The same, if there is one.
abbrev pub more_words : Option Spot → List ℕ
more_words None = []
more_words (Some spot) = spot_words spot

-- A stop that is explained: the grammar refused a byte, or the input ended too early.
abbrev pub is_explained : Stop → Bool
is_explained (stop.Refused at why) = true
is_explained (stop.TooLong at) = false
is_explained (stop.TooMany at) = false
is_explained (stop.TooMuch at) = false
is_explained (stop.Cut at) = true

-- Of so many bytes that came of a record, those of its path or of its line.
abbrev pub before_in : (in_line : Bool) → List ℕ → ℕ → ℕ
before_in true path begun = begun - length path - 1
before_in false path begun = begun

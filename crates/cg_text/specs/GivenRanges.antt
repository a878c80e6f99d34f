-- What holds of the ranges of a list, whatever follows.
use Rattle.std.proofs.Common.{ℕ, ◌+◌, List, [], ◌∷◌}
use Rattle.std.proofs.Props.{props}
use Rattle.std.specs.Coded.{Unit-prop}
use Rattle.cg_text.specs.ListState.{IsListRest}
use Rattle.cg_text.specs.Numbers.{IsSet, IsSetFrom, AreRanges}
use Rattle.cg_text.specs.RangesState.{number_rest}
use Rattle.cg_text.specs.declared.ranges.RangesText.{RangesText}

-- The ranges of a list that the rest completes.
abbrev pub Gives : RangesText → List ℕ → List (ℕ × ℕ) → Type 0
Gives s rest all = IsListRest s.strict s.ranges.items s.most s.low (number_rest s.number) rest all

-- Whatever follows, the ranges are as Q says.
abbrev pub GivesOnly : (List (ℕ × ℕ) → Type 0) → RangesText → Type 0
GivesOnly Q s = (rest : List ℕ) (all : List (ℕ × ℕ)) → Gives s rest all → Q all

IsSetFrom_prop : (least : ℕ) (rs : List (ℕ × ℕ)) → IsProp (IsSetFrom least rs)
IsSetFrom_prop least [] = Unit-prop
IsSetFrom_prop least (r ∷ rs) = let more : IsProp (IsSetFrom (r.1 + 2) rs) = IsSetFrom_prop (r.1 + 2) rs in hlevel (props, more)

pub only_sets_prop : (s : RangesText) → IsProp (GivesOnly IsSet s)
only_sets_prop s = hlevel (props, IsSetFrom_prop)

pub only_ranges_prop : (s : RangesText) → IsProp (GivesOnly AreRanges s)
only_ranges_prop s = hlevel props

-- A text of one token or of another, by the first byte.
use Rattle.std.specs.Prelude.{ℕ, Bool, true, false, List}
use Rattle.cg_join.specs.Choice.{IsChoice}
use Rattle.cg_join.specs.declared.choice.Either.{Either}
use Rattle.cg_file.specs.declared.branch.BranchTaken.{BranchTaken}
use Rattle.cg_file.specs.declared.branch.BranchTaken.TheVariants.{Start, First, Second}

-- Whether the first may be there; whether the second may; and whether either may.
abbrev pub may_first : BranchTaken → Bool
may_first Start = true
may_first First = true
may_first Second = false

abbrev pub may_second : BranchTaken → Bool
may_second Start = true
may_second First = false
may_second Second = true

abbrev pub is_open : BranchTaken → Bool
is_open Start = true
is_open First = false
is_open Second = false

-- Whether nothing need follow.
abbrev pub branch_ends_at : BranchTaken → Bool → Bool → Bool
branch_ends_at Start a b = false
branch_ends_at First a b = a
branch_ends_at Second a b = b

-- What is left.
abbrev pub BranchRest : {S T V W : Type 0} → (S → List ℕ → V → Type 0) → (T → List ℕ → W → Type 0) → BranchTaken → S → T → List ℕ → Either V W → Type 0
BranchRest first second place s t rest v = IsChoice first second (may_first place) (may_second place) s t rest v

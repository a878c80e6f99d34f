-- What is left of a file of raw lines.
use Rattle.std.specs.Prelude.{◌≡◌, ℕ, List, ◌++◌}
use Rattle.cg_value.specs.RawLines.{AreWholeLines, HasNoNul, lines_of}
use Rattle.cg_value.specs.declared.value.Value.{Value}
use Rattle.cg_value.specs.declared.value.Value.TheVariants.{Raw}

-- The rest makes whole lines of what was taken.
pub record IsRawFileRest (taken rest : List ℕ) (v : Value) : Type 0 where
  pub value : v ≡ Raw (lines_of (taken ++ rest))
  pub whole : AreWholeLines (taken ++ rest)
  pub bytes : HasNoNul rest

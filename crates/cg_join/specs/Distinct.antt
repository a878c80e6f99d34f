-- Lists of values that are all different.
use Rattle.std.specs.Prelude.{ℕ, List}
use Rattle.cg_join.specs.Repeat.{AreJoined, IsListAfter}
pub use Rattle.cg_text.specs.Distinct.{LacksValue, AreDistinct}
pub use Rattle.cg_index.specs.Keyed.{any_value}

-- One or more texts of the relation with a separator between, each with its value, all different.
abbrev pub AreDistinctJoined : {V : Type 0} → (List ℕ → V → Type 0) → ℕ → List ℕ → List V → Type 0
AreDistinctJoined R separator text vs = AreJoined R separator text vs × AreDistinct vs

-- The values before and those of the rest, all different.
abbrev pub IsDistinctAfter : {V : Type 0} → List V → (List ℕ → V → Type 0) → (List ℕ → V → Type 0) → ℕ → List ℕ → List V → Type 0
IsDistinctAfter items P R separator rest all = IsListAfter items P R separator rest all × AreDistinct all

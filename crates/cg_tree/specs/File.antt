-- A file of a hierarchy.
use Rattle.std.specs.Prelude.{ℕ, List}
use Rattle.cg_value.specs.declared.value.Value.{Value}

-- Its place among the entries, its directory, and what it holds.
pub record FileData : Type 0 where
  pub place : ℕ
  pub directory : List ℕ
  pub value : Value

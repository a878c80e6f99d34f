-- The head of one more record of the present entry: its path and a NUL.
use Rattle.std.specs.Prelude.{◌≡◌, ℕ, ◌<◌, List, ◌∷◌, ◌++◌}
use Rattle.cg_snap.specs.declared.present.CurrentEntry.{CurrentEntry}

-- The bytes begin with the entry's path and a NUL, and one more record isn't one too many.
pub record Repeats (x : CurrentEntry) (bytes : List ℕ) (max : ℕ) : Type 0 where
  pub rest : List ℕ
  pub begins : bytes ≡ x.path.items ++ 0 ∷ rest
  pub few : x.lines < max

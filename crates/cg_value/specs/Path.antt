-- Paths and the names that they end with.
use Rattle.std.specs.Prelude.{◌≡◌, ℕ, ◌⊎◌, List, [], ◌∷◌, ◌++◌}
use Rattle.cg_text.specs.Texts.{Lacks}

-- The name is what follows the last '/', or the whole path where there is none.
pub record IsNameOf (path name : List ℕ) : Type 0 where
  pub directory : List ℕ
  pub whole : path ≡ directory ++ name
  pub ends : (directory ≡ []) ⊎ ((front : List ℕ) × (directory ≡ front ++ 47 ∷ []))
  pub plain : Lacks 47 name

-- Texts one after another.
use Rattle.std.specs.Prelude.{ℕ, List, [], ◌∷◌, ◌++◌}
use Rattle.std.specs.List.{flat_map}

-- Each with the mark before it.
abbrev pub led : {X : Type 0} → ℕ → (X → List ℕ) → List X → List ℕ
led mark f xs = flat_map (λ x. mark ∷ f x) xs

-- With the mark between them.
abbrev pub joined : {X : Type 0} → ℕ → (X → List ℕ) → List X → List ℕ
joined mark f [] = []
joined mark f (x ∷ xs) = f x ++ led mark f xs

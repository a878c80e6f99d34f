-- Pairs of a word and a value, with a separator between.
use Rattle.std.specs.Prelude.{ℕ, List, map}
use Rattle.cg_join.specs.Repeat.{AreJoined}
use Rattle.cg_join.specs.Distinct.{AreDistinct}

-- One or more pairs with a separator between, no word twice. R gives a pair's text.
abbrev pub AreJoinedPairs : {V X : Type 0} → (X → V) → (List ℕ → X → Type 0) → ℕ → List ℕ → List X → Type 0
AreJoinedPairs word R separator text ps = AreJoined R separator text ps × AreDistinct (map word ps)

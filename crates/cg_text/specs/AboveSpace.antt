-- Bytes above the space.
use Rattle.std.specs.Prelude.{ℕ, ◌<◌, List, [], ◌∷◌}

-- Each byte is above the space.
abbrev pub AreAboveSpace : List ℕ → Type 0
AreAboveSpace [] = Unit {0}
AreAboveSpace (c ∷ cs) = (32 < c) × AreAboveSpace cs

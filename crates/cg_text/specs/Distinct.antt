-- Values that are all different.
use Rattle.std.specs.Prelude.{◌≡◌, List, [], ◌∷◌}

-- No member is the value.
abbrev pub LacksValue : {V : Type 0} → V → List V → Type 0
LacksValue v [] = Unit {0}
LacksValue v (w ∷ ws) = (v ≡ w → ⊥) × LacksValue v ws

-- No two members are one.
abbrev pub AreDistinct : {V : Type 0} → List V → Type 0
AreDistinct [] = Unit {0}
AreDistinct (v ∷ vs) = LacksValue v vs × AreDistinct vs

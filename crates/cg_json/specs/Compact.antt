-- Compact texts of lists and of their parts.
use Rattle.std.specs.Prelude.{◌≡◌, ℕ, ◌≤◌, ◌≢◌, List, [], ◌∷◌, ◌++◌, length}
use Rattle.std.specs.Cmp.Lexicographic.{slice_cmp}
use Rattle.std.specs.List.{flat_map, AllAdjacentBelow}
use Rattle.std.specs.Ordering.{nat_cmp}
use Rattle.std.specs.declared.cmp.Ordering.TheVariants.{Less}
use Rattle.serde_json.specs.Data.{Data, string, Members, no_members, member}
use Rattle.serde_json.specs.Written.{compact_text}

-- The texts of these, each with a comma before it.
abbrev pub led : {X : Type 0} → (X → List ℕ) → List X → List ℕ
led text xs = flat_map (λ x. 44 ∷ text x) xs

-- The texts of these, with commas between them.
abbrev pub joined : {X : Type 0} → (X → List ℕ) → List X → List ℕ
joined text [] = []
joined text (x ∷ xs) = text x ++ led text xs

-- A member of an object: its key, a colon and its value.
abbrev pub member_text : {X : Type 0} → (X → List ℕ) → (X → Data) → X → List ℕ
member_text key f x = compact_text (string (key x)) ++ 58 ∷ compact_text (f x)

-- These members, in their order.
abbrev pub listed : {X : Type 0} → (X → List ℕ) → (X → Data) → List X → Members
listed key f [] = no_members
listed key f (x ∷ xs) = member (key x) (f x) (listed key f xs)

-- The keys are all different, and in the order of their bytes.
abbrev pub AreRising : {X : Type 0} → (X → List ℕ) → List X → Type 0
AreRising key xs = AllAdjacentBelow (λ x y. slice_cmp nat_cmp (key x) (key y) ≡ Less) xs (length xs)

-- A byte that stands for itself in a string.
abbrev pub IsPlainByte : ℕ → Type 0
IsPlainByte c = (32 ≤ c) × (c ≤ 126) × (c ≢ 34) × (c ≢ 92)

abbrev pub ArePlain : List ℕ → Type 0
ArePlain [] = Unit {0}
ArePlain (c ∷ cs) = IsPlainByte c × ArePlain cs

-- What came of bytes that were pushed into a token.
use Rattle.std.specs.Prelude.{ℕ, ◌<◌, ◌+◌, Bool, true, nat_lt, List, ◌∷◌, length, take, slice_index, ⊤}
use Rattle.cg_text.specs.declared.pushed.Pushed.{Pushed}
use Rattle.cg_text.specs.declared.pushed.Pushed.TheVariants.{All, Refused, Starved}

-- The bytes that were taken.
abbrev pub run_of : Pushed → List ℕ → List ℕ
run_of All bytes = bytes
run_of (Refused n) bytes = take n bytes
run_of (Starved n) bytes = take n bytes

-- How many.
abbrev pub used_of : Pushed → List ℕ → ℕ
used_of All bytes = length bytes
used_of (Refused n) bytes = n
used_of (Starved n) bytes = n

-- Whether any were, of some.
abbrev pub took_some : Pushed → Bool
took_some All = true
took_some (Refused n) = nat_lt 0 n
took_some (Starved n) = nat_lt 0 n

-- The same after so many bytes.
abbrev pub after_run : ℕ → Pushed → Pushed
after_run used All = All
after_run used (Refused n) = Refused (used + n)
after_run used (Starved n) = Starved (used + n)

-- A number that is told can be told after so many bytes.
abbrev pub HasRoom : ℕ → Pushed → Type 0
HasRoom used All = ⊤
HasRoom used (Refused n) = used + n < 18446744073709551616
HasRoom used (Starved n) = used + n < 18446744073709551616

-- Where not all were taken, one is left.
abbrev pub IsWithin : Pushed → List ℕ → Type 0
IsWithin All bytes = ⊤
IsWithin (Refused n) bytes = n < length bytes
IsWithin (Starved n) bytes = n < length bytes

-- The fact holds where memory is wanting.
abbrev pub IfStarved : Pushed → Type 0 → Type 0
IfStarved All P = ⊤
IfStarved (Refused n) P = ⊤
IfStarved (Starved n) P = P

-- The byte that is refused begins no rest, and one for which memory is wanting begins one. P are the rests of the new state.
module _ {V : Type 0} (P : List ℕ → V → Type 0) (bytes : List ℕ) where
  abbrev pub Stops : Pushed → Type 0
  Stops All = ⊤
  Stops (Refused n) = (rest : List ℕ) (v : V) → P (slice_index bytes n ∷ rest) v → ⊥
  Stops (Starved n) = (rest : List ℕ) × (v : V) × P (slice_index bytes n ∷ rest) v

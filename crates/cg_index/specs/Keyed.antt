-- Items with keys.
use Rattle.std.specs.Prelude.{◌≡◌, ℕ, ◌+◌, Bool, false, true, ◌||◌, List, [], ◌∷◌, ◌++◌, Option, Some, None, option_map, if◌then◌else◌, Result, Ok, Err, nat_eq}
use Rattle.std.specs.Cmp.Lexicographic.{pointwise}
use Rattle.cg_index.specs.declared.keyed.Refused.{Refused}
use Rattle.cg_index.specs.declared.keyed.Refused.TheVariants.{Repeated, OutOfMemory}

-- The items so far, and whether one more takes no memory.
pub record Collected (T : Type 0) : Type 0 where
  pub items : List T
  pub has_room : Bool

-- Whether a member passes the test.
abbrev pub any_value : {V : Type 0} → (V → Bool) → List V → Bool
any_value f [] = false
any_value f (v ∷ vs) = f v || any_value f vs

-- Whether it is one of the keys.
abbrev pub is_among : List ℕ → List (List ℕ) → Bool
is_among key keys = any_value (pointwise nat_eq key) keys

-- The place of the key, if it is one of the keys.
abbrev pub place_among : List ℕ → List (List ℕ) → Option ℕ
place_among key [] = None
place_among key (k ∷ ks) = if pointwise nat_eq key k then Some 0 else option_map (λ n. n + 1) (place_among key ks)

-- The last of the old items has got the part.
pub record IsLastChanged {T W : Type 0} (changed : T → W → T) (old : List T) (part : W) (new : List T) : Type 0 where
  pub front : List T
  pub last : T
  pub before : old ≡ front ++ last ∷ []
  pub after : new ≡ front ++ changed last part ∷ []

-- The refusal hands the item back.
abbrev pub IsHandedBack : {T : Type 0} → T → Refused T → Type 0
IsHandedBack item (Repeated t) = t ≡ item
IsHandedBack item (OutOfMemory t) = t ≡ item

-- Whether the item was refused since its key is there.
abbrev pub is_repeated : {T U : Type 0} → Result U (Refused T) → Bool
is_repeated (Ok v) = false
is_repeated (Err (Repeated t)) = true
is_repeated (Err (OutOfMemory t)) = false

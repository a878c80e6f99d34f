-- The pairs of flat keyed files (cgroup-v2.rst, "Format": a line `KEY VALUE` for each key).
use Rattle.std.specs.Prelude.{◌≡◌, ℕ, ◌+◌, ◌<◌, ◌≤◌, ◌^◌, List, [], ◌∷◌, Bool, true, false, Option, Some, None, Result, Ok, Err, if◌then◌else◌, length, option_map, nat_eq, ◌&&◌}
use Rattle.std.specs.List.{sum_by}
use Rattle.std.specs.Cmp.Lexicographic.{pointwise}
use Rattle.std.specs.Str.{bytes_eq}
use Rattle.cg_value.specs.declared.flat.FlatPair.{FlatPair}
use Rattle.cg_value.specs.declared.flat.FlatRefused.{FlatRefused}
use Rattle.cg_value.specs.declared.flat.FlatRefused.TheVariants.{Repeated, OutOfMemory}

-- Whether the pair has the key.
abbrev pub has_key : List ℕ → FlatPair → Bool
has_key key p = bytes_eq p.key key

-- The number of the first pair that has the key, if any.
abbrev pub number_of : List ℕ → List FlatPair → Option ℕ
number_of key [] = None
number_of key (p ∷ ps) = if has_key key p then Some p.number else number_of key ps

-- The place of the first pair that has the key, if any.
abbrev pub place_of : List ℕ → List FlatPair → Option ℕ
place_of key [] = None
place_of key (p ∷ ps) = if has_key key p then Some 0 else option_map (λ n. n + 1) (place_of key ps)

-- No key comes twice.
abbrev pub HasDistinctKeys : List FlatPair → Type 0
HasDistinctKeys [] = Unit {0}
HasDistinctKeys (p ∷ ps) = (number_of p.key ps ≡ None) × HasDistinctKeys ps

-- The length of its vector, and the lengths of the keys.
abbrev pub flat_size : List FlatPair → ℕ
flat_size ps = sum_by (λ p. length p.key + 1) ps

-- Whether the pairs are the same, one by one.
abbrev pub are_same : List FlatPair → List FlatPair → Bool
are_same = pointwise (λ (p : FlatPair) (q : FlatPair). bytes_eq p.key q.key && nat_eq p.number q.number)

-- The count is at most the number of binary digits of n, the least d with n < 2 ^ d.
abbrev pub IsWithinDigits : ℕ → ℕ → Type 0
IsWithinDigits count n = (d : ℕ) → n < 2 ^ d → count ≤ d

-- The pairs so far, and whether one more takes no memory.
pub record Building : Type 0 where
  pub pairs : List FlatPair
  pub has_room : Bool

-- The refusal hands the key back.
abbrev pub IsHandedBack : List ℕ → FlatRefused → Type 0
IsHandedBack key (Repeated k) = k ≡ key
IsHandedBack key (OutOfMemory k) = k ≡ key

-- Whether the key was refused since it is there.
abbrev pub is_repeated : {T : Type 0} → Result T FlatRefused → Bool
is_repeated (Ok v) = false
is_repeated (Err (Repeated k)) = true
is_repeated (Err (OutOfMemory k)) = false

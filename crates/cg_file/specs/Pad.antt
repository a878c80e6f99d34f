-- A pad, and then a space and a text, or nothing.
use Rattle.std.specs.Prelude.{◌≡◌, ℕ, ◌⊎◌, Bool, true, false, List, [], ◌∷◌, ◌++◌, ◌≤◌, length, take}
use Rattle.cg_value.specs.ReadLine.{pad_text}
use Rattle.cg_file.specs.declared.pad.Padding.{Padding}
use Rattle.cg_file.specs.declared.pad.Padding.TheVariants.{Before, Perhaps, Known}

-- No text is empty, or begins with a space.
abbrev pub IsUnspaced : {V : Type 0} → (List ℕ → V → Type 0) → Type 0
IsUnspaced {V} R = ((v : V) → R [] v → ⊥) × ((back : List ℕ) (v : V) → R (32 ∷ back) v → ⊥)

-- A space and a text of the relation, or nothing, with this value.
abbrev pub IsLed : {V : Type 0} → (List ℕ → V → Type 0) → V → List ℕ → V → Type 0
IsLed R ready text v = ((text ≡ []) × (v ≡ ready)) ⊎ ((back : List ℕ) × (text ≡ 32 ∷ back) × R back v)

-- The pad before it.
abbrev pub IsPadded : {V : Type 0} → (List ℕ → V → Type 0) → V → List ℕ → Bool × V → Type 0
IsPadded R ready text v = (led : List ℕ) × (text ≡ pad_text (v.0) ++ led) × IsLed R ready led (v.1)

-- The bytes begin with the pad, if there is one, and the space that leads a text: so many bytes.
abbrev pub IsPadFront : List ℕ → Bool × ℕ → Type 0
IsPadFront bytes found = (found.1 ≤ length bytes) × (take found.1 bytes ≡ pad_text (found.0) ++ 32 ∷ [])

-- What is left, where R is left of the texts.
abbrev pub PadRest : {V : Type 0} → Padding → (List ℕ → V → Type 0) → V → List ℕ → Bool × V → Type 0
PadRest Before R ready rest v = IsPadded R ready rest v
PadRest Perhaps R ready rest v = IsPadded R ready (32 ∷ rest) v
PadRest (Known pad) R ready rest v = (v.0 ≡ pad) × R rest (v.1)

abbrev pub is_known : Padding → Bool
is_known Before = false
is_known Perhaps = false
is_known (Known pad) = true

-- Whether nothing need follow.
abbrev pub pad_ends : Padding → Bool → Bool
pad_ends Before e = true
pad_ends Perhaps e = true
pad_ends (Known pad) e = e

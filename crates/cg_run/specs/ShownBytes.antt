-- The bytes of a snapshot as they are shown: a NUL, which ends a path, as a colon and a space, the others as they are.
use Rattle.std.specs.Prelude.{◌≡◌, ℕ, ◌==◌, List, [], ◌∷◌, ◌++◌, if◌then◌else◌}
use Rattle.cg_text.specs.Texts.{Lacks}
use Rattle.cg_snap.specs.Begun.{IsRecordEnd}

abbrev pub shown_byte : ℕ → List ℕ
shown_byte byte = if byte == 0 then 58 ∷ 32 ∷ [] else byte ∷ []

abbrev pub shown_bytes : List ℕ → List ℕ
shown_bytes [] = []
shown_bytes (byte ∷ bytes) = shown_byte byte ++ shown_bytes bytes

-- The text is cut after its last newline.
pub record IsCut (text lines rest : List ℕ) : Type 0 where
  pub whole : text ≡ lines ++ rest
  pub ended : IsRecordEnd lines
  pub plain : Lacks 10 rest

-- A text that went on with the bytes gave these lines, and what is behind them is left. Where no byte came, no line was given.
abbrev pub CutsOff : List ℕ → List ℕ → List ℕ → List ℕ → Type 0
CutsOff old new [] lines = (lines ≡ []) × (new ≡ old)
CutsOff old new (byte ∷ bytes) lines = IsCut (old ++ shown_bytes (byte ∷ bytes)) lines new

-- The text begins with the front.
abbrev pub Begins : List ℕ → List ℕ → Type 0
Begins front text = (rest : List ℕ) × (text ≡ front ++ rest)

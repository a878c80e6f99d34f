-- What is left of texts of which bytes were taken. V is the type of their values.
use Rattle.std.specs.Prelude.{◌≡◌, ℕ, ◌+◌, ◌≤◌, ◌↔◌, ◌⊎◌, List, ◌∷◌, [], ◌++◌, length, Result, Ok, Err}
use Rattle.cg_text.specs.Texts.{Lacks, Next, TextOf, Viable}
use Rattle.cg_line.specs.declared.push.PushFault.{PushFault}
use Rattle.cg_line.specs.declared.push.PushFault.TheVariants.{Refused, OutOfMemory}

-- Of the texts of the relation these bytes were taken, with which some of them begins: the rests are those that complete one. So
-- much is held now, where base was before: for each byte one more, at the most.
pub record IsRead {V : Type 0} (Text : List ℕ → V → Type 0) (base : ℕ) (P : List ℕ → V → Type 0) (size : ℕ) (taken : List ℕ) : Type 0 where
  pub is : (rest : List ℕ) (v : V) → P rest v ↔ Text (taken ++ rest) v
  pub viable : Viable (TextOf Text) taken
  pub few : size ≤ base + length taken

-- The state new of a token is what old is after these bytes.
abbrev pub IsAfter : {S V : Type 0} → (S → List ℕ → V → Type 0) → (S → ℕ) → S → S → List ℕ → Type 0
IsAfter {S} {V} means size old new run = IsRead (means old) (size old) (means new) (size new) run

-- Bytes of a line, or the rest of one with its newline.
abbrev pub IsPiece : List ℕ → Type 0
IsPiece run = Lacks 10 run ⊎ ((line : List ℕ) × (run ≡ line ++ 10 ∷ []) × Lacks 10 line)

-- What a pushed byte leaves, where R tells which bytes were taken: it was taken; or no text of the set goes on with it; or one
-- does, and memory was refused.
abbrev pub Leaves : (R L : List ℕ → Type 0) → List ℕ → ℕ → Result Unit PushFault → Type 0
Leaves R L taken byte (Ok u) = R (taken ++ byte ∷ [])
Leaves R L taken byte (Err Refused) = R taken × (Next L taken byte → ⊥)
Leaves R L taken byte (Err OutOfMemory) = R taken × Next L taken byte

-- Some byte may come next.
pub record SomeNext (L : List ℕ → Type 0) (taken : List ℕ) : Type 0 where
  pub byte : ℕ
  pub next : Next L taken byte

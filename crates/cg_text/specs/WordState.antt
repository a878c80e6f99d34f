-- What is left of a word.
use Rattle.std.specs.Prelude.{◌≡◌, ℕ, Bool, ◌&&◌, nat_lt, nat_eq, IsTrue, List, [], ◌∷◌, ◌++◌, length}
use Rattle.std.specs.Cmp.Lexicographic.{pointwise}
use Rattle.cg_text.specs.Word.{IsWordText, IsWordByte, IsNoSign}

-- The bytes begin a word, or one of a controller.
abbrev pub IsWordFront : Bool → List ℕ → Type 0
IsWordFront controller [] = Unit {0}
IsWordFront controller (c ∷ cs) = IsWordText controller (c ∷ cs)

-- The byte may follow those.
abbrev pub Lengthens : Bool → List ℕ → ℕ → Type 0
Lengthens controller taken c = IsWordByte c × (IsTrue controller → length taken ≡ 0 → IsNoSign c)

-- The rest makes the word of what was taken.
pub record IsWordRest (controller : Bool) (taken rest word : List ℕ) : Type 0 where
  pub whole : word ≡ taken ++ rest
  pub is_word : IsWordText controller word

-- Whether what was taken is this word.
abbrev pub is_taken : List ℕ → List ℕ → Bool
is_taken taken word = nat_lt 0 (length taken) && pointwise nat_eq taken word

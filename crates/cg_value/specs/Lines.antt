-- Lines and their parts.
use Rattle.std.specs.Prelude.{◌≡◌, ℕ, List, [], ◌∷◌, ◌++◌}
use Rattle.std.specs.List.{AllZip}
use Rattle.cg_text.specs.Word.{IsWord}

-- The lines, each with its newline.
abbrev pub unlines : List (List ℕ) → List ℕ
unlines [] = []
unlines (line ∷ lines) = line ++ 10 ∷ unlines lines

-- A text of the one, the mark, and a text of the other.
pub record HasParts {V W : Type 0} (P : V → List ℕ → Type 0) (mark : List ℕ) (Q : W → List ℕ → Type 0) (v : V) (w : W) (text : List ℕ) : Type 0 where
  pub front : List ℕ
  pub back : List ℕ
  pub text_is : text ≡ front ++ mark ++ back
  pub front_is : P v front
  pub back_is : Q w back

-- The text is the key, a word.
abbrev pub IsKey : List ℕ → List ℕ → Type 0
IsKey key text = (text ≡ key) × IsWord key

-- A text of each in order, with a space before it.
abbrev pub AreLed : {X : Type 0} → (X → List ℕ → Type 0) → List X → List ℕ → Type 0
AreLed P [] text = text ≡ []
AreLed P (x ∷ xs) text = (front : List ℕ) × (back : List ℕ) × (text ≡ 32 ∷ (front ++ back)) × P x front × AreLed P xs back

-- The line is a text of x, and the value is made of x.
pub record IsLineOf {X V : Type 0} (P : X → List ℕ → Type 0) (make : X → V) (v : V) (line : List ℕ) : Type 0 where
  pub x : X
  pub value : v ≡ make x
  pub spelled : P x line

-- One line, a text of x, and the value is made of x.
pub record IsOneLine {X V : Type 0} (P : X → List ℕ → Type 0) (make : X → V) (v : V) (lines : List (List ℕ)) : Type 0 where
  pub x : X
  pub line : List ℕ
  pub value : v ≡ make x
  pub lines_are : lines ≡ line ∷ []
  pub spelled : P x line

-- A line for each of xs in order, also none, and the value is made of xs.
pub record AreLinesOf {X V : Type 0} (P : X → List ℕ → Type 0) (make : List X → V) (v : V) (lines : List (List ℕ)) : Type 0 where
  pub xs : List X
  pub value : v ≡ make xs
  pub spelled : AllZip P xs lines

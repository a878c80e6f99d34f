-- Lines that lie in one text, each with its newline.
use Rattle.std.specs.Prelude.{◌≡◌, ℕ, ◌<◌, Bool, true, cond, nat_eq, List, [], ◌∷◌}
use Rattle.std.specs.List.{onto_first}
use Rattle.cg_value.specs.Lines.{unlines}

-- What stands before each newline; behind the last one, what is there.
abbrev pub lines_of : List ℕ → List (List ℕ)
lines_of [] = []
lines_of (c ∷ cs) = cond (nat_eq c 10) ([] ∷ lines_of cs) (onto_first c (lines_of cs))

-- The text is lines, each with its newline.
pub record AreWholeLines (text : List ℕ) : Type 0 where
  pub whole : unlines (lines_of text) ≡ text

-- Whether there is no last byte, or it is a newline.
abbrev pub is_ended : List ℕ → Bool
is_ended [] = true
is_ended (c ∷ []) = nat_eq c 10
is_ended (c ∷ d ∷ ds) = is_ended (d ∷ ds)

-- Each byte is 1 to 255.
abbrev pub HasNoNul : List ℕ → Type 0
HasNoNul [] = Unit {0}
HasNoNul (c ∷ cs) = (0 < c) × (c < 256) × HasNoNul cs

-- How the words of a file are turned into its value.
use Rattle.std.specs.Prelude.{ℕ, true, List, [], ◌∷◌}
use Rattle.cg_join.specs.Distinct.{AreDistinctJoined}
use Rattle.cg_join.specs.Ready.{IsOrReady}
use Rattle.cg_join.specs.Spelling.{IsConcat}
use Rattle.cg_join.specs.TextBytes.{IsFixed}
use Rattle.cg_join.specs.WordStartLaws.{SpellsWord}
use Rattle.cg_value.specs.declared.value.Value.{Value}
use Rattle.cg_value.specs.declared.value.Value.TheVariants.{Words}

-- Controllers' words with single spaces between, all different, or none.
abbrev pub AreSpacedWords : List ℕ → List (List ℕ) → Type 0
AreSpacedWords text words = IsOrReady (AreDistinctJoined (SpellsWord true) 32) [] text words

-- Such words and a newline, or no byte.
abbrev pub IsWordsText : List ℕ → List (List ℕ) × Unit {0} → Type 0
IsWordsText text v = IsOrReady (IsConcat AreSpacedWords (IsFixed (10 ∷ []))) ([], tt) text v

abbrev pub words_value : List (List ℕ) × Unit {0} → Value
words_value v = Words v.0

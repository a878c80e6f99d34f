-- The texts of kinds of files, and what may be held of them.
use Rattle.std.specs.Prelude.{◌≡◌, ℕ, ◌+◌, ◌≤◌, List, ◌++◌, length}
use Rattle.cg_text.specs.Texts.{Lacks}
use Rattle.cg_value.specs.Files.{ReadLines, KindText}
use Rattle.cg_value.specs.Lines.{unlines}
use Rattle.cg_value.specs.Print.{print_lines}
use Rattle.cg_value.specs.Held.{held_of_lines}
use Rattle.cg_value.specs.declared.kind.ReadForm.{ReadForm}
use Rattle.cg_value.specs.declared.value.Value.{Value}

-- The texts of a kind's files, each with its value.
abbrev pub TextsOf : ReadForm → List ℕ → Value → Type 0
TextsOf kind text v = KindText kind v text

-- How much is held of a whole file: a place for each line of its text, and its keys, words, ranges and raw bytes.
abbrev pub held_of_whole : Value → ℕ
held_of_whole v = held_of_lines v (print_lines v)

-- At most so much is held of the whole lines, and of the line that is begun.
abbrev pub HoldsLittle : ℕ → ReadForm → List ℕ → Type 0
HoldsLittle size kind taken = (lines : List (List ℕ)) (line : List ℕ) (v : Value) → taken ≡ unlines lines ++ line → Lacks 10 line → ReadLines kind v lines → size ≤ held_of_lines v lines + length line

-- The laws of the files that are read, over their definitions alone.
use Rattle.std.specs.Prelude.{◌≡◌, ℕ, ◌⊎◌, ◌↔◌, List, [], ◌∷◌, ◌++◌, Some, codes}
use Rattle.std.specs.List.{AllByRecursion}
use Rattle.cg_text.specs.Raw.{IsRawLine}
use Rattle.cg_text.specs.Texts.{Viable}
use Rattle.cg_value.specs.Files.{ReadLines, Fits, KindText, KindFile}
use Rattle.cg_value.specs.Kind.{IsReadForm}
use Rattle.cg_value.specs.Lines.{unlines}
use Rattle.cg_value.specs.Print.{print_lines, print_of}
use Rattle.cg_value.specs.RowName.{row_name, IsSized}
use Rattle.cg_value.specs.declared.kind.ReadForm.{ReadForm}
use Rattle.cg_value.specs.declared.kind.ReadForm.TheVariants as form
use Rattle.cg_value.specs.declared.value.Value.{Value}
use Rattle.cg_value.specs.declared.value.Value.TheVariants as value

-- A file of words that has no line, and so no word.
pub record HasNoLine (kind : ReadForm) (v : Value) (lines : List (List ℕ)) : Type 0 where
  pub of_words : kind ≡ form.Words
  pub no_words : v ≡ value.Words []
  pub no_lines : lines ≡ []

-- A file of words that has no byte, and so no word.
pub record HasNoByte (kind : ReadForm) (v : Value) (text : List ℕ) : Type 0 where
  pub of_words : kind ≡ form.Words
  pub no_words : v ≡ value.Words []
  pub no_bytes : text ≡ []

-- The lines that spell a value are those of its canonical text, except that no words also have no lines.
abbrev pub OneText : Type 0
OneText = (kind : ReadForm) (v : Value) (lines : List (List ℕ)) → IsReadForm kind → ReadLines kind v lines → (lines ≡ print_lines v) ⊎ HasNoLine kind v lines

-- The canonical text of a value that fits is a file of the kind with the value.
abbrev pub PrintInGrammar : Type 0
PrintInGrammar = (kind : ReadForm) (v : Value) → IsReadForm kind → Fits kind v → KindText kind v (print_of v)

-- A file with a value is the canonical text of the value, except that no words also have the text of no bytes.
abbrev pub TextIsPrint : Type 0
TextIsPrint = (kind : ReadForm) (v : Value) (text : List ℕ) → IsReadForm kind → KindText kind v text → (text ≡ print_of v) ⊎ HasNoByte kind v text

-- Two files of a kind with one value are one, unless one of them has no byte.
abbrev pub OneReadText : Type 0
OneReadText = (kind : ReadForm) (v : Value) (t u : List ℕ) → IsReadForm kind → KindText kind v t → KindText kind v u → (t ≡ u) ⊎ (HasNoByte kind v t ⊎ HasNoByte kind v u)

-- The text is whole lines of bytes, with no NUL.
pub record AreLines (text : List ℕ) : Type 0 where
  pub lines : List (List ℕ)
  pub text_is : text ≡ unlines lines
  pub raw : AllByRecursion IsRawLine lines

-- A file of any kind is whole lines.
abbrev pub FileLines : Type 0
FileLines = (kind : ReadForm) (text : List ℕ) → KindFile kind text → AreLines text

-- Where some file of the kind goes on after a newline, one also ends there.
abbrev pub WholeLines : Type 0
WholeLines = (kind : ReadForm) (front : List ℕ) → Viable (KindFile kind) (front ++ 10 ∷ []) → KindFile kind (front ++ 10 ∷ [])

-- A line that is a file of the kind.
pub record IsFirstLine (kind : ReadForm) (line : List ℕ) : Type 0 where
  pub raw : IsRawLine line
  pub file : KindFile kind (line ++ 10 ∷ [])

-- Each kind has a file of one line.
abbrev pub FirstLine : Type 0
FirstLine = (kind : ReadForm) → IsReadForm kind → (line : List ℕ) × IsFirstLine kind line

-- The kinds whose files may have no line.
abbrev pub MayHaveNoLine : ReadForm → Type 0
MayHaveNoLine (form.Numbers lo hi) = Unit {0}
MayHaveNoLine form.Words = Unit {0}
MayHaveNoLine form.Flat = Unit {0}
MayHaveNoLine form.FlatLimits = Unit {0}
MayHaveNoLine (form.DeviceStats kernel) = Unit {0}
MayHaveNoLine (form.DeviceLimits kernel) = Unit {0}
MayHaveNoLine (form.DeviceTargets kernel) = Unit {0}
MayHaveNoLine form.DeviceParams = Unit {0}
MayHaveNoLine form.Nested = Unit {0}
MayHaveNoLine form.Raw = Unit {0}
MayHaveNoLine _ = ⊥

-- They have the text of no bytes, and no other kind has.
abbrev pub NoLine : Type 0
NoLine = (kind : ReadForm) → MayHaveNoLine kind ↔ KindFile kind []

-- A name has a size in it exactly where its row has `*` in place of one.
abbrev pub SizedNames : Type 0
SizedNames = (name rest : List ℕ) → IsSized name rest ↔ (row_name name ≡ Some (codes "hugetlb.*" ++ rest))

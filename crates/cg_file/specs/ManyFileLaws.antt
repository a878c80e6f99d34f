-- What holds of the tokens over files of many lines.
use Rattle.std.proofs.Common.{◌≡◌, ℕ, ◌≤◌, ◌↔◌, List, [], ◌∷◌, ◌++◌, refl, sym, ◌∙◌, ap, arith}
use Rattle.std.specs.List.{AllZip}
use Rattle.cg_text.specs.Raw.{IsRawLine}
use Rattle.cg_text.specs.Token.{HasOneText}
use Rattle.cg_join.specs.Line.{LacksByte}
use Rattle.cg_join.specs.Lines.{AreLines}
use Rattle.cg_join.specs.Spelling.{IsMappedText}
use Rattle.cg_value.specs.Files.{ReadLines, KindText}
use Rattle.cg_value.specs.Lines.{unlines, AreLinesOf}
use Rattle.cg_value.specs.ReadLine.{IsRaw}
use Rattle.cg_value.specs.declared.kind.ReadForm.{ReadForm}
use Rattle.cg_value.specs.declared.value.Value.{Value}
use Rattle.cg_value.specs.declared.value.Value.TheVariants.{Numbers}

-- How the values of lines are turned into those of files.
abbrev pub numbers_value : List ℕ → Value
numbers_value ns = Numbers ns

pub zero_least : (n : ℕ) → 0 ≤ n
zero_least n = omega arith

-- ---- Lines

module _ {X : Type 0} (P : X → List ℕ → Type 0) where
  pub lines_to : (text : List ℕ) (xs : List X) → AreLines (λ t x. P x t) 10 text xs → (lines : List (List ℕ)) × AllZip P xs lines × (text ≡ unlines lines)
  lines_to text [] h = ([], tt, h.1)
  lines_to text (x ∷ xs) h = let k = lines_to h.1 xs h.4 in (h.0 ∷ k.0, (h.3, k.1), h.2 ∙ ap (λ t. h.0 ++ 10 ∷ t) k.2)

  pub lines_from : (text : List ℕ) (xs : List X) (lines : List (List ℕ)) → AllZip P xs lines → text ≡ unlines lines → AreLines (λ t x. P x t) 10 text xs
  lines_from text [] [] h e = (refl, e)
  lines_from text [] (line ∷ lines) h e = absurd h
  lines_from text (x ∷ xs) [] h e = absurd h
  lines_from text (x ∷ xs) (line ∷ lines) h e = (line, unlines lines, e, h.0, lines_from (unlines lines) xs lines h.1 refl)

-- Lines by P, turned into a value, are a file of a kind whose value is made of such lines.
pub all_is : {X : Type 0} (kind : ReadForm) (P : X → List ℕ → Type 0) (make : List X → Value) →
    ((v : Value) (lines : List (List ℕ)) → ReadLines kind v lines ↔ AreLinesOf P make v lines) →
    (text : List ℕ) (v : Value) → IsMappedText (AreLines (λ t x. P x t) 10) make text v ↔ KindText kind v text
all_is kind P make reads text v = (
  λ h. (let k = lines_to P text h.0 h.1 in
      record { lines = k.0; spelled = (reads v k.0).1 (record { xs = h.0; value = sym h.2; spelled = k.1 }); text_is = k.2 }),
  λ h. (let all = (reads v h.lines).0 h.spelled in (all.xs, lines_from P text all.xs h.lines all.spelled h.text_is, sym all.value)),
)

-- ---- Raw lines

pub one_raw : HasOneText (λ text bytes. IsRaw bytes text)
one_raw text v w h k = sym h.0 ∙ k.0

newline_out : (front more : List ℕ) → IsRawLine (front ++ 10 ∷ more) → ⊥
newline_out [] more h = h.2 refl
newline_out (x ∷ front) more h = newline_out front more h.3

pub raw_lacks : LacksByte (λ text bytes. IsRaw bytes text) 10
raw_lacks front more bytes h = newline_out front more (rw h.0 h.1)

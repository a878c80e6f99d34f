-- A file is its lines, each with its newline.
use Rattle.std.proofs.Common.{◌≡◌, ℕ, ◌⊎◌, inl, inr, List, [], ◌∷◌, ◌++◌, refl, sym, ◌∙◌, ap, arith, append_assoc}
use Rattle.std.specs.List.{AllByRecursion}
use Rattle.cg_text.specs.ListFacts.{not_nil}
use Rattle.cg_text.specs.Raw.{IsRawLine}
use Rattle.cg_text.specs.RawLaws.{raw_bytes}
use Rattle.cg_text.specs.Texts.{Lacks}
use Rattle.cg_text.specs.Token.{AreBytes}
use Rattle.cg_text.specs.TokenLaws.{bytes_append}
use Rattle.cg_value.specs.Files.{ReadLines, KindFile}
use Rattle.cg_value.specs.Laws.{AreLines}
use Rattle.cg_value.specs.Lines.{unlines}
use Rattle.cg_value.specs.RawLinesLaws.{raw_lines}
use Rattle.cg_value.specs.declared.kind.ReadForm.{ReadForm}
use Rattle.cg_value.specs.declared.value.Value.{Value}

raw_plain : (line : List ℕ) → IsRawLine line → Lacks 10 line
raw_plain [] h = tt
raw_plain (c ∷ cs) h = (h.2, raw_plain cs h.3)

-- No line of a file has a newline.
all_plain : (lines : List (List ℕ)) → AllByRecursion IsRawLine lines → AllByRecursion (Lacks 10) lines
all_plain [] h = tt
all_plain (line ∷ lines) h = (raw_plain line h.0, all_plain lines h.1)

pub plain_lines : (kind : ReadForm) (v : Value) (lines : List (List ℕ)) → ReadLines kind v lines → AllByRecursion (Lacks 10) lines
plain_lines kind v lines h = all_plain lines (raw_lines kind v lines h)

-- A file of the kind is whole lines.
pub file_lines : (kind : ReadForm) (text : List ℕ) → KindFile kind text → AreLines text
file_lines kind text h = record { lines = h.1.lines; text_is = h.1.text_is; raw = raw_lines kind h.0 h.1.lines h.1.spelled }

-- A file holds bytes.
pub bytes_of_lines : (lines : List (List ℕ)) → AllByRecursion IsRawLine lines → AreBytes (unlines lines)
bytes_of_lines [] h = tt
bytes_of_lines (line ∷ lines) h = bytes_append line (10 ∷ unlines lines) (raw_bytes line h.0) (omega arith, bytes_of_lines lines h.1)

-- The first newline of two equal texts.
first_newline : (line more front rest : List ℕ) → Lacks 10 line → line ++ 10 ∷ more ≡ front ++ 10 ∷ rest →
    ((line ≡ front) × (more ≡ rest)) ⊎ ((later : List ℕ) × (front ≡ line ++ 10 ∷ later) × (more ≡ later ++ 10 ∷ rest))
first_newline [] more [] rest h e = inl (refl, cc)
first_newline [] more (c ∷ front) rest h e = let newline : 10 ≡ c = cc in inr (front, ap (λ b. b ∷ front) (sym newline), cc)
first_newline (x ∷ line) more [] rest h e = absurd (h.0 (cc))
first_newline (x ∷ line) more (c ∷ front) rest h e =
    let same : x ≡ c = cc in
    further (first_newline line more front rest h.1 (cc)) same
  where
    further : ((line ≡ front) × (more ≡ rest)) ⊎ ((later : List ℕ) × (front ≡ line ++ 10 ∷ later) × (more ≡ later ++ 10 ∷ rest)) → x ≡ c →
        ((x ∷ line ≡ c ∷ front) × (more ≡ rest)) ⊎ ((later : List ℕ) × (c ∷ front ≡ x ∷ (line ++ 10 ∷ later)) × (more ≡ later ++ 10 ∷ rest))
    further (inl k) s = let tail = k.0 in inl (cc, k.1)
    further (inr k) s = let tail = k.1 in inr (k.0, cc, k.2)

-- The lines up to a newline, and those that follow.
pub record IsSplit (lines : List (List ℕ)) (front rest : List ℕ) : Type 0 where
  pub first : List ℕ
  pub before : List (List ℕ)
  pub after : List (List ℕ)
  pub lines_are : lines ≡ first ∷ (before ++ after)
  pub front_is : unlines (first ∷ before) ≡ front ++ 10 ∷ []
  pub rest_is : unlines after ≡ rest

-- Where a text of lines has a newline, a line ends.
pub split_lines : (lines : List (List ℕ)) (front rest : List ℕ) → AllByRecursion (Lacks 10) lines → unlines lines ≡ front ++ 10 ∷ rest → IsSplit lines front rest
split_lines [] front rest h e = absurd (not_nil front 10 rest e)
split_lines (line ∷ lines) front rest h e = split (first_newline line (unlines lines) front rest h.0 e) (λ later k. split_lines lines later rest h.1 k)
  where
    split : ((line ≡ front) × (unlines lines ≡ rest)) ⊎ ((later : List ℕ) × (front ≡ line ++ 10 ∷ later) × (unlines lines ≡ later ++ 10 ∷ rest)) → ((later : List ℕ) → unlines lines ≡ later ++ 10 ∷ rest → IsSplit lines later rest) →
        IsSplit (line ∷ lines) front rest
    split (inl k) others = record { first = line; before = []; after = lines; lines_are = refl; front_is = ap (λ t. t ++ 10 ∷ []) k.0; rest_is = k.1 }
    split (inr k) others =
        let more = others k.0 k.2 in
        record {
          first = line;
          before = more.first ∷ more.before;
          after = more.after;
          lines_are = ap (λ t. line ∷ t) more.lines_are;
          front_is = ap (λ t. line ++ 10 ∷ t) more.front_is ∙ sym (append_assoc line (10 ∷ k.0) (10 ∷ [])) ∙ ap (λ t. t ++ 10 ∷ []) (sym k.1);
          rest_is = more.rest_is;
        }

-- What holds of the places of readers.
use Rattle.std.specs.List.{AllByRecursion}
use Rattle.std.proofs.Common.{◌≡◌, ◌≢◌, ℕ, ◌⊎◌, inl, inr, List, [], ◌∷◌, ◌++◌, not, refl, sym, ap, ◌∙◌, append_assoc}
use Rattle.std.proofs.Math.Dec.{eqb}
use Rattle.std.proofs.lemmas.Bool.Decides.{eqb_tells}
use Rattle.cg_text.specs.Texts.{Lacks, Viable, Next}
use Rattle.cg_value.specs.Files.{KindFile}
use Rattle.cg_value.specs.Lines.{unlines}
use Rattle.cg_value.specs.LineLaws.{plain_lines}
use Rattle.cg_value.specs.declared.kind.ReadForm.{ReadForm}
use Rattle.cg_line.specs.Place.{IsPlace, AtLineStart, TakesLine}
use Rattle.cg_line.specs.Rests.{SomeNext}

pub not_empty : (front : List ℕ) (b : ℕ) → front ++ b ∷ [] ≡ [] → ⊥
not_empty [] b e = cc
not_empty (x ∷ front) b e = cc

-- Two texts that end with a byte end with the same one.
pub last_same : (front other : List ℕ) (b c : ℕ) → front ++ b ∷ [] ≡ other ++ c ∷ [] → b ≡ c
last_same [] [] b c e = cc
last_same [] (y ∷ other) b c e = absurd (not_empty other c (cc))
last_same (x ∷ front) [] b c e = absurd (not_empty front b (cc))
last_same (x ∷ front) (y ∷ other) b c e = last_same front other b c (cc)

-- A byte more that goes on a text of lines, at the start of a line, begins a whole line.
pub record Begins (byte : ℕ) (rest : List ℕ) : Type 0 where
  pub line : List ℕ
  pub others : List ℕ
  pub plain : Lacks 10 line
  pub is : byte ∷ rest ≡ line ++ 10 ∷ others

first_line : (lines : List (List ℕ)) (byte : ℕ) (rest : List ℕ) → AllByRecursion (Lacks 10) lines → byte ∷ rest ≡ unlines lines → Begins byte rest
first_line [] byte rest p e = absurd (cc)
first_line (line ∷ lines) byte rest p e = record { line = line; others = unlines lines; plain = p.0; is = e }

-- What is left of a front that ends with the newline of a line.
drop_line : (line front more others : List ℕ) → Lacks 10 line → front ++ 10 ∷ more ≡ line ++ 10 ∷ others →
    ((front ≡ line) × (more ≡ others)) ⊎ ((f : List ℕ) × (front ≡ line ++ 10 ∷ f) × (f ++ 10 ∷ more ≡ others))
drop_line [] [] more others p e = inl (refl, (cc))
drop_line [] (x ∷ front) more others p e = let h : x ≡ 10 = cc in inr (front, rw h refl, (cc))
drop_line (y ∷ line) [] more others p e = absurd (p.0 (cc))
drop_line (y ∷ line) (x ∷ front) more others p e =
    let head : x ≡ y = cc in
    elim (drop_line line front more others p.1 (cc)) [
      | inl h ↦ inl (rw (head, h.0) refl, h.1)
      | inr h ↦ inr (h.0, rw (head, h.1) refl, h.2)
    ]

after_lines : (lines : List (List ℕ)) (front : List ℕ) (byte : ℕ) (rest : List ℕ) → AllByRecursion (Lacks 10) lines → front ++ 10 ∷ byte ∷ rest ≡ unlines lines → Begins byte rest
after_lines [] [] byte rest p e = absurd (cc)
after_lines [] (x ∷ front) byte rest p e = absurd (cc)
after_lines (line ∷ lines) front byte rest p e = elim (drop_line line front (byte ∷ rest) (unlines lines) p.0 e) [
  | inl h ↦ first_line lines byte rest p.1 h.1
  | inr h ↦ after_lines lines h.0 byte rest p.1 h.2
]

begins_line : (kind : ReadForm) (taken : List ℕ) (byte : ℕ) (rest : List ℕ) → AtLineStart taken → KindFile kind (taken ++ byte ∷ rest) → Begins byte rest
begins_line kind taken byte rest (inl e) h =
    let plain = plain_lines kind h.0 h.1.lines h.1.spelled in
    first_line h.1.lines byte rest plain (rw e at h.1.text_is)
begins_line kind taken byte rest (inr f) h =
    let plain = plain_lines kind h.0 h.1.lines h.1.spelled in
    let text : f.0 ++ 10 ∷ byte ∷ rest ≡ unlines h.1.lines = sym (append_assoc f.0 (10 ∷ []) (byte ∷ rest)) ∙ rw f.1 at h.1.text_is in
    after_lines h.1.lines f.0 byte rest plain text

-- Where no line is begun and some byte may come, a line may.
pub takes_where_next : (kind : ReadForm) (taken : List ℕ) (byte : ℕ) → AtLineStart taken → Next (KindFile kind) taken byte → TakesLine kind taken
takes_where_next kind taken byte at h =
    let whole : KindFile kind (taken ++ byte ∷ h.rest) = rw (append_assoc taken (byte ∷ []) h.rest) at h.whole in
    let begins = begins_line kind taken byte h.rest at whole in
    record {
      not_begun = at;
      line = begins.line;
      plain = begins.plain;
      goes = record {
        rest = begins.others;
        whole = rw (append_assoc taken (begins.line ++ 10 ∷ []) begins.others, append_assoc begins.line (10 ∷ []) begins.others, ← begins.is) whole;
      };
    }

next_of : (kind : ReadForm) (taken line : List ℕ) → Viable (KindFile kind) (taken ++ (line ++ 10 ∷ [])) → SomeNext (KindFile kind) taken
next_of kind taken [] h = record { byte = 10; next = h }
next_of kind taken (b ∷ line) h = record {
  byte = b;
  next = record {
    rest = (line ++ 10 ∷ []) ++ h.rest;
    whole = rw (append_assoc taken (b ∷ []) ((line ++ 10 ∷ []) ++ h.rest), ← append_assoc taken (b ∷ (line ++ 10 ∷ [])) h.rest) h.whole;
  };
}

pub next_where_takes : (kind : ReadForm) (taken : List ℕ) → TakesLine kind taken → SomeNext (KindFile kind) taken
next_where_takes kind taken h = next_of kind taken h.line h.goes

-- ---- The place after a byte

not_start : (front : List ℕ) (b : ℕ) → b ≢ 10 → AtLineStart (front ++ b ∷ []) → ⊥
not_start front b other (inl e) = not_empty front b e
not_start front b other (inr f) = other (last_same front f.0 b 10 f.1)

pub place_after : (front : List ℕ) (b : ℕ) → IsPlace (not (eqb b 10)) (front ++ b ∷ [])
place_after front b = elim (eqb_tells b 10) [
  | inl e ↦ rw e.0 (inr (front, ap (λ n. front ++ n ∷ []) e.1))
  | inr e ↦ rw e.0 (not_start front b e.1)
]

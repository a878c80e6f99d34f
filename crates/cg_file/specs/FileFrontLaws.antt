-- Which kinds have files of one line, and what such a file in front of some bytes is.
use Rattle.std.proofs.Common.{◌≡◌, ℕ, ◌≤◌, ◌<◌, arith, inl, inr, List, [], ◌∷◌, ◌++◌, length, take, refl, sym, ◌∙◌, append_assoc, Option, Some, None}
use Rattle.std.specs.Prelude.{IfSome, ⊤}
use Rattle.std.proofs.lemmas.List.Elements.{All-nil}
use Rattle.cg_text.specs.ListFacts.{not_nil}
use Rattle.cg_text.specs.Texts.{Lacks, Next}
use Rattle.cg_text.specs.Token.{IsFront, Spells}
use Rattle.cg_text.specs.Word.{IsControllerWord}
use Rattle.cg_value.specs.Files.{KindText, KindFile, ReadLines}
use Rattle.cg_value.specs.Held.{held_of_value}
use Rattle.cg_value.specs.LineLaws.{plain_lines}
use Rattle.cg_value.specs.Lines.{unlines}
use Rattle.cg_value.specs.declared.kind.ReadForm.{ReadForm}
use Rattle.cg_value.specs.declared.kind.ReadForm.TheVariants as form
use Rattle.cg_value.specs.declared.value.Value.{Value}
use Rattle.cg_value.specs.declared.value.Value.TheVariants as value
use Rattle.cg_file.specs.Front.{IsFileFront}

-- At most one.
abbrev AreFew : List (List ℕ) → Type 0
AreFew [] = ⊤
AreFew (line ∷ []) = ⊤
AreFew (line ∷ other ∷ lines) = ⊥

-- The files of the kind have at most one line.
abbrev pub HasFewLines : ReadForm → Type 0
HasFewLines kind = (v : Value) (lines : List (List ℕ)) → ReadLines kind v lines → AreFew lines

-- The files of the kind have one line, and their values hold nothing.
abbrev pub HasOneLine : ReadForm → Type 0
HasOneLine kind = (v : Value) (lines : List (List ℕ)) → ReadLines kind v lines → (line : List ℕ) × (lines ≡ line ∷ []) × (held_of_value v ≡ 0)

few_of_one : (kind : ReadForm) → HasOneLine kind → HasFewLines kind
few_of_one kind one v lines h = rw (one v lines h).1 tt

pub number_line : (lo hi : ℕ) → HasOneLine (form.Number lo hi)
number_line lo hi v lines h = (h.line, h.lines_are, rw h.value refl)

pub limit_line : HasOneLine form.Limit
limit_line v lines h = (h.line, h.lines_are, rw h.value refl)

pub mode_line : HasOneLine form.Mode
mode_line v lines h = (h.line, h.lines_are, rw h.value refl)

pub class_line : HasOneLine form.Class
class_line v lines h = (h.line, h.lines_are, rw h.value refl)

pub cpu_max_line : HasOneLine form.CpuMax
cpu_max_line v lines h = (h.line, h.lines_are, rw h.value refl)

pub clamp_line : HasOneLine form.Clamp
clamp_line v lines h = (h.line, h.lines_are, rw h.value refl)

words_lines : HasFewLines form.Words
words_lines v lines h = elim h.spelled.lines_are [ inl one ↦ rw one tt | inr none ↦ rw none.1 tt ]

set_line : (most : ℕ) → HasFewLines (form.Set most)
set_line most v lines h = rw h.lines_are tt

-- A line that has a byte after its newline isn't the only one.
not_only : (line other : List ℕ) (byte : ℕ) (rest : List ℕ) → Lacks 10 other → line ++ 10 ∷ byte ∷ rest ≡ other ++ 10 ∷ [] → ⊥
not_only [] [] byte rest plain e = cc
not_only [] (x ∷ other) byte rest plain e = plain.0 (cc)
not_only (x ∷ line) [] byte rest plain e = not_nil line 10 (byte ∷ rest) (cc)
not_only (x ∷ line) (y ∷ other) byte rest plain e = not_only line other byte rest plain.1 (cc)

none_after : (kind : ReadForm) (v : Value) (line : List ℕ) (byte : ℕ) (rest : List ℕ) (lines : List (List ℕ)) → AreFew lines → ReadLines kind v lines → line ++ 10 ∷ byte ∷ rest ≡ unlines lines → ⊥
none_after kind v line byte rest [] few h e = not_nil line 10 (byte ∷ rest) (sym e)
none_after kind v line byte rest (other ∷ (_ ∷ _)) few h e = elim few [ ]
none_after kind v line byte rest (other ∷ []) few h e = not_only line other byte rest (plain_lines kind v (other ∷ []) h).0 e

-- After the only line comes nothing.
pub no_next : (kind : ReadForm) → HasFewLines kind → (text line : List ℕ) (byte : ℕ) → text ≡ line ++ 10 ∷ [] → Next (KindFile kind) text byte → ⊥
no_next kind few text line byte e h =
    let file = h.whole.1 in
    let shape : (text ++ byte ∷ []) ++ h.rest ≡ line ++ 10 ∷ byte ∷ h.rest = rw (e, append_assoc (line ++ 10 ∷ []) (byte ∷ []) h.rest, append_assoc line (10 ∷ []) (byte ∷ h.rest)) refl in
    none_after kind h.whole.0 line byte h.rest file.lines (few h.whole.0 file.lines file.spelled) file.spelled (sym shape ∙ file.text_is)

-- Of such a kind, a value that holds nothing, and whose only line these bytes are.
pub line_front : (kind : ReadForm) → HasFewLines kind → (bytes : List ℕ) (v : Value) (used : ℕ) (line : List ℕ) → used ≤ length bytes → take used bytes ≡ line ++ 10 ∷ [] →
    ReadLines kind v (line ∷ []) → held_of_value v ≡ 0 → IsFileFront kind bytes v used
line_front kind few bytes v used line within e h light = record {
  within = within;
  text = record { lines = line ∷ []; spelled = h; text_is = e };
  line = (line, e, (plain_lines kind v (line ∷ []) h).0);
  last = λ byte. no_next kind few (take used bytes) line byte e;
  light = light;
}

-- Of a kind of one line, a file that these bytes are.
pub file_front : (kind : ReadForm) → HasOneLine kind → (bytes : List ℕ) (v : Value) (used : ℕ) → used ≤ length bytes → KindText kind v (take used bytes) → IsFileFront kind bytes v used
file_front kind one bytes v used within h =
    let only = one v h.lines h.spelled in
    line_front kind (few_of_one kind one) bytes v used only.0 within (rw only.1 at h.text_is) (rw only.1 at h.spelled) only.2

-- What a token of such a kind finds in front of some bytes is one.
pub found_front : {S : Type 0} (means : S → List ℕ → Value → Type 0) (s : S) (kind : ReadForm) → HasOneLine kind → (bytes : List ℕ) (found : Option (Value × ℕ)) → Spells means s (λ text v. KindText kind v text) →
    IfSome found (IsFront means s bytes) → IfSome found (λ r. IsFileFront kind bytes r.0 r.1)
found_front means s kind one bytes None spells h = h
found_front means s kind one bytes (Some r) spells h = file_front kind one bytes r.0 r.1 h.0 ((spells.is (take r.1 bytes) r.0).0 h.1)

-- No words, and the empty set, are an empty line.
pub empty_words : (bytes : List ℕ) (words : List (List ℕ)) → words ≡ [] → 0 < length bytes → take 1 bytes ≡ 10 ∷ [] → IsFileFront form.Words bytes (value.Words words) 1
empty_words bytes words none some e = rw none
    (line_front form.Words words_lines bytes (value.Words []) 1 [] (omega arith) e (record { x = []; value = refl; spelled = record { each = All-nil IsControllerWord; distinct = tt; lines_are = inl refl } }) refl)

pub empty_set : (most : ℕ) (bytes : List ℕ) (set : List (ℕ × ℕ)) → set ≡ [] → 0 < length bytes → take 1 bytes ≡ 10 ∷ [] → IsFileFront (form.Set most) bytes (value.Set set) 1
empty_set most bytes set none some e = rw none (line_front (form.Set most) (set_line most) bytes (value.Set []) 1 [] (omega arith) e (record { x = []; line = []; value = refl; lines_are = refl; spelled = (tt, refl) }) refl)

-- How much is held after more bytes.
use Rattle.std.proofs.Common.{◌≡◌, ℕ, ◌+◌, ◌≤◌, ◌⊎◌, inl, inr, List, [], ◌∷◌, ◌++◌, length, refl, sym, ◌∙◌, ap, arith, append_assoc, append-nil, length-append}
use Rattle.cg_text.specs.Texts.{Lacks}
use Rattle.cg_value.specs.Files.{ReadLines, KindText}
use Rattle.cg_value.specs.Kind.{IsReadForm}
use Rattle.cg_value.specs.Lines.{unlines}
use Rattle.cg_value.specs.PrintLaws.{one_text}
use Rattle.cg_value.specs.Held.{held_of_lines}
use Rattle.cg_value.specs.declared.kind.ReadForm.{ReadForm}
use Rattle.cg_value.specs.declared.value.Value.{Value}
use Rattle.cg_file.specs.Kinds.{HoldsLittle, held_of_whole}
use Rattle.cg_line.specs.PlaceLaws.{last_same, not_empty}
use Rattle.cg_line.specs.Rests.{IsPiece}

-- A text is empty, or has a last byte.
record HasLast (text : List ℕ) : Type 0 where
  front : List ℕ
  last : ℕ
  is : text ≡ front ++ last ∷ []

last_of : (text : List ℕ) → (text ≡ []) ⊎ HasLast text
last_of [] = inl refl
last_of (x ∷ xs) = elim (last_of xs) [
  | inl e ↦ inr (record { front = []; last = x; is = ap (λ t. x ∷ t) e })
  | inr h ↦ inr (record { front = x ∷ h.front; last = h.last; is = ap (λ t. x ∷ t) h.is })
]

-- Two texts that end with a byte are the same where they are before it.
same_front : (front other : List ℕ) (b c : ℕ) → front ++ b ∷ [] ≡ other ++ c ∷ [] → front ≡ other
same_front [] [] b c e = refl
same_front [] (y ∷ []) b c e = absurd (cc)
same_front [] (y ∷ z ∷ other) b c e = absurd (cc)
same_front (x ∷ []) [] b c e = absurd (cc)
same_front (x ∷ y ∷ front) [] b c e = absurd (cc)
same_front (x ∷ front) (y ∷ other) b c e =
    let head : x ≡ y = cc in
    let more = same_front front other b c (cc) in
    rw (head, more) refl

lacks_front : (front : List ℕ) (b : ℕ) → Lacks 10 (front ++ b ∷ []) → Lacks 10 front
lacks_front [] b h = tt
lacks_front (x ∷ front) b h = (h.0, lacks_front front b h.1)

-- Of a text that ends where a line does.
whole_line : (kind : ReadForm) (v : Value) (lines : List (List ℕ)) (taken : List ℕ) (b size : ℕ) → IsReadForm kind → ReadLines kind v lines → taken ++ b ∷ [] ≡ unlines lines → size ≤ held_of_whole v → size ≤ held_of_lines v lines
whole_line kind v lines taken b size form spelled e bound = elim (one_text kind v lines form spelled) [
  | inl same ↦ rw same bound
  | inr none ↦ absurd (not_empty taken b (e ∙ ap unlines none.no_lines))
]

lacks_last : (front : List ℕ) (b : ℕ) → Lacks 10 (front ++ b ∷ []) → b ≡ 10 → ⊥
lacks_last [] b h e = h.0 e
lacks_last (x ∷ front) b h e = lacks_last front b h.1 e

-- Nothing is held at the start.
pub holds_none : (kind : ReadForm) (size : ℕ) → size ≡ 0 → HoldsLittle size kind []
holds_none kind size e lines line v text plain spelled = omega (arith, e)

-- ---- A run of bytes that has no newline

-- Lines end with a newline.
pub lines_last : (lines : List (List ℕ)) → (unlines lines ≡ []) ⊎ ((front : List ℕ) × (unlines lines ≡ front ++ 10 ∷ []))
lines_last [] = inl refl
lines_last (line ∷ lines) = elim (lines_last lines) [
  | inl e ↦ inr (line, ap (λ t. line ++ 10 ∷ t) e)
  | inr h ↦ inr (line ++ 10 ∷ h.0, ap (λ t. line ++ 10 ∷ t) h.1 ∙ sym (append_assoc line (10 ∷ h.0) (10 ∷ [])))
]

no_line_ends : (lines : List (List ℕ)) (taken : List ℕ) (b : ℕ) → (b ≡ 10 → ⊥) → taken ++ b ∷ [] ≡ unlines lines → ⊥
no_line_ends lines taken b other e = elim (lines_last lines) [
  | inl none ↦ not_empty taken b (e ∙ none)
  | inr some ↦ other (last_same taken some.0 b 10 (e ∙ some.1))
]

-- A newline was taken: a whole file holds at most what its value does.
pub holds_line : (kind : ReadForm) (taken : List ℕ) (size : ℕ) → IsReadForm kind → ((v : Value) → KindText kind v (taken ++ 10 ∷ []) → size ≤ held_of_whole v) → HoldsLittle size kind (taken ++ 10 ∷ [])
holds_line kind taken size form whole lines line v e plain spelled = elim (last_of line) [
  | inl none ↦
      let text : taken ++ 10 ∷ [] ≡ unlines lines = e ∙ ap (λ t. unlines lines ++ t) none ∙ append-nil (unlines lines) in
      let bound = whole v (record { lines = lines; spelled = spelled; text_is = text }) in
      omega (arith, whole_line kind v lines taken 10 size form spelled text bound)
  | inr some ↦
      let text : taken ++ 10 ∷ [] ≡ (unlines lines ++ some.front) ++ some.last ∷ [] = e ∙ ap (λ t. unlines lines ++ t) some.is ∙ sym (append_assoc (unlines lines) some.front (some.last ∷ [])) in
      absurd (lacks_last some.front some.last (rw some.is at plain) (sym (last_same taken (unlines lines ++ some.front) 10 some.last text)))
]

holds_plain : (kind : ReadForm) (taken : List ℕ) (b old new : ℕ) → (b ≡ 10 → ⊥) → new ≤ old + 1 → HoldsLittle old kind taken → HoldsLittle new kind (taken ++ b ∷ [])
holds_plain kind taken b old new other grows h lines line v e plain spelled = elim (last_of line) [
  | inl none ↦ absurd (no_line_ends lines taken b other (e ∙ ap (λ t. unlines lines ++ t) none ∙ append-nil (unlines lines)))
  | inr some ↦
      let text : taken ++ b ∷ [] ≡ (unlines lines ++ some.front) ++ some.last ∷ [] = e ∙ ap (λ t. unlines lines ++ t) some.is ∙ sym (append_assoc (unlines lines) some.front (some.last ∷ [])) in
      let front : taken ≡ unlines lines ++ some.front = same_front taken (unlines lines ++ some.front) b some.last text in
      let before = h lines some.front v front (lacks_front some.front some.last (rw some.is at plain)) spelled in
      let longer : length line ≡ length some.front + 1 = ap length some.is ∙ length-append some.front (some.last ∷ []) in
      omega (arith, before, longer, grows)
]

holds_same : (kind : ReadForm) (taken : List ℕ) (old new : ℕ) → new ≤ old → HoldsLittle old kind taken → HoldsLittle new kind taken
holds_same kind taken old new less h lines line v e plain spelled = omega (arith, less, h lines line v e plain spelled)

-- A byte adds at most one.
pub holds_run : (kind : ReadForm) (run taken : List ℕ) (old new : ℕ) → Lacks 10 run → new ≤ old + length run → HoldsLittle old kind taken → HoldsLittle new kind (taken ++ run)
holds_run kind [] taken old new plain grows h = rw (append-nil taken) (holds_same kind taken old new (omega (arith, grows)) h)
holds_run kind (b ∷ run) taken old new plain grows h =
    rw (← append_assoc taken (b ∷ []) run) (holds_run kind run (taken ++ b ∷ []) (old + 1) new plain.1 (omega (arith, grows)) (holds_plain kind taken b old (old + 1) plain.0 (omega arith) h))

-- Bytes of a line were taken, or the rest of one with its newline.
pub holds_piece : (kind : ReadForm) (taken run : List ℕ) (old new : ℕ) → IsReadForm kind → IsPiece run → new ≤ old + length run → ((v : Value) → KindText kind v (taken ++ run) → new ≤ held_of_whole v) →
    HoldsLittle old kind taken → HoldsLittle new kind (taken ++ run)
holds_piece kind taken run old new form (inl plain) grows whole h = holds_run kind run taken old new plain grows h
holds_piece kind taken run old new form (inr line) grows whole h =
    let same : taken ++ run ≡ (taken ++ line.0) ++ 10 ∷ [] = ap (λ t. taken ++ t) line.1 ∙ sym (append_assoc taken line.0 (10 ∷ [])) in
    rw same (holds_line kind (taken ++ line.0) new form (rw same at whole))

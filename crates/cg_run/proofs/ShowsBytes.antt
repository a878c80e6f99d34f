-- How bytes are shown one part after another, and records.
use Rattle.std.proofs.Common.{◌≡◌, ◌≢◌, ℕ, zero, suc, ◌+◌, ◌<◌, false, List, [], ◌∷◌, ◌++◌, length, take, drop, get_or, refl, sym, ap, subst, ◌∙◌, inl, inr, append_assoc, append-nil, eqb, eq-eqb, arith, take-append-drop}
use Rattle.std.proofs.Math.Seq.{drop-append-add, drop-append_seam, take-add, take-append-add}
use Rattle.std.proofs.lemmas.Bool.Decides.{nat_tests}
use Rattle.std.proofs.lemmas.List.{take_all, take_more, length-drop, get_or-drop}
use Rattle.std.specs.List.{AllByRecursion}
use Rattle.memchr.specs.Find.{Nowhere, Passes, is_byte}
use Rattle.cg_text.specs.Texts.{Lacks}
use Rattle.cg_print.specs.Headed.{shown}
use Rattle.cg_snap.specs.Begun.{IsRecordEnd}
use Rattle.cg_snap.specs.SnapLaws.{record_then}
use Rattle.cg_value.specs.PathLaws.{lacks_all}
use Rattle.cg_value.specs.Records.{records}
use Rattle.cg_run.specs.ShownBytes.{IsCut, shown_byte, shown_bytes}

-- ---- One part after another

pub shown-append : (xs ys : List ℕ) → shown_bytes (xs ++ ys) ≡ shown_bytes xs ++ shown_bytes ys
shown-append [] ys = refl
shown-append (x ∷ xs) ys = ap (λ t. shown_byte x ++ t) (shown-append xs ys) ∙ sym (append_assoc (shown_byte x) (shown_bytes xs) (shown_bytes ys))

-- ---- Paths and lines

other_byte : (x b : ℕ) → x ≢ b → eqb x b ≡ false
other_byte x b n = grind (arith, nat_tests)

byte_shown : (x : ℕ) → x ≢ 0 → shown_byte x ≡ x ∷ []
byte_shown x n = rw (other_byte x 0 n) refl

-- Bytes without a NUL are shown as they are.
pub plain_shown : (bytes more : List ℕ) → Lacks 0 bytes → shown_bytes (bytes ++ more) ≡ bytes ++ shown_bytes more
plain_shown [] more h = refl
plain_shown (x ∷ bytes) more h = ap (λ t. t ++ shown_bytes (bytes ++ more)) (byte_shown x h.0) ∙ ap (λ t. x ∷ t) (plain_shown bytes more h.1)

pub all_plain : (bytes : List ℕ) → Lacks 0 bytes → shown_bytes bytes ≡ bytes
all_plain bytes h = ap (λ t. shown_bytes t) (sym (append-nil bytes)) ∙ plain_shown bytes [] h ∙ append-nil bytes

-- ---- Records

pub records_shown : (path : List ℕ) (lines : List (List ℕ)) (more : List ℕ) → Lacks 0 path → AllByRecursion (Lacks 0) lines →
    shown_bytes (records path lines ++ more) ≡ shown path lines ++ shown_bytes more
records_shown path [] more h p = refl
records_shown path (line ∷ lines) more h p =
    let rest = shown_bytes more in
    ap (λ t. shown_bytes t) (record_then path line (records path lines) more)
    ∙ plain_shown path (0 ∷ (line ++ 10 ∷ (records path lines ++ more))) h
    ∙ ap (λ t. path ++ 58 ∷ 32 ∷ t) (plain_shown line (10 ∷ (records path lines ++ more)) p.0 ∙ ap (λ t. line ++ 10 ∷ t) (records_shown path lines more h p.1)
    ∙ sym (append_assoc line (10 ∷ shown path lines) rest))
    ∙ sym (append_assoc path (58 ∷ 32 ∷ (line ++ 10 ∷ shown path lines)) rest)

-- ---- What is shown ends with a newline

line_end : (path line back : List ℕ) → IsRecordEnd back → IsRecordEnd (path ++ 58 ∷ 32 ∷ (line ++ 10 ∷ back))
line_end path line back (inl e) = inr (
  path ++ 58 ∷ 32 ∷ line,
  ap (λ (t : List ℕ). path ++ 58 ∷ 32 ∷ (line ++ 10 ∷ t)) e ∙ sym (append_assoc path (58 ∷ 32 ∷ line) (10 ∷ [])),
)
line_end path line back (inr r) = inr (
  path ++ 58 ∷ 32 ∷ (line ++ 10 ∷ r.0),
  ap (λ (t : List ℕ). path ++ 58 ∷ 32 ∷ t) (ap (λ (t : List ℕ). line ++ 10 ∷ t) r.1 ∙ sym (append_assoc line (10 ∷ r.0) (10 ∷ [])))
      ∙ sym (append_assoc path (58 ∷ 32 ∷ (line ++ 10 ∷ r.0)) (10 ∷ [])),
)

pub shown_end : (path : List ℕ) (lines : List (List ℕ)) → IsRecordEnd (shown path lines)
shown_end path [] = inl refl
shown_end path (line ∷ lines) = line_end path line (shown path lines) (shown_end path lines)

-- ---- Searches

lacks_at : (b : ℕ) (xs : List ℕ) (n : ℕ) → ((i : ℕ) → i < n → get_or xs i 0 ≢ b) → Lacks b (take n xs)
lacks_at b xs zero none = tt
lacks_at b [] (suc n) none = tt
lacks_at b (x ∷ xs) (suc n) none = (none 0 (omega arith), lacks_at b xs n (λ i h. none (suc i) (omega (arith, h))))

-- Where a search finds no such byte in front of a place, or behind it, none stands there.
pub lacks_before : (b : ℕ) (xs : List ℕ) (n : ℕ) → Nowhere (Passes (is_byte b) xs) 0 n → Lacks b (take n xs)
lacks_before b xs n none = lacks_at b xs n (λ i h e. none i (omega arith) h (eq-eqb (get_or xs i 0) b e))

pub lacks_behind : (b : ℕ) (xs : List ℕ) (n : ℕ) → Nowhere (Passes (is_byte b) xs) n (length xs) → Lacks b (drop n xs)
lacks_behind b xs n none =
    subst (Lacks b) (take_all (length (drop n xs)) (drop n xs) (omega arith)) (lacks_at b (drop n xs) (length (drop n xs)) (λ i h e.
    none (n + i) (omega arith) (omega (arith, h, length-drop n xs)) (eq-eqb (get_or xs (n + i) 0) b (sym (get_or-drop n xs i 0) ∙ e))))

-- The text is cut behind its last newline, or is all kept.
pub cut_behind : (text : List ℕ) (k : ℕ) → k < length text → get_or text k 0 ≡ 10 → Nowhere (Passes (is_byte 10) text) (k + 1) (length text) → IsCut text (take (k + 1) text) (drop (k + 1) text)
cut_behind text k within e none = record {
  whole = sym (take-append-drop (k + 1) text);
  ended = inr (take k text, take_more text k 0 within ∙ ap (λ b. take k text ++ b ∷ []) e);
  plain = lacks_behind 10 text (k + 1) none;
}

pub cut_none : (text : List ℕ) → Nowhere (Passes (is_byte 10) text) 0 (length text) → IsCut text (take 0 text) (drop 0 text)
cut_none text none = record { whole = refl; ended = inl refl; plain = lacks_all 10 text none }

-- ---- Bytes that are appended

-- A NUL came behind bytes that are shown as they are.
pub path_ended : (old bytes front text : List ℕ) (place : ℕ) → place < length bytes → get_or bytes place 0 ≡ 0 → Nowhere (Passes (is_byte 0) bytes) 0 place →
    front ≡ old ++ take place bytes → text ≡ front ++ 58 ∷ 32 ∷ [] → text ≡ old ++ shown_bytes (take (place + 1) bytes)
path_ended old bytes front text place within nul none first second =
    let path = take place bytes in
    let ended : take (place + 1) bytes ≡ path ++ 0 ∷ [] = take_more bytes place 0 within ∙ ap (λ b. path ++ b ∷ []) nul in
    let shown : shown_bytes (path ++ 0 ∷ []) ≡ path ++ 58 ∷ 32 ∷ [] = plain_shown path (0 ∷ []) (lacks_before 0 bytes place none) in
    second ∙ ap (λ t. t ++ 58 ∷ 32 ∷ []) first ∙ append_assoc old path (58 ∷ 32 ∷ []) ∙ ap (λ t. old ++ t) (sym (ap (λ t. shown_bytes t) ended ∙ shown))

-- One part came after another.
pub shows_rest : (old mid now bytes rest : List ℕ) (used n : ℕ) → rest ≡ drop used bytes → mid ≡ old ++ shown_bytes (take used bytes) → now ≡ mid ++ shown_bytes (take n rest) →
    now ≡ old ++ shown_bytes (take (used + n) bytes)
shows_rest old mid now bytes rest used n e h g =
    let front = take used bytes in
    let both : take (used + n) bytes ≡ front ++ take n rest = take-add used n bytes ∙ ap (λ t. front ++ take n t) (sym e) in
    g ∙ ap (λ t. t ++ shown_bytes (take n rest)) h ∙ append_assoc old (shown_bytes front) (shown_bytes (take n rest))
    ∙ ap (λ t. old ++ t) (sym (ap (λ t. shown_bytes t) both ∙ shown-append front (take n rest)))

-- A text was moved to the end of another, more was appended, and what is behind the last newline was taken back.
module _ (out text shown : List ℕ) where
  pub moved_text : (all : List ℕ) → all ≡ (out ++ text) ++ shown → drop (length out) all ≡ text ++ shown
  moved_text all e = ap (λ t. drop (length out) t) (e ∙ append_assoc out text shown) ∙ drop-append_seam out (text ++ shown)

  pub moved_front : (all : List ℕ) (end : ℕ) → all ≡ (out ++ text) ++ shown → take (length out + end) all ≡ out ++ take end (text ++ shown)
  moved_front all end e = ap (λ t. take (length out + end) t) (e ∙ append_assoc out text shown) ∙ take-append-add out (text ++ shown) end

  pub moved_back : (all : List ℕ) (end : ℕ) → all ≡ (out ++ text) ++ shown → drop (length out + end) all ≡ drop end (text ++ shown)
  moved_back all end e = ap (λ t. drop (length out + end) t) (e ∙ append_assoc out text shown) ∙ drop-append-add out (text ++ shown) end

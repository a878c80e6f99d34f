-- What holds of lines that lie in one text.
use Rattle.std.proofs.Common.{◌≡◌, ◌≢◌, ℕ, zero, suc, ◌+◌, ◌-◌, ◌<◌, ◌≤◌, ◌↔◌, inl, inr, cond, nat_eq, List, [], ◌∷◌, ◌++◌, length, take, drop, get_or, IsTrue, arith, refl, sym, ◌∙◌, ap, subst, eqb-true, eq-eqb}
use Rattle.std.proofs.lemmas.Bool.{ne_eqb}
use Rattle.std.proofs.lemmas.Bool.Decides.{eqb_tells}
use Rattle.std.proofs.Math.Seq.{drop-cons, take-length}
use Rattle.std.proofs.lemmas.List.{append_cancel_left, take-append-drop, take_all}
use Rattle.std.specs.List.{AllByRecursion, AllZip, onto_first}
use Rattle.memchr.specs.Find.{Nowhere, Passes, is_byte}
use Rattle.cg_text.specs.PlainLaws.{plain_searched}
use Rattle.cg_text.specs.Raw.{IsRawLine}
use Rattle.cg_text.specs.Texts.{Lacks}
use Rattle.cg_text.specs.Token.{AreBytes}
use Rattle.cg_value.specs.Lines.{unlines}
use Rattle.cg_value.specs.RawLines.{AreWholeLines, HasNoNul, is_ended, lines_of}
use Rattle.cg_value.specs.ReadLine.{IsRaw}
use Rattle.cg_value.specs.SpelledLaws.{HasLines}

-- The first byte is no newline.
lines_more : (c : ℕ) (cs : List ℕ) → c ≢ 10 → lines_of (c ∷ cs) ≡ onto_first c (lines_of cs)
lines_more c cs other = ap (λ b. cond b ([] ∷ lines_of cs) (onto_first c (lines_of cs))) (ne_eqb c 10 other)

-- The first byte is one.
lines_break : (c : ℕ) (cs : List ℕ) → c ≡ 10 → lines_of (c ∷ cs) ≡ [] ∷ lines_of cs
lines_break c cs is = ap (λ b. cond b ([] ∷ lines_of cs) (onto_first c (lines_of cs))) (eq-eqb c 10 is)

-- A first line, and those behind it.
pub line_before : (front back : List ℕ) → Lacks 10 front → lines_of (front ++ 10 ∷ back) ≡ front ∷ lines_of back
line_before [] back plain = refl
line_before (c ∷ cs) back plain = lines_more c (cs ++ 10 ∷ back) plain.0 ∙ ap (λ ls. onto_first c ls) (line_before cs back plain.1)

pub lines_unlines : (ls : List (List ℕ)) → AllByRecursion (Lacks 10) ls → lines_of (unlines ls) ≡ ls
lines_unlines [] plain = refl
lines_unlines (l ∷ ls) plain = line_before l (unlines ls) plain.0 ∙ ap (λ ms. l ∷ ms) (lines_unlines ls plain.1)

pub whole_unlines : (ls : List (List ℕ)) → AllByRecursion (Lacks 10) ls → AreWholeLines (unlines ls)
whole_unlines ls plain = record { whole = ap (λ ms. unlines ms) (lines_unlines ls plain) }

onto_plain : (c : ℕ) (ls : List (List ℕ)) → c ≢ 10 → AllByRecursion (Lacks 10) ls → AllByRecursion (Lacks 10) (onto_first c ls)
onto_plain c [] other plain = ((other, tt), tt)
onto_plain c (l ∷ ls) other plain = ((other, plain.0), plain.1)

-- No line has a newline.
pub lines_plain : (text : List ℕ) → AllByRecursion (Lacks 10) (lines_of text)
lines_plain [] = tt
lines_plain (c ∷ cs) = elim (eqb_tells c 10) [
  | inl is ↦ rw (lines_break c cs is.1) (tt, lines_plain cs)
  | inr other ↦ rw (lines_more c cs other.1) (onto_plain c (lines_of cs) other.1 (lines_plain cs))
]

-- The lines behind the first are whole.
whole_behind : (front back : List ℕ) → Lacks 10 front → AreWholeLines (front ++ 10 ∷ back) → AreWholeLines back
whole_behind front back plain h =
    let same : front ++ 10 ∷ unlines (lines_of back) ≡ front ++ 10 ∷ back = sym (ap (λ ls. unlines ls) (line_before front back plain)) ∙ h.whole in
    record { whole = append_cancel_left (10 ∷ []) (unlines (lines_of back)) back (append_cancel_left front (10 ∷ unlines (lines_of back)) (10 ∷ back) same) }

newline_in : (front back : List ℕ) → Lacks 10 (front ++ 10 ∷ back) → ⊥
newline_in [] back plain = plain.0 refl
newline_in (c ∷ cs) back plain = newline_in cs back plain.1

none_plain : (ls : List (List ℕ)) → Lacks 10 (unlines ls) → ls ≡ []
none_plain [] plain = refl
none_plain (l ∷ ls) plain = absurd (newline_in l (unlines ls) plain)

-- Whole lines without a newline are none.
pub plain_none : (text : List ℕ) → Lacks 10 text → AreWholeLines text → lines_of text ≡ []
plain_none text plain h = none_plain (lines_of text) (rw h.whole plain)

-- ---- Where a text ends

cons_some : (c : ℕ) (ls : List (List ℕ)) → ls ≢ [] → unlines (onto_first c ls) ≡ c ∷ unlines ls
cons_some c [] some = absurd (some refl)
cons_some c (l ∷ ls) some = refl

nil_not : (l : List ℕ) (ls : List (List ℕ)) → l ∷ ls ≢ []
nil_not l ls e = absurd (cc)

onto_some : (c : ℕ) (ls : List (List ℕ)) → onto_first c ls ≢ []
onto_some c [] e = nil_not (c ∷ []) [] e
onto_some c (l ∷ ls) e = nil_not (c ∷ l) ls e

some_lines : (c : ℕ) (cs : List ℕ) → lines_of (c ∷ cs) ≢ []
some_lines c cs none = elim (eqb_tells c 10) [
  | inl is ↦ nil_not [] (lines_of cs) (sym (lines_break c cs is.1) ∙ none)
  | inr other ↦ onto_some c (lines_of cs) (sym (lines_more c cs other.1) ∙ none)
]

cons_whole : (c d : ℕ) (ds : List ℕ) → unlines (lines_of (d ∷ ds)) ≡ d ∷ ds → unlines (lines_of (c ∷ d ∷ ds)) ≡ c ∷ d ∷ ds
cons_whole c d ds h = elim (eqb_tells c 10) [
  | inl is ↦ (let cut : unlines (lines_of (c ∷ d ∷ ds)) ≡ 10 ∷ unlines (lines_of (d ∷ ds)) = ap (λ ls. unlines ls) (lines_break c (d ∷ ds) is.1) in
      let head : 10 ∷ d ∷ ds ≡ c ∷ d ∷ ds = ap (λ b. b ∷ d ∷ ds) (sym is.1) in
      cut ∙ ap (λ cs. 10 ∷ cs) h ∙ head)
  | inr other ↦ ap (λ ls. unlines ls) (lines_more c (d ∷ ds) other.1) ∙ cons_some c (lines_of (d ∷ ds)) (some_lines d ds) ∙ ap (λ cs. c ∷ cs) h
]

ended_unlines : (text : List ℕ) → IsTrue (is_ended text) → unlines (lines_of text) ≡ text
ended_unlines [] e = refl
ended_unlines (c ∷ []) e =
    let is : c ≡ 10 = eqb-true c 10 e in
    ap (λ ls. unlines ls) (lines_break c [] is) ∙ ap (λ b. b ∷ []) (sym is)
ended_unlines (c ∷ d ∷ ds) e = cons_whole c d ds (ended_unlines (d ∷ ds) e)

ended_after : (front back : List ℕ) → IsTrue (is_ended back) → IsTrue (is_ended (front ++ 10 ∷ back))
ended_after [] [] e = refl
ended_after [] (b ∷ bs) e = e
ended_after (c ∷ []) back e = ended_after [] back e
ended_after (c ∷ d ∷ ds) back e = ended_after (d ∷ ds) back e

unlines_ended : (ls : List (List ℕ)) → IsTrue (is_ended (unlines ls))
unlines_ended [] = refl
unlines_ended (l ∷ ls) = ended_after l (unlines ls) (unlines_ended ls)

-- A text is whole lines exactly where it is ended.
pub ended_whole : (text : List ℕ) → IsTrue (is_ended text) ↔ AreWholeLines text
ended_whole text = (
  λ e. record { whole = ended_unlines text e },
  λ h. subst (λ t. IsTrue (is_ended t)) h.whole (unlines_ended (lines_of text)),
)

last_is : (text : List ℕ) (n : ℕ) → length text ≡ n + 1 → is_ended text ≡ nat_eq (get_or text n 10) 10
last_is [] n e = absurd (omega (arith, e))
last_is (c ∷ []) zero e = refl
last_is (c ∷ []) (suc n) e = absurd (omega (arith, e))
last_is (c ∷ d ∷ ds) zero e = absurd (omega (arith, e))
last_is (c ∷ d ∷ ds) (suc n) e = last_is (d ∷ ds) n (omega (arith, e))

pub last_tells : (text : List ℕ) → is_ended text ≡ nat_eq (get_or text (length text - 1) 10) 10
last_tells [] = refl
last_tells (c ∷ cs) = last_is (c ∷ cs) (length (c ∷ cs) - 1) (omega arith)

-- ---- Bytes

pub nul_append : (xs ys : List ℕ) → HasNoNul xs → HasNoNul ys → HasNoNul (xs ++ ys)
nul_append [] ys h k = k
nul_append (x ∷ xs) ys h k = (h.0, h.1, nul_append xs ys h.2 k)

nul_before : (xs ys : List ℕ) → HasNoNul (xs ++ ys) → HasNoNul xs
nul_before [] ys h = tt
nul_before (x ∷ xs) ys h = (h.0, h.1, nul_before xs ys h.2)

pub nul_after : (xs ys : List ℕ) → HasNoNul (xs ++ ys) → HasNoNul ys
nul_after [] ys h = h
nul_after (x ∷ xs) ys h = nul_after xs ys h.2

pub no_nul_bytes : (xs : List ℕ) → HasNoNul xs → AreBytes xs
no_nul_bytes [] h = tt
no_nul_bytes (x ∷ xs) h = (h.1, no_nul_bytes xs h.2)

-- A line of bytes without NUL, and without a newline, is a raw one; and a raw one has none.
raw_of : (line : List ℕ) → HasNoNul line → Lacks 10 line → IsRawLine line
raw_of [] h k = tt
raw_of (c ∷ cs) h k = (h.0, h.1, k.0, raw_of cs h.2 k.1)

no_nul_raw : (line : List ℕ) → IsRawLine line → HasNoNul line
no_nul_raw [] h = tt
no_nul_raw (c ∷ cs) h = (h.0, h.1, no_nul_raw cs h.3)

plain_raw : (line : List ℕ) → IsRawLine line → Lacks 10 line
plain_raw [] h = tt
plain_raw (c ∷ cs) h = (h.2, plain_raw cs h.3)

-- ---- Lines

pub newline_bytes : HasNoNul (10 ∷ [])
newline_bytes = (omega arith, omega arith, tt)

pub raw_lines_of : (ls : List (List ℕ)) → HasNoNul (unlines ls) → AllByRecursion (Lacks 10) ls → AllZip IsRaw ls ls
raw_lines_of [] h k = tt
raw_lines_of (l ∷ ls) h k = ((refl, raw_of l (nul_before l (10 ∷ unlines ls) h) k.0), raw_lines_of ls (nul_after l (10 ∷ unlines ls) h).2 k.1)

pub raw_same : (xs lines : List (List ℕ)) → AllZip IsRaw xs lines → xs ≡ lines
raw_same [] [] h = refl
raw_same [] (line ∷ lines) h = absurd h
raw_same (x ∷ xs) [] h = absurd h
raw_same (x ∷ xs) (line ∷ lines) h = let first : line ≡ x = h.0.0 in let rest = raw_same xs lines h.1 in cc

pub raw_lines_plain : (xs lines : List (List ℕ)) → AllZip IsRaw xs lines → AllByRecursion (Lacks 10) xs
raw_lines_plain [] lines h = tt
raw_lines_plain (x ∷ xs) [] h = absurd h
raw_lines_plain (x ∷ xs) (line ∷ lines) h = (plain_raw x h.0.1, raw_lines_plain xs lines h.1)

pub raw_lines_bytes : (xs lines : List (List ℕ)) → AllZip IsRaw xs lines → HasNoNul (unlines xs)
raw_lines_bytes [] lines h = tt
raw_lines_bytes (x ∷ xs) [] h = absurd h
raw_lines_bytes (x ∷ xs) (line ∷ lines) h = nul_append x (10 ∷ unlines xs) (no_nul_raw x h.0.1) (omega arith, omega arith, raw_lines_bytes xs lines h.1)

-- Lines can stand in a file exactly where their text has no NUL.
pub raw_has_lines : (ls : List (List ℕ)) → HasNoNul (unlines ls) → AllByRecursion (Lacks 10) ls → HasLines (AllZip IsRaw ls)
raw_has_lines ls h k = record { lines = ls; spelled = raw_lines_of ls h k }

pub lines_no_nul : (ls : List (List ℕ)) → HasLines (AllZip IsRaw ls) → HasNoNul (unlines ls)
lines_no_nul ls h = raw_lines_bytes ls h.lines h.spelled

-- ---- Searches

pub no_nul_lacking : (bytes : List ℕ) (n : ℕ) → ((i : ℕ) → get_or bytes i 0 < 256) → Lacks 0 (take n bytes) → HasNoNul (take n bytes)
no_nul_lacking [] zero small h = tt
no_nul_lacking [] (suc n) small h = tt
no_nul_lacking (c ∷ cs) zero small h = tt
no_nul_lacking (c ∷ cs) (suc n) small h = (omega (arith, h.0), small 0, no_nul_lacking cs n (λ i. small (suc i)) h.1)

pub no_nul_searched : (bytes : List ℕ) (n : ℕ) → ((i : ℕ) → get_or bytes i 0 < 256) → Nowhere (Passes (is_byte 0) bytes) 0 n → HasNoNul (take n bytes)
no_nul_searched bytes n small none = no_nul_lacking bytes n small (plain_searched 0 bytes n none)

-- A search for NUL tells whether there is one.
pub no_nul_all : (bytes : List ℕ) → ((i : ℕ) → get_or bytes i 0 < 256) → Nowhere (Passes (is_byte 0) bytes) 0 (length bytes) → HasNoNul bytes
no_nul_all bytes small none = subst HasNoNul (take-length bytes) (no_nul_searched bytes (length bytes) small none)

-- Behind a first line.
pub cut_lines : (text line behind : List ℕ) → text ≡ line ++ 10 ∷ behind → Lacks 10 line → lines_of text ≡ line ∷ lines_of behind
cut_lines text line behind e plain = ap (λ t. lines_of t) e ∙ line_before line behind plain

pub cut_whole : (text line behind : List ℕ) → text ≡ line ++ 10 ∷ behind → Lacks 10 line → AreWholeLines text → AreWholeLines behind
cut_whole text line behind e plain h = whole_behind line behind plain (subst AreWholeLines e h)

pub nul_there : (bytes : List ℕ) (k : ℕ) → k < length bytes → get_or bytes k 0 ≡ 0 → HasNoNul bytes → ⊥
nul_there [] k h e b = omega (arith, h)
nul_there (c ∷ cs) zero h e b = let some = b.0 in omega (arith, e, some)
nul_there (c ∷ cs) (suc k) h e b = nul_there cs k (omega (arith, h)) e b.2

-- A text is cut at a newline.
pub cut_at : (text back : List ℕ) (k : ℕ) → back ≡ drop k text → k < length text → get_or text k 0 ≡ 10 → text ≡ take k text ++ 10 ∷ take (length back - 1) (drop 1 back)
cut_at text back k e h is =
    let at : drop k text ≡ get_or text k 0 ∷ drop (suc k) text = drop-cons text k 0 h in
    let behind : back ≡ 10 ∷ drop (suc k) text = e ∙ at ∙ ap (λ b. b ∷ drop (suc k) text) is in
    let rest : take (length back - 1) (drop 1 back) ≡ drop (suc k) text = rw behind (take_all (length (10 ∷ drop (suc k) text) - 1) (drop (suc k) text) (omega arith)) in
    sym (take-append-drop k text) ∙ ap (λ b. take k text ++ b) (sym e ∙ behind ∙ ap (λ r. 10 ∷ r) (sym rest))

lines_few_onto : (c : ℕ) (ls : List (List ℕ)) → length (onto_first c ls) ≤ length ls + 1
lines_few_onto c [] = omega arith
lines_few_onto c (l ∷ ls) = omega arith

-- There are no more lines than bytes.
pub lines_few : (text : List ℕ) → length (lines_of text) ≤ length text
lines_few [] = omega arith
lines_few (c ∷ cs) = elim (eqb_tells c 10) [
  | inl is ↦ rw (lines_break c cs is.1) (let more = lines_few cs in omega (arith, more))
  | inr other ↦ rw (lines_more c cs other.1) (let more = lines_few cs in let onto = lines_few_onto c (lines_of cs) in omega (arith, more, onto))
]

-- The front of a path, as it is searched.
use Rattle.std.proofs.Common.{◌≡◌, ◌≢◌, ℕ, zero, suc, ◌+◌, ◌<◌, ◌≤◌, List, [], ◌∷◌, ◌++◌, take, drop, length, get_or, refl, sym, ap, ◌∙◌, append_assoc, arith}
use Rattle.std.proofs.lemmas.List.{get_or-take, length-take, take-append-drop, take_more}
use Rattle.cg_text.specs.Texts.{Lacks}
use Rattle.memchr.specs.Find.{Nowhere, Passes, is_byte}
use Rattle.cg_value.specs.Entry.{IsPathByte}
use Rattle.cg_snap.specs.PathBytes.{ArePathBytes}

path_at : (bytes : List ℕ) (k : ℕ) → ((i : ℕ) → i < k → i < length bytes → IsPathByte (get_or bytes i 0)) → ArePathBytes (take k bytes)
path_at bytes zero is = tt
path_at [] (suc k) is = tt
path_at (b ∷ bytes) (suc k) is = (is 0 (omega arith) (omega arith), path_at bytes k (λ i low high. is (suc i) (omega (arith, low)) (omega (arith, high))))

lacks_at : (b : ℕ) (xs : List ℕ) (i : ℕ) → Lacks b xs → i < length xs → get_or xs i 0 ≢ b
lacks_at b [] i h lt = absurd (omega (arith, lt))
lacks_at b (x ∷ xs) zero h lt = h.0
lacks_at b (x ∷ xs) (suc i) h lt = lacks_at b xs i h.1 (omega (arith, lt))

lacks_to : (b : ℕ) (xs : List ℕ) (n : ℕ) → ((i : ℕ) → i < n → i < length xs → get_or xs i 0 ≢ b) → Lacks b (take n xs)
lacks_to b xs zero is = tt
lacks_to b [] (suc n) is = tt
lacks_to b (x ∷ xs) (suc n) is = (is 0 (omega arith) (omega arith), lacks_to b xs n (λ i low high. is (suc i) (omega (arith, low)) (omega (arith, high))))

-- Bytes before the first newline.
pub line_searched : (bytes : List ℕ) (n : ℕ) → Nowhere (Passes (is_byte 10) bytes) 0 n → Lacks 10 (take n bytes)
line_searched bytes n none = lacks_to 10 bytes n (λ i low high e. none i (omega arith) low (rw e refl))

-- Bytes before the first NUL, and of these before the first newline.
pub path_searched : (bytes front : List ℕ) (nul n : ℕ) → ((i : ℕ) → get_or bytes i 0 < 256) → Nowhere (Passes (is_byte 0) bytes) 0 nul → front ≡ take nul bytes →
    Lacks 10 (take n front) → n ≤ nul → n ≤ length front → ArePathBytes (take n bytes)
path_searched bytes front nul n small no_nul cut no_newline less within = path_at bytes n (λ i low high. (
    let inside : i < nul = omega (arith, low, less) in
    let near : get_or front i 0 ≡ get_or bytes i 0 = ap (λ (t : List ℕ). get_or t i 0) cut ∙ get_or-take nul bytes i 0 inside in
    let other : get_or bytes i 0 ≢ 0 = λ e. no_nul i (omega arith) inside (rw e refl) in
    let taken : get_or (take n front) i 0 ≢ 10 = lacks_at 10 (take n front) i no_newline (omega (arith, low, within, length-take n front)) in
    let plain : get_or bytes i 0 ≢ 10 = λ e. taken (get_or-take n front i 0 low ∙ (near ∙ e)) in
    (omega (arith, other), small i, plain)))

-- A text cut at a NUL.
pub cut_at : (text : List ℕ) (nul : ℕ) → nul < length text → get_or text nul 0 ≡ 0 → text ≡ take nul text ++ 0 ∷ drop (nul + 1) text
cut_at text nul within zero_there =
    let front : take (nul + 1) text ≡ take nul text ++ 0 ∷ [] = take_more text nul 0 within ∙ ap (λ (b : ℕ). take nul text ++ b ∷ []) zero_there in
    sym (take-append-drop (nul + 1) text) ∙ (ap (λ (t : List ℕ). t ++ drop (nul + 1) text) front ∙ append_assoc (take nul text) (0 ∷ []) (drop (nul + 1) text))

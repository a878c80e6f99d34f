-- Sets of bytes, told byte by byte.
use Rattle.std.proofs.Common.{◌≡◌, ◌≢◌, ℕ, zero, suc, ◌+◌, ◌-◌, ◌<◌, ◌≤◌, ◌↔◌, Bool, true, false, nat_eq, nat_le, if◌then◌else◌, List, [], ◌∷◌, ◌++◌, length, drop, get_or, Some, None, refl, sym, ap, ◌∙◌, append_assoc, append-nil, add-one, arith, length-append, length-drop, IsTrue}
use Rattle.std.specs.Bool.{beq}
use Rattle.std.proofs.Common.{codes, cond, drop-cons, subst, true≢false}
use Rattle.std.proofs.lemmas.Bool.{eqb-true, eqb-false, eq-eqb, le-leb, lt-leb, ne_eqb}
use Rattle.std.proofs.lemmas.List.{nil_from_length}
use Rattle.cg_outcome.specs.ByteNames.{bytes_below, bytes_of, is_listed, is_next, item, items, joint, listed, listed_behind, run_of, set_words}

-- ---- The bytes of a set

pub bytes_next : (set : List Bool) (within : Bool) (n : ℕ) → bytes_below set within (n + 1) ≡ bytes_below set within n ++ (if is_listed within (get_or set n false) then n ∷ [] else [])
unfolding bytes_below
bytes_next set within n = rw (add-one n) refl

at_most_one : (b : Bool) (n : ℕ) → length (if b then n ∷ [] else []) ≤ 1
at_most_one true n = omega arith
at_most_one false n = omega arith

pub bytes_few : (set : List Bool) (within : Bool) (n : ℕ) → length (bytes_below set within n) ≤ n
unfolding bytes_below
bytes_few set within zero = omega arith
bytes_few set within (suc n) =
    let more = if is_listed within (get_or set n false) then n ∷ [] else [] in
    let short : length more ≤ 1 = at_most_one (is_listed within (get_or set n false)) n in
    omega (arith, length-append (bytes_below set within n) more, short, bytes_few set within n)

same_bool : (a b : Bool) → (IsTrue a ↔ IsTrue b) → a ≡ b
same_bool true true h = refl
same_bool false false h = refl
same_bool true false h = absurd (true≢false (sym (h.0 refl)))
same_bool false true h = absurd (true≢false (sym (h.1 refl)))

listed_is : (has within : Bool) → beq has within ≡ is_listed within has
listed_is true true = refl
listed_is true false = refl
listed_is false true = refl
listed_is false false = refl

module _ (set : List Bool) (within has : Bool) (n : ℕ) (list new : List ℕ) (h : IsTrue has ↔ IsTrue (get_or set n false)) (e : list ≡ bytes_below set within n) where
  is_here : is_listed within (get_or set n false) ≡ beq has within
  is_here = ap (is_listed within) (sym (same_bool has (get_or set n false) h)) ∙ sym (listed_is has within)

  -- The byte is listed.
  pub byte_listed : beq has within ≡ true → new ≡ list ++ n ∷ [] → new ≡ bytes_below set within (n + 1)
  byte_listed t more = more ∙ ap (λ (l : List ℕ). l ++ n ∷ []) e ∙ sym (bytes_next set within n ∙ ap (λ (b : Bool). bytes_below set within n ++ (if b then n ∷ [] else [])) (is_here ∙ t))

  -- It isn't.
  pub byte_left : beq has within ≡ false → new ≡ list → new ≡ bytes_below set within (n + 1)
  byte_left t same = same ∙ e ∙ sym (bytes_next set within n ∙ ap (λ (b : Bool). bytes_below set within n ++ (if b then n ∷ [] else [])) (is_here ∙ t) ∙ append-nil (bytes_below set within n))

-- ---- Its items

items_passed : (n : ℕ) (bs : List ℕ) → items n bs ≡ items 0 (drop n bs)
items_passed zero bs = refl
items_passed (suc n) [] = refl
items_passed (suc n) (b ∷ bs) = items_passed n bs

-- ---- Runs

run_two : (b c : ℕ) (bs : List ℕ) → is_next b c ≡ true → run_of (b ∷ c ∷ bs) ≡ run_of (c ∷ bs) + 1
run_two b c bs e = rw e (sym (add-one (run_of (c ∷ bs))))

run_one : (b c : ℕ) (bs : List ℕ) → is_next b c ≡ false → run_of (b ∷ c ∷ bs) ≡ 1
run_one b c bs e = rw e refl

two_of : (bs : List ℕ) (m : ℕ) → m + 1 < length bs → drop m bs ≡ get_or bs m 0 ∷ get_or bs (m + 1) 0 ∷ drop (suc (m + 1)) bs
two_of bs m h =
    let here : m < length bs = omega (arith, h) in
    drop-cons bs m 0 here ∙ ap (λ (t : List ℕ). get_or bs m 0 ∷ t) (ap (λ (k : ℕ). drop k bs) (sym (add-one m)) ∙ drop-cons bs (m + 1) 0 h)

one_of : (bs : List ℕ) (m : ℕ) → m + 1 ≡ length bs → drop m bs ≡ get_or bs m 0 ∷ []
one_of bs m h =
    let here : m < length bs = omega (arith, h) in
    let none : drop (suc m) bs ≡ [] = nil_from_length (drop (suc m) bs) (omega (arith, length-drop (suc m) bs, h)) in
    drop-cons bs m 0 here ∙ ap (λ (t : List ℕ). get_or bs m 0 ∷ t) none

goes_at : (bs : List ℕ) (m : ℕ) → m + 1 < length bs → is_next (get_or bs m 0) (get_or bs (m + 1) 0) ≡ true → run_of (drop m bs) ≡ run_of (drop (m + 1) bs) + 1
goes_at bs m within e = rw (two_of bs m within, drop-cons bs (m + 1) 0 within) (run_two (get_or bs m 0) (get_or bs (m + 1) 0) (drop (suc (m + 1)) bs) e)

ends_at : (bs : List ℕ) (m : ℕ) → m + 1 < length bs → is_next (get_or bs m 0) (get_or bs (m + 1) 0) ≡ false → run_of (drop m bs) ≡ 1
ends_at bs m within e = rw (two_of bs m within) (run_one (get_or bs m 0) (get_or bs (m + 1) 0) (drop (suc (m + 1)) bs) e)

-- The next byte is of the run.
pub run_goes : (bs : List ℕ) (n : ℕ) → 0 < n → n < length bs → is_next (get_or bs (n - 1) 0) (get_or bs n 0) ≡ true → run_of (drop (n - 1) bs) ≡ run_of (drop n bs) + 1
run_goes bs n some within e =
    let back : n - 1 + 1 ≡ n = omega (arith, some) in
    subst (λ (k : ℕ). k < length bs → is_next (get_or bs (n - 1) 0) (get_or bs k 0) ≡ true → run_of (drop (n - 1) bs) ≡ run_of (drop k bs) + 1) back (goes_at bs (n - 1)) within e

-- It isn't, or there is none.
pub run_ends : (bs : List ℕ) (n : ℕ) → 0 < n → n < length bs → is_next (get_or bs (n - 1) 0) (get_or bs n 0) ≡ false → run_of (drop (n - 1) bs) ≡ 1
run_ends bs n some within e =
    let back : n - 1 + 1 ≡ n = omega (arith, some) in
    subst (λ (k : ℕ). k < length bs → is_next (get_or bs (n - 1) 0) (get_or bs k 0) ≡ false → run_of (drop (n - 1) bs) ≡ 1) back (ends_at bs (n - 1)) within e

pub run_at_end : (bs : List ℕ) (n : ℕ) → 0 < n → n ≡ length bs → run_of (drop (n - 1) bs) ≡ 1
run_at_end bs n some e = rw (one_of bs (n - 1) (omega (arith, some, e))) refl

-- A run in front, of three bytes or more.
pub run_front : (bs : List ℕ) (n : ℕ) → run_of bs ≡ n → 3 ≤ n → items 0 bs ≡ item (get_or bs 0 0) (Some (get_or bs (n - 1) 0)) ∷ items 0 (drop n bs)
run_front [] n e h = absurd (omega (arith, e, h))
run_front (b ∷ bs) n e h =
    let big : nat_le 3 n ≡ true = le-leb 3 n h in
    let back : n ≡ suc (n - 1) = omega (arith, h) in
    let rest : items (n - 1) bs ≡ items 0 (drop n (b ∷ bs)) = items_passed (n - 1) bs ∙ ap (λ (k : ℕ). items 0 (drop k (b ∷ bs))) (sym back) in
    rw (e, big) (ap (λ (xs : List (List ℕ)). item b (Some (get_or (b ∷ bs) (n - 1) 0)) ∷ xs) rest)

-- A byte alone.
pub byte_front : (bs : List ℕ) (n : ℕ) → run_of bs ≡ n → n < 3 → 0 < length bs → items 0 bs ≡ item (get_or bs 0 0) None ∷ items 0 (drop 1 bs)
byte_front [] n e h some = absurd (omega (arith, some))
byte_front (b ∷ bs) n e h some =
    let small : nat_le 3 n ≡ false = lt-leb 3 n h in
    rw (e, small) refl

-- What is told of the items behind so many bytes.
abbrev pub told_behind : (before : ℕ) → List (List ℕ) → List ℕ
told_behind zero xs = listed xs
told_behind (suc before) xs = listed_behind xs

pub told_none : (before : ℕ) → told_behind before [] ≡ []
told_none zero = refl
told_none (suc before) = refl

some_behind : (t : Bool) (x a b : List ℕ) (us vs : List (List ℕ)) → listed_behind (x ∷ cond t (a ∷ us) (b ∷ vs)) ≡ codes ", " ++ (x ++ listed_behind (cond t (a ∷ us) (b ∷ vs)))
some_behind true x a b us vs = refl
some_behind false x a b us vs = refl

behind_told : (before : ℕ) (x : List ℕ) (bs : List ℕ) → listed_behind (x ∷ items 0 bs) ≡ joint (suc before) (nat_eq (length bs) 0) ++ (x ++ listed_behind (items 0 bs))
behind_told before x [] = rw (append-nil x) refl
behind_told before x (b ∷ bs) =
    let other : nat_eq (length (b ∷ bs)) 0 ≡ false = ne_eqb _ _ (omega arith) in
    rw other (some_behind _ x _ _ _ _)

at_end : (bs : List ℕ) (n : ℕ) → n ≤ length bs → nat_eq (length (drop n bs)) 0 ≡ nat_eq n (length bs)
at_end bs n within = go (nat_eq n (length bs)) refl where
  go : (t : Bool) → nat_eq n (length bs) ≡ t → nat_eq (length (drop n bs)) 0 ≡ t
  go true e = eq-eqb _ _ (omega (arith, eqb-true n (length bs) e, length-drop n bs))
  go false e =
      let other : n ≢ length bs = eqb-false n (length bs) e in
      ne_eqb _ _ (omega (arith, other, within, length-drop n bs))

-- One item more.
pub item_told : (before end : ℕ) (x : List ℕ) (bytes : List ℕ) → before < end → end ≤ length bytes →
    told_behind before (x ∷ items 0 (drop end bytes)) ≡ joint before (nat_eq end (length bytes)) ++ (x ++ told_behind end (items 0 (drop end bytes)))
item_told zero zero x bytes less within = absurd (omega (arith, less))
item_told zero (suc end) x bytes less within = refl
item_told (suc before) zero x bytes less within = absurd (omega (arith, less))
item_told (suc before) (suc end) x bytes less within = rw (← at_end bytes (suc end) within) (behind_told before x (drop (suc end) bytes))

-- The text with one item more is a first part of all.
pub told_more : (so all line x : List ℕ) (before end : ℕ) (bytes rest : List ℕ) → rest ≡ drop before bytes → before < end → end ≤ length bytes →
    so ++ told_behind before (items 0 (drop before bytes)) ≡ all → items 0 rest ≡ x ∷ items 0 (drop end bytes) → line ≡ joint before (nat_eq end (length bytes)) ++ x →
    (so ++ line) ++ told_behind end (items 0 (drop end bytes)) ≡ all
told_more so all line x before end bytes rest r less within h e l =
    let j = joint before (nat_eq end (length bytes)) in
    let more = told_behind end (items 0 (drop end bytes)) in
    append_assoc so line more ∙ ap (λ (t : List ℕ). so ++ t) (ap (λ (t : List ℕ). t ++ more) l ∙ append_assoc j x more ∙ sym (item_told before end x bytes less within)
    ∙ ap (λ (xs : List (List ℕ)). told_behind before xs) (sym e ∙ ap (λ (t : List ℕ). items 0 t) r)) ∙ h

-- The text before it, and all of it.
pub told_text : (text so line more all : List ℕ) → (so ++ line) ++ more ≡ all → ((text ++ so) ++ line) ++ more ≡ text ++ all
told_text text so line more all e = ap (λ (t : List ℕ). t ++ more) (append_assoc text so line) ∙ append_assoc text (so ++ line) more ∙ ap (λ (t : List ℕ). text ++ t) e

-- Nothing is left.
pub told_all : (so all : List ℕ) (at : ℕ) (bytes : List ℕ) → length bytes ≤ at → so ++ told_behind at (items 0 (drop at bytes)) ≡ all → so ≡ all
told_all so all at bytes past e =
    let none : drop at bytes ≡ [] = nil_from_length (drop at bytes) (omega (arith, length-drop at bytes, past)) in
    sym (append-nil so) ∙ ap (λ (t : List ℕ). so ++ t) (sym (ap (λ (t : List ℕ). told_behind at (items 0 t)) none ∙ told_none at)) ∙ e

-- ---- The words of a set

module _ (set : List Bool) (within : List ℕ) (e : within ≡ bytes_of set true) where
  pub set_none : nat_eq (length within) 0 ≡ true → set_words set ≡ codes "nothing"
  set_none n = let k : nat_eq (length (bytes_of set true)) 0 ≡ true = ap (λ (l : List ℕ). nat_eq (length l) 0) (sym e) ∙ n in rw k refl

  module _ (n : nat_eq (length within) 0 ≡ false) where
    some_in : nat_eq (length (bytes_of set true)) 0 ≡ false
    some_in = ap (λ (l : List ℕ). nat_eq (length l) 0) (sym e) ∙ n

    pub set_few : length within ≤ 128 → set_words set ≡ listed (items 0 within)
    set_few few =
        let k : nat_le (length (bytes_of set true)) 128 ≡ true = ap (λ (l : List ℕ). nat_le (length l) 128) (sym e) ∙ le-leb _ _ few in
        rw (some_in, k) (ap (λ (l : List ℕ). listed (items 0 l)) (sym e))

    module _ (many : 128 < length within) (others : List ℕ) (o : others ≡ bytes_of set false) where
      many_in : nat_le (length (bytes_of set true)) 128 ≡ false
      many_in = ap (λ (l : List ℕ). nat_le (length l) 128) (sym e) ∙ lt-leb _ _ many

      pub set_any : nat_eq (length others) 0 ≡ true → set_words set ≡ codes "any byte"
      set_any z = let k : nat_eq (length (bytes_of set false)) 0 ≡ true = ap (λ (l : List ℕ). nat_eq (length l) 0) (sym o) ∙ z in rw (some_in, many_in, k) refl

      pub set_others : nat_eq (length others) 0 ≡ false → set_words set ≡ codes "any byte but " ++ listed (items 0 others)
      set_others z =
          let k : nat_eq (length (bytes_of set false)) 0 ≡ false = ap (λ (l : List ℕ). nat_eq (length l) 0) (sym o) ∙ z in
          rw (some_in, many_in, k) (ap (λ (l : List ℕ). codes "any byte but " ++ listed (items 0 l)) (sym o))

-- What holds of words.
use Rattle.std.proofs.lemmas.List.{take_more, append-nil}
use Rattle.std.proofs.Common.{zero, suc, take, get_or, ◌≡◌, ℕ, ◌+◌, ◌<◌, ◌↔◌, Bool, true, false, cond, List, [], ◌∷◌, ◌++◌, length, refl, sym, ◌∙◌, ap, arith, append_assoc, length-append, IsTrue}
use Rattle.std.proofs.Common.{nat_lt, nat_eq, ltb-true, lt-ltb, eqb-true, eq-eqb}
use Rattle.std.specs.Coded.{×_prop, Unit-prop}
use Rattle.std.proofs.Props.{props}
use Rattle.cg_text.specs.Token.{AreBytes}
use Rattle.std.proofs.lemmas.Bool.{and_from, and_parts}
use Rattle.std.proofs.lemmas.Cmp.{nat_list_eq_equiv}
use Rattle.std.specs.Cmp.Lexicographic.{pointwise}
use Rattle.cg_text.specs.Word.{AreWordBytes, IsWordByte, IsNoSign, IsWord, IsWordText}
use Rattle.cg_text.specs.WordState.{IsWordFront, Lengthens, IsWordRest, is_taken}

IsWordByte_prop : (c : ℕ) → IsProp (IsWordByte c)
IsWordByte_prop c = hlevel props

pub AreWordBytes_prop : (xs : List ℕ) → IsProp (AreWordBytes xs)
AreWordBytes_prop [] = Unit-prop
AreWordBytes_prop (c ∷ cs) = ×_prop (IsWordByte_prop c) (AreWordBytes_prop cs)

pub AreWordBytes_push : (xs : List ℕ) (c : ℕ) → AreWordBytes xs → IsWordByte c → AreWordBytes (xs ++ c ∷ [])
AreWordBytes_push [] c h k = (k, tt)
AreWordBytes_push (x ∷ xs) c h k = (h.0, AreWordBytes_push xs c h.1 k)

pub true_not_false : true ≡ false → ⊥
true_not_false e = cc

pub words_bytes : (xs : List ℕ) → AreWordBytes xs → AreBytes xs
words_bytes [] h = tt
words_bytes (c ∷ cs) h = (omega (arith, h.0.1), words_bytes cs h.1)

-- Each byte of words is one of a word.
pub word_byte_at : (xs : List ℕ) (k : ℕ) → k < length xs → AreWordBytes xs → IsWordByte (get_or xs k 0)
word_byte_at [] k h w = absurd (omega arith)
word_byte_at (x ∷ xs) zero h w = w.0
word_byte_at (x ∷ xs) (suc k) h w = word_byte_at xs k (omega arith) w.1

-- One more byte of a word.
pub word_bytes_more : (xs : List ℕ) (k : ℕ) → k < length xs → AreWordBytes (take k xs) → IsWordByte (get_or xs k 0) → AreWordBytes (take (k + 1) xs)
word_bytes_more xs k h w b = rw (take_more xs k 0 h) (AreWordBytes_push (take k xs) (get_or xs k 0) w b)

AreWordBytes_append : (xs ys : List ℕ) → AreWordBytes xs → AreWordBytes ys → AreWordBytes (xs ++ ys)
AreWordBytes_append [] ys h k = k
AreWordBytes_append (x ∷ xs) ys h k = (h.0, AreWordBytes_append xs ys h.1 k)

AreWordBytes_after : (xs ys : List ℕ) → AreWordBytes (xs ++ ys) → AreWordBytes ys
AreWordBytes_after [] ys h = h
AreWordBytes_after (x ∷ xs) ys h = AreWordBytes_after xs ys h.1

-- A controller's word is a word.
pub text_word : (controller : Bool) (text : List ℕ) → IsWordText controller text → IsWord text
text_word false text h = h
text_word true [] h = absurd h
text_word true (c ∷ cs) h = h.1

no_sign : (c : ℕ) (cs : List ℕ) (controller : Bool) → IsTrue controller → IsWordText controller (c ∷ cs) → IsNoSign c
no_sign c cs false e h = absurd (cc)
no_sign c cs true e h = h.0

IsNoSign_prop : (c : ℕ) → IsProp (IsNoSign c)
IsNoSign_prop c = hlevel props

IsWord_prop : (xs : List ℕ) → IsProp (IsWord xs)
IsWord_prop xs = ×_prop (hlevel props) (AreWordBytes_prop xs)

pub IsWordFront_prop : (controller : Bool) (xs : List ℕ) → IsProp (IsWordFront controller xs)
IsWordFront_prop controller [] = Unit-prop
IsWordFront_prop false (c ∷ cs) = IsWord_prop (c ∷ cs)
IsWordFront_prop true (c ∷ cs) = ×_prop (IsNoSign_prop c) (IsWord_prop (c ∷ cs))

pub front_text : (controller : Bool) (xs : List ℕ) → 0 < length xs → IsWordFront controller xs → IsWordText controller xs
front_text controller [] some h = absurd (omega arith)
front_text controller (c ∷ cs) some h = h

text_front : (controller : Bool) (xs : List ℕ) → IsWordText controller xs → IsWordFront controller xs
text_front controller [] h = tt
text_front controller (c ∷ cs) h = h

text_append : (controller : Bool) (xs ys : List ℕ) → IsWordText controller xs → AreWordBytes ys → IsWordText controller (xs ++ ys)
text_append false xs ys h k = (omega (arith, h.0, length-append xs ys), AreWordBytes_append xs ys h.1 k)
text_append true [] ys h k = absurd h
text_append true (c ∷ cs) ys h k = (h.0, (omega arith, AreWordBytes_append (c ∷ cs) ys h.1.1 k))

-- A byte that may follow makes a word.
pub text_push : (controller : Bool) (taken : List ℕ) (c : ℕ) → IsWordFront controller taken → Lengthens controller taken c → IsWordText controller (taken ++ c ∷ [])
text_push false [] c f l = (omega arith, (l.0, tt))
text_push true [] c f l = (l.1 refl refl, (omega arith, (l.0, tt)))
text_push controller (x ∷ xs) c f l = text_append controller (x ∷ xs) (c ∷ []) f (l.0, tt)

-- What a push that may fail leaves.
pub front_pushed : (controller b : Bool) (xs ys : List ℕ) (c : ℕ) → ys ≡ cond b (xs ++ c ∷ []) xs → IsWordFront controller xs → Lengthens controller xs c → IsWordFront controller ys
front_pushed controller true xs ys c e h l = rw e (text_front controller (xs ++ c ∷ []) (text_push controller xs c h l))
front_pushed controller false xs ys c e h l = rw e h

lengthens_at : (controller : Bool) (taken : List ℕ) (c : ℕ) (rest : List ℕ) → IsWordText controller (taken ++ c ∷ rest) → Lengthens controller taken c
lengthens_at controller [] c rest h = ((text_word controller (c ∷ rest) h).1.0, λ e _. no_sign c rest controller e h)
lengthens_at controller (x ∷ xs) c rest h = ((AreWordBytes_after (x ∷ xs) (c ∷ rest) (text_word controller (x ∷ (xs ++ c ∷ rest)) h).1).0, λ _ e. absurd (omega (arith, e)))

-- The test of a byte, for bytes of which the number is known.
pub lengthens_is : (controller first : Bool) (taken : List ℕ) (n c : ℕ) → n ≡ length taken → first ≡ nat_eq n 0 →
    (IsWordByte c × (IsTrue controller → IsTrue first → IsNoSign c)) ↔ Lengthens controller taken c
lengthens_is controller first taken n c e f = (
  λ h. (h.0, λ t empty. h.1 t (f ∙ eq-eqb n 0 (e ∙ empty))),
  λ h. (h.0, λ t g. h.1 t (sym e ∙ eqb-true n 0 (sym f ∙ g))),
)

-- A byte begins a rest exactly where it may follow.
pub word_lengthens : (controller : Bool) (taken : List ℕ) (c : ℕ) (rest word : List ℕ) → IsWordRest controller taken (c ∷ rest) word → Lengthens controller taken c
word_lengthens controller taken c rest word h = lengthens_at controller taken c rest (rw h.whole at h.is_word)

pub word_begins : (controller : Bool) (taken : List ℕ) (c : ℕ) → IsWordFront controller taken → Lengthens controller taken c → (rest : List ℕ) × (word : List ℕ) × IsWordRest controller taken (c ∷ rest) word
word_begins controller taken c f l = ([], taken ++ c ∷ [], record { whole = refl; is_word = text_push controller taken c f l })

letter : IsWordByte 97
letter = (omega arith, omega arith, λ e. absurd (omega (arith, e)))

pub word_completes : (controller : Bool) (taken : List ℕ) → IsWordFront controller taken → (rest : List ℕ) × (word : List ℕ) × IsWordRest controller taken rest word
word_completes controller taken f =
    let b = word_begins controller taken 97 f (letter, λ _ _. ((λ e. absurd (omega (arith, e))), λ e. absurd (omega (arith, e)))) in
    (97 ∷ b.0, b.1, b.2)

pub word_one : (controller : Bool) (taken rest v w : List ℕ) → IsWordRest controller taken rest v → IsWordRest controller taken rest w → v ≡ w
word_one controller taken rest v w h k = h.whole ∙ sym k.whole

-- Nothing need follow exactly where there is a byte.
pub word_ends_is : (controller : Bool) (taken : List ℕ) → IsWordFront controller taken → IsTrue (nat_lt 0 (length taken)) ↔ ((word : List ℕ) × IsWordRest controller taken [] word)
word_ends_is controller taken f = (
  λ e. (taken, record { whole = sym (append-nil taken); is_word = front_text controller taken (ltb-true 0 (length taken) e) f }),
  λ h. (let w = text_word controller h.0 h.1.is_word in lt-ltb 0 (length taken) (omega (arith, ap length h.1.whole, length-append taken [], w.0))),
)

-- A rest holds bytes.
pub word_bytes : (controller : Bool) (taken rest word : List ℕ) → IsWordRest controller taken rest word → AreBytes rest
word_bytes controller taken rest word h =
    let w = text_word controller word h.is_word in
    words_bytes rest (AreWordBytes_after taken rest (rw h.whole at w.1))

letters_of : ℕ → List ℕ
letters_of zero = []
letters_of (suc n) = 97 ∷ letters_of n

letters : (n : ℕ) → AreWordBytes (letters_of n)
unfolding letters_of
letters zero = tt
letters (suc n) = (letter, letters n)

length_letters : (n : ℕ) → length (letters_of n) ≡ n
unfolding letters_of
length_letters zero = refl
length_letters (suc n) = omega (arith, length_letters n)

-- What begins a rest can be completed to a word that is longer than n.
pub word_longer : (controller : Bool) (taken front : List ℕ) → ((rest : List ℕ) × (word : List ℕ) × IsWordRest controller taken (front ++ rest) word) →
    (n : ℕ) → (rest : List ℕ) × (word : List ℕ) × IsWordRest controller taken (front ++ rest) word × (n < length word)
word_longer controller taken front (rest, word, h) n =
    let more : List ℕ = letters_of (suc n) in
    let whole : word ++ more ≡ taken ++ (front ++ (rest ++ more)) = rw h.whole (append_assoc taken (front ++ rest) more ∙ ap (λ x. taken ++ x) (append_assoc front rest more)) in
    (rest ++ more, word ++ more, record { whole = whole; is_word = text_append controller word more h.is_word (letters (suc n)) }, omega (arith, length-append word more, length_letters (suc n)))

-- The sum of the lengths of words: a word that is longer is none of them.
abbrev pub total_length : List (List ℕ) → ℕ
total_length [] = 0
total_length (word ∷ words) = length word + total_length words

-- A word that is longer than n.
pub word_above : (controller : Bool) (n : ℕ) → (text : List ℕ) × IsWordText controller text × (n < length text)
word_above controller n =
    let w = word_longer controller [] [] (word_completes controller [] tt) n in
    (w.1, w.2.is_word, w.3)

same_words : (xs ys : List ℕ) → pointwise nat_eq xs ys ≡ true → xs ≡ ys
same_words [] [] e = refl
same_words [] (y ∷ ys) e = absurd (cc)
same_words (x ∷ xs) [] e = absurd (cc)
same_words (x ∷ xs) (y ∷ ys) e =
    let both = and_parts (nat_eq x y) (pointwise nat_eq xs ys) e in
    let head : x ≡ y = eqb-true x y both.0 in
    let tail : xs ≡ ys = same_words xs ys both.1 in
    cc

-- A word was taken exactly where it is a value of the empty rest.
pub is_taken_is : (controller : Bool) (taken word : List ℕ) → IsWordFront controller taken → IsTrue (is_taken taken word) ↔ IsWordRest controller taken [] word
is_taken_is controller taken word f = (
  λ e. (let both = and_parts (nat_lt 0 (length taken)) (pointwise nat_eq taken word) e in
      let same : word ≡ taken = sym (same_words taken word both.1) in
      record { whole = same ∙ sym (append-nil taken); is_word = rw same (front_text controller taken (ltb-true 0 (length taken) both.0) f) }),
  λ h. (let some : nat_lt 0 (length taken) ≡ true = (word_ends_is controller taken f).1 (word, h) in
      let same : word ≡ taken = h.whole ∙ append-nil taken in
      and_from (nat_lt 0 (length taken)) (pointwise nat_eq taken word) some (rw same (nat_list_eq_equiv.refl taken))),
)

-- A run of word bytes after the bytes taken, or in front of a word that is no controller's.
pub front_run : (controller : Bool) (taken run : List ℕ) → IsWordFront controller taken → AreWordBytes run → (IsTrue controller → 0 < length taken) → IsWordFront controller (taken ++ run)
front_run controller (x ∷ xs) run f w c = text_append controller (x ∷ xs) run f w
front_run false [] [] f w c = tt
front_run false [] (y ∷ ys) f w c = (omega arith, w)
front_run true [] run f w c = absurd (omega (arith, c refl))

-- What is left of a word after a run of its bytes.
pub word_run : (controller : Bool) (taken run rest word : List ℕ) → IsWordRest controller (taken ++ run) rest word ↔ IsWordRest controller taken (run ++ rest) word
word_run controller taken run rest word = (
  λ h. record { whole = h.whole ∙ append_assoc taken run rest; is_word = h.is_word },
  λ h. record { whole = h.whole ∙ sym (append_assoc taken run rest); is_word = h.is_word },
)

-- Some bytes were taken, by the count of them.
pub some_held : (taken : List ℕ) (n : ℕ) (empty : Bool) → n ≡ length taken → empty ≡ nat_eq n 0 → empty ≡ false → 0 < length taken
some_held [] n empty e f g = absurd (let t : empty ≡ true = f ∙ eq-eqb n 0 e in cc)
some_held (x ∷ xs) n empty e f g = omega arith

-- A byte that lengthens what was taken, and bytes of words after it.
front_first : (controller : Bool) (taken : List ℕ) (c : ℕ) (run : List ℕ) → IsWordFront controller taken → Lengthens controller taken c → AreWordBytes run → IsWordFront controller (taken ++ c ∷ run)
front_first controller taken c run h l w =
    let one : IsWordFront controller (taken ++ c ∷ []) = front_pushed controller true taken (taken ++ c ∷ []) c refl h l in
    let some : 0 < length (taken ++ c ∷ []) = omega (arith, length-append taken (c ∷ [])) in
    rw (← append_assoc taken (c ∷ []) run) (front_run controller (taken ++ c ∷ []) run one w (λ _. some))

-- The same of bytes in front of others, if there was room for them.
pub front_taken : (controller b : Bool) (taken bytes other new : List ℕ) (n : ℕ) → new ≡ cond b (taken ++ other) taken → other ≡ take n bytes → IsWordFront controller taken → Lengthens controller taken (get_or bytes 0 0) →
    AreWordBytes (take n bytes) → IsWordFront controller new
front_taken controller false taken bytes other new n e f h l w = rw e h
front_taken controller true taken [] other new zero e f h l w = rw (e, f, append-nil taken) h
front_taken controller true taken [] other new (suc n) e f h l w = rw (e, f, append-nil taken) h
front_taken controller true taken (c ∷ cs) other new zero e f h l w = rw (e, f, append-nil taken) h
front_taken controller true taken (c ∷ cs) other new (suc n) e f h l w = rw (e, f) (front_first controller taken c (take n cs) h l w.1)

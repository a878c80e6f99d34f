-- What holds of raw lines and of reasons.
use Rattle.std.proofs.Common.{◌≡◌, ℕ, ◌+◌, ◌-◌, ◌↔◌, Bool, true, false, cond, List, [], ◌∷◌, ◌++◌, length, take, get_or, IsTrue, nat_lt, nat_eq, arith, refl, sym, ◌∙◌, ap, append_assoc, length-append, ltb-true, lt-ltb, eqb-true, eq-eqb}
use Rattle.std.proofs.lemmas.Bool.{and_from, and_parts}
use Rattle.std.proofs.lemmas.List.{append-nil, take_more}
use Rattle.std.proofs.lemmas.Grind.{common_steps}
use Rattle.std.specs.Coded.{Unit-prop}
use Rattle.std.proofs.Props.{props}
use Rattle.cg_text.specs.Raw.{IsRawLine, IsReason}
use Rattle.cg_text.specs.ListFacts.{push_one}
use Rattle.cg_text.specs.RawState.{IsRawByte, IsRawRest, is_closed}
use Rattle.cg_text.specs.Token.{AreBytes}

pub IsRawLine_prop : (xs : List ℕ) → IsProp (IsRawLine xs)
IsRawLine_prop [] = Unit-prop
IsRawLine_prop (c ∷ cs) = let more : IsProp (IsRawLine cs) = IsRawLine_prop cs in hlevel (props, more)

pub raw_append : (xs ys : List ℕ) → IsRawLine xs → IsRawLine ys → IsRawLine (xs ++ ys)
raw_append [] ys h k = k
raw_append (x ∷ xs) ys h k = (h.0, h.1, h.2, raw_append xs ys h.3 k)

raw_before : (xs ys : List ℕ) → IsRawLine (xs ++ ys) → IsRawLine xs
raw_before [] ys h = tt
raw_before (x ∷ xs) ys h = (h.0, h.1, h.2, raw_before xs ys h.3)

raw_after : (xs ys : List ℕ) → IsRawLine (xs ++ ys) → IsRawLine ys
raw_after [] ys h = h
raw_after (x ∷ xs) ys h = raw_after xs ys h.3

pub raw_bytes : (xs : List ℕ) → IsRawLine xs → AreBytes xs
raw_bytes [] h = tt
raw_bytes (c ∷ cs) h = (h.1, raw_bytes cs h.3)

-- ---- Raw lines

pub raw_completes : (taken : List ℕ) → (rest : List ℕ) × (line : List ℕ) × IsRawRest taken rest line
raw_completes taken = ([], taken ++ [], record { whole = refl; raw = tt })

pub raw_one : (taken rest v w : List ℕ) → IsRawRest taken rest v → IsRawRest taken rest w → v ≡ w
raw_one taken rest v w h k = h.whole ∙ sym k.whole

-- Nothing need follow.
pub raw_ends_is : (taken : List ℕ) → IsTrue true ↔ ((line : List ℕ) × IsRawRest taken [] line)
raw_ends_is taken = (λ _. (taken ++ [], record { whole = refl; raw = tt }), λ _. refl)

-- ---- Reasons

parenthesis : IsRawLine (41 ∷ [])
parenthesis = (omega arith, omega arith, (λ e. absurd (omega (arith, e))), tt)

reason_raw : (reason text : List ℕ) → IsReason reason text → IsRawLine text
reason_raw reason text h = rw h.0 (raw_append reason (41 ∷ []) h.1 parenthesis)

pub reason_completes : (taken : List ℕ) → IsRawLine taken → (rest : List ℕ) × (reason : List ℕ) × IsReason reason (taken ++ rest)
reason_completes taken h = (41 ∷ [], taken, (refl, h))

pub reason_one : (text v w : List ℕ) → IsReason v text → IsReason w text → v ≡ w
reason_one text v w h k = (push_one v w 41 41 (sym h.0 ∙ k.0)).0

pub reason_bytes : (taken rest reason : List ℕ) → IsReason reason (taken ++ rest) → AreBytes rest
reason_bytes taken rest reason h = raw_bytes rest (raw_after taken rest (reason_raw reason (taken ++ rest) h))

pub reason_begins : (taken : List ℕ) (c : ℕ) → IsRawLine taken → IsRawByte c → (rest : List ℕ) × (reason : List ℕ) × IsReason reason (taken ++ c ∷ rest)
reason_begins taken c h b = (41 ∷ [], taken ++ c ∷ [], (sym (append_assoc taken (c ∷ []) (41 ∷ [])), raw_append taken (c ∷ []) h (b.0, b.1, b.2, tt)))

pub reason_byte_of : (taken rest reason : List ℕ) (c : ℕ) → IsReason reason (taken ++ c ∷ rest) → IsRawByte c
reason_byte_of taken rest reason c h =
    let r = raw_after taken (c ∷ rest) (reason_raw reason (taken ++ c ∷ rest) h) in
    (r.0, r.1, r.2)

-- What a push that may fail leaves.
pub raw_pushed : (b : Bool) (xs ys : List ℕ) (c : ℕ) → ys ≡ cond b (xs ++ c ∷ []) xs → IsRawLine xs → IsRawByte c → IsRawLine ys
raw_pushed true xs ys c e h k = rw e (raw_append xs (c ∷ []) h (k.0, k.1, k.2, tt))
raw_pushed false xs ys c e h k = rw e h

-- A text that is closed has its parenthesis last.
closed_last : (xs : List ℕ) (n : ℕ) → length xs ≡ n + 1 → get_or xs n 0 ≡ 41 → xs ≡ take n xs ++ 41 ∷ []
closed_last xs n e g =
    let cut : take (n + 1) xs ≡ take n xs ++ get_or xs n 0 ∷ [] = take_more xs n 0 (omega (arith, e)) in
    let all : take (n + 1) xs ≡ xs = grind (arith, common_steps) in
    sym all ∙ cut ∙ ap (λ z. take n xs ++ z ∷ []) g

pub closed_front : (xs : List ℕ) → IsTrue (is_closed xs) → xs ≡ take (length xs - 1) xs ++ 41 ∷ []
closed_front xs e =
    let both = and_parts (nat_lt 0 (length xs)) (nat_eq (get_or xs (length xs - 1) 0) 41) e in
    closed_last xs (length xs - 1) (omega (arith, ltb-true 0 (length xs) both.0)) (eqb-true (get_or xs (length xs - 1) 0) 41 both.1)

last_of : (xs : List ℕ) → get_or (xs ++ 41 ∷ []) (length xs) 0 ≡ 41
last_of [] = refl
last_of (x ∷ xs) = last_of xs

pub front_closed : (xs front : List ℕ) → xs ≡ front ++ 41 ∷ [] → IsTrue (is_closed xs)
front_closed xs front e =
    let n : length xs ≡ length front + 1 = ap length e ∙ length-append front (41 ∷ []) in
    let at : length xs - 1 ≡ length front = omega (arith, n) in
    let last : get_or xs (length xs - 1) 0 ≡ 41 = rw at (rw e (last_of front)) in
    and_from (nat_lt 0 (length xs)) (nat_eq (get_or xs (length xs - 1) 0) 41) (lt-ltb 0 (length xs) (omega (arith, n))) (eq-eqb (get_or xs (length xs - 1) 0) 41 last)

-- The reason of a text that is closed.
pub closed_reason : (taken reason : List ℕ) → IsRawLine taken → taken ≡ reason ++ 41 ∷ [] → IsReason reason (taken ++ [])
closed_reason taken reason h e = (append-nil taken ∙ e, raw_before reason (41 ∷ []) (rw e at h))

-- Nothing need follow exactly where the last byte closes the text.
pub reason_ends_is : (taken : List ℕ) → IsRawLine taken → IsTrue (is_closed taken) ↔ ((reason : List ℕ) × IsReason reason (taken ++ []))
reason_ends_is taken h = (
  λ e. (take (length taken - 1) taken, closed_reason taken (take (length taken - 1) taken) h (closed_front taken e)),
  λ r. front_closed taken r.0 (sym (append-nil taken) ∙ r.1.0),
)

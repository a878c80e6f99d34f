-- What holds of decimal texts.
use Rattle.std.proofs.Common.{◌≡◌, ℕ, zero, suc, ◌+◌, ◌-◌, ◌*◌, ◌/◌, ◌%◌, ◌^◌, ◌≤◌, ◌<◌, inl, inr, Bool, true, false, ltb, leb, ◌&&◌, ◌||◌, List, [], ◌∷◌, ◌++◌, length, refl, sym, ◌∙◌, arith, leb-true}
use Rattle.std.proofs.Common.{le-leb, ltb-true, lt-ltb, max, IsTrue, ◌↔◌}
use Rattle.std.proofs.lemmas.Bool.{and_from, and_parts}
use Rattle.std.proofs.Math.Nat.{pow-succ', mul-le-mul_right}
use native.Mathlib.Decide.{dec_lt}
use Prim.{yes, no}
use Rattle.std.proofs.Common.{take, add-one}
use Rattle.cg_text.specs.Scan.{FollowsRun}
use Rattle.cg_text.specs.Token.{AreBytes}
use Rattle.cg_text.specs.Decimal.{AreDigits, read_on, IsNumeral}
use Rattle.cg_text.specs.DecimalState.{Spans, Reaches, some_below, reaches, IsDecimalRest, is_open, decimal_ends}
use Rattle.cg_text.specs.declared.decimal.Progress.{Progress}
use Rattle.cg_text.specs.declared.decimal.Progress.TheVariants.{Start, Zero, Number}

-- A test that holds somewhere below the bound.
some_below_at : (p : ℕ → Bool) (n : ℕ) → some_below p n ≡ true → (k : ℕ) × (p k ≡ true)
some_below_at p zero h = absurd (cc)
some_below_at p (suc n) h =
    let here : (b : Bool) → p n ≡ b → (b || some_below p n) ≡ true → (k : ℕ) × (p k ≡ true) =
    elim [ true ↦ λ e _. (n, e) | false ↦ λ _ g. some_below_at p n g ] in
    here (p n) refl h

some_below_from : (p : ℕ → Bool) (n k : ℕ) → k < n → p k ≡ true → some_below p n ≡ true
some_below_from p zero k lt h = absurd (omega arith)
some_below_from p (suc n) k lt h =
    let here : (b : Bool) → p n ≡ b → (b || some_below p n) ≡ true =
    elim [ true ↦ λ _. refl | false ↦ λ e. (let ne : k ≡ n → ⊥ = λ q. cc in some_below_from p n k (omega arith) h) ] in
    here (p n) refl

-- The powers of ten.
pow_pos_ten : (k : ℕ) → 0 < 10 ^ k
pow_pos_ten zero = omega arith
pow_pos_ten (suc k) = rw pow-succ' (omega (arith, pow_pos_ten k))

below_pow_ten : (k : ℕ) → k < 10 ^ k
below_pow_ten zero = omega arith
below_pow_ten (suc k) = rw pow-succ' (omega (arith, below_pow_ten k))

pub Reaches_from_true : (lo hi n : ℕ) → reaches lo hi n ≡ true → Reaches lo hi n
unfolding reaches
Reaches_from_true lo hi n h =
    let found = some_below_at (λ k. leb (n * 10 ^ k) hi && ltb lo ((n + 1) * 10 ^ k)) (suc hi) h in
    let both = and_parts _ _ found.1 in
    record { digits = found.0; meets_hi = leb-true _ _ both.0; meets_lo = ltb-true _ _ both.1 }

pub true_from_Reaches : (lo hi n : ℕ) → 0 < n → Reaches lo hi n → reaches lo hi n ≡ true
unfolding reaches
true_from_Reaches lo hi n above r =
    let few : r.digits < suc hi = omega (arith, r.meets_hi, below_pow_ten r.digits, mul-le-mul_right (10 ^ r.digits) above) in
    some_below_from (λ k. leb (n * 10 ^ k) hi && ltb lo ((n + 1) * 10 ^ k)) (suc hi) r.digits few (and_from _ _ (le-leb _ _ r.meets_hi) (lt-ltb _ _ r.meets_lo))

-- Digits that follow n give at least n followed by zeros, and less than n + 1 followed by as many.
pub read_on_low : (n : ℕ) (ds : List ℕ) → n * 10 ^ length ds ≤ read_on n ds
read_on_low n [] = omega arith
read_on_low n (d ∷ ds) = rw pow-succ' (omega (arith, read_on_low (10 * n + (d - 48)) ds))

pub read_on_high : (n : ℕ) (ds : List ℕ) → AreDigits ds → read_on n ds < (n + 1) * 10 ^ length ds
read_on_high n [] h = omega arith
read_on_high n (d ∷ ds) h = rw pow-succ' ((
    let digit : 10 * n + (d - 48) + 1 ≤ 10 * (n + 1) = omega arith in
    omega (arith, read_on_high (10 * n + (d - 48)) ds h.2, mul-le-mul_right (10 ^ length ds) digit)))

-- The last digits of a number, so many of them.
pub low_digits : ℕ → ℕ → List ℕ
low_digits zero n = []
low_digits (suc k) n = low_digits k (n / 10) ++ (48 + n % 10) ∷ []

pub read_on_push : (n : ℕ) (ds : List ℕ) (d : ℕ) → read_on n (ds ++ d ∷ []) ≡ 10 * read_on n ds + (d - 48)
read_on_push n [] d = refl
read_on_push n (x ∷ ds) d = read_on_push (10 * n + (x - 48)) ds d

pub AreDigits_push : (ds : List ℕ) (d : ℕ) → AreDigits ds → 48 ≤ d → d ≤ 57 → AreDigits (ds ++ d ∷ [])
AreDigits_push [] d h low high = (low, high, tt)
AreDigits_push (x ∷ ds) d h low high = (h.0, h.1, AreDigits_push ds d h.2 low high)

AreDigits_low_digits : (k n : ℕ) → AreDigits (low_digits k n)
unfolding low_digits
AreDigits_low_digits zero n = tt
AreDigits_low_digits (suc k) n = AreDigits_push (low_digits k (n / 10)) (48 + n % 10) (AreDigits_low_digits k (n / 10)) (omega arith) (omega arith)

-- A number that begins with m is m followed by its last digits.
read_on_low_digits : (k m n : ℕ) → m * 10 ^ k ≤ n → n < (m + 1) * 10 ^ k → read_on m (low_digits k n) ≡ n
unfolding low_digits
read_on_low_digits zero m n low high = omega arith
read_on_low_digits (suc k) m n low high =
    let low' = rw pow-succ' at low in
    let high' = rw pow-succ' at high in
    let again : read_on m (low_digits k (n / 10)) ≡ n / 10 = read_on_low_digits k m (n / 10) (omega arith) (omega arith) in
    read_on_push m (low_digits k (n / 10)) (48 + n % 10) ∙ omega arith

-- Where the range is in reach, digits complete a number of it.
pub completion : (lo hi m : ℕ) → lo ≤ hi → Reaches lo hi m → (rest : List ℕ) × (n : ℕ) × (lo ≤ n) × (n ≤ hi) × AreDigits rest × (n ≡ read_on m rest)
completion lo hi m some r =
    let n : ℕ = max lo (m * 10 ^ r.digits) in
    (low_digits r.digits n, n, omega arith, omega (arith, r.meets_hi), AreDigits_low_digits r.digits n, sym (read_on_low_digits r.digits m n (omega arith) (omega (arith, r.meets_lo, r.meets_hi, pow_pos_ten r.digits))))

spans_next : (lo hi low high k : ℕ) → high ≤ lo → low * 10 ^ k ≤ hi → lo < high * 10 ^ k → Spans lo hi (low * 10) (high * 10)
spans_next lo hi low high zero h a b = absurd (omega arith)
spans_next lo hi low high (suc k) h a b =
    let a' = rw pow-succ' at a in
    let b' = rw pow-succ' at b in
    record { digits = k; meets_hi = omega arith; meets_lo = omega arith }

-- One digit further, where none is too few.
pub Spans_next : (lo hi low high : ℕ) → high ≤ lo → Spans lo hi low high → Spans lo hi (low * 10) (high * 10)
Spans_next lo hi low high h s = spans_next lo hi low high s.digits h s.meets_hi s.meets_lo

pub Spans_back : (lo hi low high : ℕ) → Spans lo hi (low * 10) (high * 10) → Spans lo hi low high
Spans_back lo hi low high s = record {
  digits = suc s.digits;
  meets_hi = rw pow-succ' (omega (arith, s.meets_hi));
  meets_lo = rw pow-succ' (omega (arith, s.meets_lo));
}

-- With no digit to come.
pub Spans_here : (lo hi low high : ℕ) → lo < high → low ≤ hi → Spans lo hi low high
Spans_here lo hi low high a b = record { digits = 0; meets_hi = omega arith; meets_lo = omega arith }

-- A number above 0 has a first digit.
first_digit : (fuel n : ℕ) → n ≤ fuel → 0 < n → (d : ℕ) × (k : ℕ) × (1 ≤ d) × (d ≤ 9) × (d * 10 ^ k ≤ n) × (n < (d + 1) * 10 ^ k)
first_digit zero n few above = absurd (omega arith)
first_digit (suc fuel) n few above =
    let small : n < 10 → (d : ℕ) × (k : ℕ) × (1 ≤ d) × (d ≤ 9) × (d * 10 ^ k ≤ n) × (n < (d + 1) * 10 ^ k) =
    λ h. (n, 0, omega arith, omega arith, omega arith, omega arith) in
    let large : 10 ≤ n → (d : ℕ) × (k : ℕ) × (1 ≤ d) × (d ≤ 9) × (d * 10 ^ k ≤ n) × (n < (d + 1) * 10 ^ k) =
    λ h. (let again = first_digit fuel (n / 10) (omega arith) (omega arith) in
    (again.0, suc again.1, again.2, again.3, rw pow-succ' (omega (arith, again.4)), rw pow-succ' (omega (arith, again.5)))) in
    elim (dec_lt n 10) [ yes h ↦ small h | no h ↦ large (omega arith) ]

-- Every number has a text.
pub numeral : (n : ℕ) → (text : List ℕ) × IsNumeral n text
numeral zero = (48 ∷ [], inl (refl, refl, refl))
numeral (suc n) =
    let d = first_digit (suc n) (suc n) (omega arith) (omega arith) in
    let same : 48 + d.0 - 48 ≡ d.0 = omega arith in
    ((48 + d.0) ∷ low_digits d.1 (suc n), inr (omega (arith, d.2), omega (arith, d.3), AreDigits_low_digits d.1 (suc n), sym (rw same (read_on_low_digits d.1 d.0 (suc n) d.4 d.5))))

-- An open state can be completed.
pub IsDecimalRest_completes : (lo hi : ℕ) (p : Progress) → lo ≤ hi → is_open lo hi p ≡ true → (rest : List ℕ) × (n : ℕ) × IsDecimalRest lo hi p rest n
IsDecimalRest_completes lo hi Start le h = let text = numeral hi in (text.0, hi, (le, omega arith, text.1))
IsDecimalRest_completes lo hi Zero le h = ([], 0, (refl, refl))
IsDecimalRest_completes lo hi (Number m) le h =
    let done = completion lo hi m le (Reaches_from_true lo hi m (and_parts _ _ h).1) in
    (done.0, done.1, (done.2, done.3, done.4, done.5))

pub IsNumeral_one : (m n : ℕ) (text : List ℕ) → IsNumeral m text → IsNumeral n text → m ≡ n
IsNumeral_one m n [] h k = absurd h
IsNumeral_one m n (c ∷ cs) (inl h) (inl k) = h.2 ∙ sym k.2
IsNumeral_one m n (c ∷ cs) (inl h) (inr k) = absurd (omega (arith, h.0, k.0))
IsNumeral_one m n (c ∷ cs) (inr h) (inl k) = absurd (omega (arith, h.0, k.0))
IsNumeral_one m n (c ∷ cs) (inr h) (inr k) = h.3 ∙ sym k.3

-- A rest has one number.
pub IsDecimalRest_one : (lo hi : ℕ) (p : Progress) (rest : List ℕ) (m n : ℕ) → IsDecimalRest lo hi p rest m → IsDecimalRest lo hi p rest n → m ≡ n
IsDecimalRest_one lo hi Start rest m n h k = IsNumeral_one m n rest h.2 k.2
IsDecimalRest_one lo hi Zero rest m n h k = h.1 ∙ sym k.1
IsDecimalRest_one lo hi (Number i) rest m n h k = h.3 ∙ sym k.3

-- The number in reach of which a byte brings a state.
abbrev pub Leads : Progress → ℕ → ℕ → Type 0
Leads Start byte number = (byte ≡ 48 → ⊥) × (number ≡ byte - 48)
Leads Zero byte number = ⊥
Leads (Number n) byte number = number ≡ 10 * n + (byte - 48)

-- A rest of digits is in reach.
pub Reaches_from_rest : (lo hi m : ℕ) (rest : List ℕ) (n : ℕ) → IsDecimalRest lo hi (Number m) rest n → Reaches lo hi m
Reaches_from_rest lo hi m rest n h =
    record { digits = length rest; meets_hi = omega (arith, h.1, h.3, read_on_low m rest); meets_lo = omega (arith, h.0, h.3, read_on_high m rest h.2) }

pub none_begins : (lo hi : ℕ) (p : Progress) (byte number : ℕ) → (Reaches lo hi number → ⊥) → Leads p byte number → (rest : List ℕ) (n : ℕ) → IsDecimalRest lo hi p (byte ∷ rest) n → ⊥
none_begins lo hi Start byte number outside leads rest n (le, ge, inl h) = leads.0 h.0
none_begins lo hi Start byte number outside leads rest n (le, ge, inr h) = outside (rw leads.1 (Reaches_from_rest lo hi (byte - 48) rest n (le, ge, h.2, h.3)))
none_begins lo hi Zero byte number outside leads rest n h = absurd leads
none_begins lo hi (Number m) byte number outside leads rest n h = outside (rw leads (Reaches_from_rest lo hi (10 * m + (byte - 48)) rest n (h.0, h.1, h.2.2, h.3)))

-- Nothing need follow exactly where the empty rest has a number.
pub decimal_ends_is : (lo hi : ℕ) (p : Progress) → IsTrue (decimal_ends lo hi p) ↔ ((n : ℕ) × IsDecimalRest lo hi p [] n)
decimal_ends_is lo hi Start = (λ e. absurd (cc), λ h. absurd h.1.2)
decimal_ends_is lo hi Zero = (λ e. (0, (refl, refl)), λ h. refl)
decimal_ends_is lo hi (Number m) = (
  λ e. (let both = and_parts _ _ e in (m, (leb-true _ _ both.0, leb-true _ _ both.1, tt, refl))),
  λ h. and_from _ _ (le-leb lo m (omega (arith, h.1.0, h.1.3))) (le-leb m hi (omega (arith, h.1.1, h.1.3))),
)

none_digits : (rest : List ℕ) → rest ≡ [] → AreDigits rest
none_digits [] e = tt
none_digits (c ∷ cs) e = absurd (cc)

-- A rest of a number holds digits.
pub number_digits : (lo hi : ℕ) (p : Progress) (rest : List ℕ) (n : ℕ) → IsDecimalRest lo hi p rest n → AreDigits rest
number_digits lo hi Start [] n h = tt
number_digits lo hi Start (c ∷ cs) n (a, b, inl h) = (omega (arith, h.0), omega (arith, h.0), none_digits cs h.1)
number_digits lo hi Start (c ∷ cs) n (a, b, inr h) = (omega (arith, h.0), h.1, h.2)
number_digits lo hi Zero rest n h = none_digits rest h.0
number_digits lo hi (Number m) rest n h = h.2

pub digits_bytes : (rest : List ℕ) → AreDigits rest → AreBytes rest
digits_bytes [] h = tt
digits_bytes (c ∷ cs) h = (omega (arith, h.1), digits_bytes cs h.2)

-- The number after a run of digits and a rest of them.
pub read_on_append : (n : ℕ) (run rest : List ℕ) → read_on n (run ++ rest) ≡ read_on (read_on n run) rest
read_on_append n [] rest = refl
read_on_append n (d ∷ ds) rest = read_on_append (10 * n + (d - 48)) ds rest

digits_append : (run rest : List ℕ) → AreDigits run → AreDigits rest → AreDigits (run ++ rest)
digits_append [] rest h k = k
digits_append (d ∷ ds) rest h k = (h.0, h.1, digits_append ds rest h.2 k)

digits_after : (run rest : List ℕ) → AreDigits (run ++ rest) → AreDigits rest
digits_after [] rest h = h
digits_after (d ∷ ds) rest h = digits_after ds rest h.2

-- What is left of a number after a run of its digits.
pub number_run : (lo hi n number : ℕ) (run rest : List ℕ) (v : ℕ) → AreDigits run → number ≡ read_on n run → IsDecimalRest lo hi (Number number) rest v ↔ IsDecimalRest lo hi (Number n) (run ++ rest) v
number_run lo hi n number run rest v d e = (
  λ h. (h.0, h.1, digits_append run rest d h.2, (rw e at h.3) ∙ sym (read_on_append n run rest)),
  λ h. (h.0, h.1, digits_after run rest h.2, rw e (h.3 ∙ read_on_append n run rest)),
)

-- A number of the range is in reach.
pub number_open : (lo hi n : ℕ) → 0 < n → lo ≤ n → n ≤ hi → IsTrue (is_open lo hi (Number n))
number_open lo hi n above low high = and_from _ _ (lt-ltb _ _ above) (true_from_Reaches lo hi n above (Spans_here lo hi n (n + 1) (omega arith) high))

-- The first digit of a number that isn't 0, and then a run of its digits.
pub number_begun : (lo hi number first n : ℕ) (bytes more : List ℕ) → bytes ≡ first ∷ more → 49 ≤ first → first ≤ 57 → AreDigits (take n more) → number ≡ read_on (first - 48) (take n more) →
    FollowsRun (IsDecimalRest lo hi) Start (take (n + 1) bytes) (Number number)
number_begun lo hi number first n bytes more e low high d is rest v = rw (e, add-one) (
  λ h. (let k = (number_run lo hi (first - 48) number (take n more) rest v d is).0 h in (k.0, k.1, inr (low, high, k.2, k.3))),
  λ h. (let k = begun_rest first (take n more ++ rest) v low h.2 in (number_run lo hi (first - 48) number (take n more) rest v d is).1 (h.0, h.1, k.0, k.1)),
)
  where
    begun_rest : (first : ℕ) (rest : List ℕ) (v : ℕ) → 49 ≤ first → IsNumeral v (first ∷ rest) → AreDigits rest × (v ≡ read_on (first - 48) rest)
    begun_rest first rest v low (inl z) = absurd (omega (arith, z.0, low))
    begun_rest first rest v low (inr s) = (s.2, s.3)

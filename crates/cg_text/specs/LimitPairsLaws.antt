-- What holds of the pairs of a write of io.max.
use Rattle.std.proofs.Common.{◌≡◌, ℕ, zero, suc, ◌+◌, ◌*◌, ◌≤◌, ◌<◌, ◌⊎◌, ◌↔◌, inl, inr, Bool, true, false, cond, ◌&&◌, ltb, Option, Some, None, MatchOption, List, [], ◌∷◌, ◌++◌, length, take, drop}
use Rattle.std.proofs.Common.{get_or, codes, refl, sym, ◌∙◌, ap, subst, arith, append_assoc, ltb-true, lt-ltb, leb-true, le-leb, length-append, IsTrue}
use Rattle.std.proofs.lemmas.Bool.{and_from, and_parts}
use Rattle.cg_text.specs.Token.{AreBytes, Follows, NoneBegins}
use Rattle.cg_text.specs.Decimal.{AreDigits, IsDecimal}
use Rattle.cg_text.specs.DecimalLaws.{number_digits, IsDecimalRest_completes, IsDecimalRest_one, decimal_ends_is}
use Rattle.cg_text.specs.Limit.{IsLimit}
use Rattle.cg_text.specs.LimitPairs.{key_text, IsLimitPair, AreLimitPairs, is_key, limit_of, HasDistinctKeys, AreLimits}
use Rattle.cg_text.specs.RangesState.{Cut, number_rest}
use Rattle.cg_text.specs.RangesLaws.{cut_taken_from, cut_taken_to, cut_begun, cut_nil, cut_bytes, heads, tails, append_nil, decimal_digits}
use Rattle.cg_text.specs.LimitPairsState.{key_start, is_none, is_free, with_limit, with_pairs, LimitRest, limit_ends, IsNewPair, PairRest, AfterPair, PairsRest, LimitsRest, is_live, limits_end, GoesOn, IsNextPart}
use Rattle.cg_text.specs.declared.decimal.DecimalText.{DecimalText}
use Rattle.cg_text.specs.declared.decimal.Progress.TheVariants.{Start as Begin}
use Rattle.cg_text.specs.declared.values.Limit.{Limit}
use Rattle.cg_text.specs.declared.values.Limit.TheVariants.{Max, At}
use Rattle.cg_text.specs.declared.pairs.LimitKey.{LimitKey}
use Rattle.cg_text.specs.declared.pairs.LimitKey.TheVariants.{Rbps, Wbps, Riops, Wiops}
use Rattle.cg_text.specs.declared.pairs.LimitPairs.{LimitPairs}
use Rattle.cg_text.specs.declared.pairs.LimitPart.{LimitPart}
use Rattle.cg_text.specs.declared.pairs.LimitPart.TheVariants.{Start, Word, Number}
use Rattle.cg_text.specs.declared.pairs.PairPart.{PairPart}
use Rattle.cg_text.specs.declared.pairs.PairPart.TheVariants.{InKey, InLimit}

-- Bytes above a bound.
abbrev are_above : ℕ → List ℕ → Bool
are_above n [] = true
are_above n (c ∷ cs) = (ltb n c && ltb c 256) && are_above n cs

above_parts : (n c : ℕ) (cs : List ℕ) → are_above n (c ∷ cs) ≡ true → (n < c) × (c < 256) × (are_above n cs ≡ true)
above_parts n c cs h =
    let both = and_parts _ _ h in
    let ends = and_parts _ _ both.0 in
    (ltb-true n c ends.0, ltb-true c 256 ends.1, both.1)

above_from : (n c : ℕ) (cs : List ℕ) → n < c → c < 256 → are_above n cs ≡ true → are_above n (c ∷ cs) ≡ true
above_from n c cs h k more = and_from _ _ (and_from _ _ (lt-ltb n c h) (lt-ltb c 256 k)) more

above_append : (n : ℕ) (xs ys : List ℕ) → are_above n xs ≡ true → are_above n ys ≡ true → are_above n (xs ++ ys) ≡ true
above_append n [] ys h k = k
above_append n (x ∷ xs) ys h k = let p = above_parts n x xs h in above_from n x (xs ++ ys) p.0 p.1 (above_append n xs ys p.2 k)

above_back : (n : ℕ) (xs ys : List ℕ) → are_above n (xs ++ ys) ≡ true → are_above n ys ≡ true
above_back n [] ys h = h
above_back n (x ∷ xs) ys h = above_back n xs ys (above_parts n x (xs ++ ys) h).2

above_take : (n k : ℕ) (xs ys : List ℕ) → k ≤ length xs → are_above n xs ≡ true → are_above n (take k (xs ++ ys)) ≡ true
above_take n zero xs ys le h = refl
above_take n (suc k) [] ys le h = absurd (omega arith)
above_take n (suc k) (x ∷ xs) ys le h = let p = above_parts n x xs h in above_from n x (take k (xs ++ ys)) p.0 p.1 (above_take n k xs ys (omega arith) p.2)

above_front : (n k : ℕ) (xs : List ℕ) → are_above n xs ≡ true → are_above n (take k xs) ≡ true
above_front n zero xs h = refl
above_front n (suc k) [] h = refl
above_front n (suc k) (x ∷ xs) h = let p = above_parts n x xs h in above_from n x (take k xs) p.0 p.1 (above_front n k xs p.2)

above_drop : (n k : ℕ) (xs : List ℕ) → are_above n xs ≡ true → are_above n (drop k xs) ≡ true
above_drop n zero xs h = h
above_drop n (suc k) [] h = h
above_drop n (suc k) (x ∷ xs) h = above_drop n k xs (above_parts n x xs h).2

above_digits : (xs : List ℕ) → AreDigits xs → are_above 32 xs ≡ true
above_digits [] h = refl
above_digits (x ∷ xs) h = above_from 32 x xs (omega (arith, h.0)) (omega (arith, h.1)) (above_digits xs h.2)

above_bytes : (n : ℕ) (xs : List ℕ) → are_above n xs ≡ true → AreBytes xs
above_bytes n [] h = tt
above_bytes n (x ∷ xs) h = let p = above_parts n x xs h in (p.1, above_bytes n xs p.2)

-- What stops such bytes.
abbrev IsStop : ℕ → List ℕ → Type 0
IsStop n [] = Unit {0}
IsStop n (c ∷ cs) = c ≤ n

stop_not : (n : ℕ) (b : List ℕ) (y : ℕ) (ys : List ℕ) → b ≡ y ∷ ys → IsStop n b → n < y → ⊥
stop_not n [] y ys e s h = absurd (cc)
stop_not n (x ∷ b) y ys e s h = absurd (omega (arith, heads x y b ys e, s, h))

split_above : (n : ℕ) (a b c d : List ℕ) → are_above n a ≡ true → are_above n c ≡ true → IsStop n b → IsStop n d → a ++ b ≡ c ++ d → (a ≡ c) × (b ≡ d)
split_above n [] b [] d h k s t e = (refl, e)
split_above n [] b (y ∷ c) d h k s t e = absurd (stop_not n b y (c ++ d) e s (above_parts n y c k).0)
split_above n (x ∷ a) b [] d h k s t e = absurd (stop_not n d x (a ++ b) (sym e) t (above_parts n x a h).0)
split_above n (x ∷ a) b (y ∷ c) d h k s t e =
    let more = split_above n a b c d (above_parts n x a h).2 (above_parts n y c k).2 s t (tails x y (a ++ b) (c ++ d) e) in
    let e0 : x ≡ y = heads x y (a ++ b) (c ++ d) e in
    let e1 : a ≡ c = more.0 in
    (cc, more.1)

-- Keys.
key_above : (key : LimitKey) → are_above 61 (key_text key) ≡ true
key_above Rbps = refl
key_above Wbps = refl
key_above Riops = refl
key_above Wiops = refl

start_above : (key : LimitKey) → are_above 32 (key_start key) ≡ true
start_above Rbps = refl
start_above Wbps = refl
start_above Riops = refl
start_above Wiops = refl

start_some : (key : LimitKey) → ltb 0 (length (key_start key)) ≡ true
start_some Rbps = refl
start_some Wbps = refl
start_some Riops = refl
start_some Wiops = refl

abbrev two_bytes : List ℕ → ℕ
two_bytes [] = 0
two_bytes (c ∷ []) = c
two_bytes (c ∷ d ∷ cs) = 256 * c + d

keys_one : (j k : LimitKey) → key_text j ≡ key_text k → j ≡ k
keys_one Rbps Rbps e = refl
keys_one Rbps Wbps e = absurd (omega (arith, ap two_bytes e))
keys_one Rbps Riops e = absurd (omega (arith, ap two_bytes e))
keys_one Rbps Wiops e = absurd (omega (arith, ap two_bytes e))
keys_one Wbps Rbps e = absurd (omega (arith, ap two_bytes e))
keys_one Wbps Wbps e = refl
keys_one Wbps Riops e = absurd (omega (arith, ap two_bytes e))
keys_one Wbps Wiops e = absurd (omega (arith, ap two_bytes e))
keys_one Riops Rbps e = absurd (omega (arith, ap two_bytes e))
keys_one Riops Wbps e = absurd (omega (arith, ap two_bytes e))
keys_one Riops Riops e = refl
keys_one Riops Wiops e = absurd (omega (arith, ap two_bytes e))
keys_one Wiops Rbps e = absurd (omega (arith, ap two_bytes e))
keys_one Wiops Wbps e = absurd (omega (arith, ap two_bytes e))
keys_one Wiops Riops e = absurd (omega (arith, ap two_bytes e))
keys_one Wiops Wiops e = refl

start_split : (j k : LimitKey) (x y : List ℕ) → key_text j ++ 61 ∷ x ≡ key_text k ++ 61 ∷ y → (j ≡ k) × (x ≡ y)
start_split j k x y e =
    let s = split_above 61 (key_text j) (61 ∷ x) (key_text k) (61 ∷ y) (key_above j) (key_above k) (omega arith) (omega arith) e in
    (keys_one j k s.0, tails 61 61 x y s.1)

pub start_text : (key : LimitKey) (x : List ℕ) → key_start key ++ x ≡ key_text key ++ 61 ∷ x
start_text key x = append_assoc (key_text key) (61 ∷ []) x

-- A key that goes on with a byte.
goes_on_from : (xs ys : List ℕ) (at b : ℕ) → at ≤ length ys → take (suc at) xs ≡ take at ys ++ b ∷ [] → (at < length xs) × (get_or xs at 0 ≡ b) × (take at xs ≡ take at ys)
goes_on_from [] ys zero b le e = absurd (cc)
goes_on_from (x ∷ xs) ys zero b le e = (omega arith, heads x b [] [] e, refl)
goes_on_from xs [] (suc at) b le e = absurd (omega arith)
goes_on_from [] (y ∷ ys) (suc at) b le e = absurd (cc)
goes_on_from (x ∷ xs) (y ∷ ys) (suc at) b le e =
    let more = goes_on_from xs ys at b (omega arith) (tails x y (take (suc at) xs) (take at ys ++ b ∷ []) e) in
    let e0 : x ≡ y = heads x y (take (suc at) xs) (take at ys ++ b ∷ []) e in
    let e1 : take at xs ≡ take at ys = more.2 in
    (omega (arith, more.0), more.1, cc)

goes_on_text : (xs ks : List ℕ) (b : ℕ) (rest limit : List ℕ) → are_above 61 xs ≡ true → xs ++ b ∷ rest ≡ ks ++ 61 ∷ limit → take (suc (length xs)) (ks ++ 61 ∷ []) ≡ xs ++ b ∷ []
goes_on_text [] [] b rest limit h e = ap (λ z. z ∷ []) (sym (heads b 61 rest limit e))
goes_on_text [] (k ∷ ks) b rest limit h e = ap (λ z. z ∷ []) (sym (heads b k rest (ks ++ 61 ∷ limit) e))
goes_on_text (x ∷ xs) [] b rest limit h e = absurd (omega (arith, heads x 61 (xs ++ b ∷ rest) limit e, (above_parts 61 x xs h).0))
goes_on_text (x ∷ xs) (k ∷ ks) b rest limit h e =
    let e0 : x ≡ k = heads x k (xs ++ b ∷ rest) (ks ++ 61 ∷ limit) e in
    let more : take (suc (length xs)) (ks ++ 61 ∷ []) ≡ xs ++ b ∷ [] = goes_on_text xs ks b rest limit (above_parts 61 x xs h).2 (tails x k (xs ++ b ∷ rest) (ks ++ 61 ∷ limit) e) in
    cc

not_whole : (xs ks limit : List ℕ) → are_above 61 xs ≡ true → xs ≡ ks ++ 61 ∷ limit → ⊥
not_whole [] [] limit h e = absurd (cc)
not_whole [] (k ∷ ks) limit h e = absurd (cc)
not_whole (x ∷ xs) [] limit h e = absurd (omega (arith, heads x 61 xs limit e, (above_parts 61 x xs h).0))
not_whole (x ∷ xs) (k ∷ ks) limit h e = not_whole xs ks limit (above_parts 61 x xs h).2 (tails x k xs (ks ++ 61 ∷ limit) e)

take_length : (k : ℕ) (xs : List ℕ) → k ≤ length xs → length (take k xs) ≡ k
take_length zero xs h = refl
take_length (suc k) [] h = absurd (omega arith)
take_length (suc k) (x ∷ xs) h = ap suc (take_length k xs (omega arith))

take_all : (k : ℕ) (xs : List ℕ) → length xs ≤ k → take k xs ≡ xs
take_all zero [] h = refl
take_all (suc k) [] h = refl
take_all zero (x ∷ xs) h = absurd (omega arith)
take_all (suc k) (x ∷ xs) h = ap (λ z. x ∷ z) (take_all k xs (omega arith))

live_parts : (given : LimitPairs) (key : LimitKey) (at : ℕ) → is_live given (InKey key at) ≡ true → (is_free key given ≡ true) × (at < length (key_start key)) × (at ≤ length (key_text key))
live_parts given key at h =
    let both = and_parts _ _ h in
    let lt : at < length (key_start key) = ltb-true _ _ both.1 in
    (both.0, lt, omega (arith, lt, length-append (key_text key) (61 ∷ [])))

key_refused : (given : LimitPairs) (like : LimitKey) (at byte : ℕ) (rest : List ℕ) (p : LimitKey × Limit) → is_live given (InKey like at) ≡ true → PairRest given (InKey like at) (byte ∷ rest) p → GoesOn given like at byte (p.0)
key_refused given like at byte rest p live h =
    let l = live_parts given like at live in
    let xs : List ℕ = take at (key_start like) in
    let same : length xs ≡ at = take_length at (key_start like) (omega (arith, l.1)) in
    let more = goes_on_text xs (key_text (p.0)) byte rest h.1.0 (above_take 61 at (key_text like) (61 ∷ []) l.2 (key_above like)) h.1.1 in
    (h.0, rw same at more)

-- Limits.
number_limit : (lo hi : ℕ) (v : Limit) (x : List ℕ) → IsLimit lo hi v x → are_above 32 x ≡ true
number_limit lo hi Max x h = rw h refl
number_limit lo hi (At n) x h = above_digits x (decimal_digits lo hi n x h)

max_not_number : (lo hi n : ℕ) (x : List ℕ) → x ≡ codes "max" → IsDecimal lo hi n x → ⊥
max_not_number lo hi n x e h = absurd (omega (arith, (rw e at (decimal_digits lo hi n x h)).1))

limit_one : (lo hi : ℕ) (v w : Limit) (x : List ℕ) → IsLimit lo hi v x → IsLimit lo hi w x → v ≡ w
limit_one lo hi Max Max x h k = refl
limit_one lo hi Max (At n) x h k = absurd (max_not_number lo hi n x h k)
limit_one lo hi (At n) Max x h k = absurd (max_not_number lo hi n x k h)
limit_one lo hi (At m) (At n) x h k = ap At (IsDecimalRest_one lo hi Begin x m n h k)

rest_above : (part : LimitPart) (x : List ℕ) (v : Limit) → LimitRest part x v → are_above 32 x ≡ true
rest_above Start x v h = number_limit 1 18446744073709551615 v x h
rest_above (Word at) x v h = rw h.1 (above_drop 32 at (codes "max") refl)
rest_above (Number d) x v h = above_digits x (number_digits d.lo d.hi d.progress x h.0 h.2)

start_number : (byte : ℕ) (d : DecimalText) → (byte ≡ 109 → ⊥) → ((x : List ℕ) (n : ℕ) → number_rest d x n ↔ IsDecimal 1 18446744073709551615 n x) → (x : List ℕ) (v : Limit) → LimitRest (Number d) (byte ∷ x) v ↔ LimitRest Start (byte ∷ x) v
start_number byte d not_m f x Max = (λ h. absurd (let e = h.1 in cc), λ h. absurd (not_m (heads byte 109 x (drop 1 (codes "max")) h)))
start_number byte d not_m f x (At n) = (
  λ h. (let e : n ≡ h.0 = let q = h.1 in cc in rw e ((f (byte ∷ x) h.0).0 h.2)),
  λ h. (n, refl, (f (byte ∷ x) n).1 h),
)

-- The first digit.
pub start_next : (byte : ℕ) (d : DecimalText) (next : Option LimitPart) → (byte ≡ 109 → ⊥) → ((x : List ℕ) (n : ℕ) → number_rest d x n ↔ IsDecimal 1 18446744073709551615 n x) →
    MatchOption next (NoneBegins LimitRest (Number d) byte) (Follows LimitRest (Number d) byte) → MatchOption next (NoneBegins LimitRest Start byte) (Follows LimitRest Start byte)
start_next byte d None not_m f h = λ x v k. h x v ((start_number byte d not_m f x v).1 k)
start_next byte d (Some p) not_m f h = λ x v. (λ k. (start_number byte d not_m f x v).0 ((h x v).0 k), λ k. (h x v).1 ((start_number byte d not_m f x v).1 k))

limit_rest_one : (part : LimitPart) (x : List ℕ) (v w : Limit) → LimitRest part x v → LimitRest part x w → v ≡ w
limit_rest_one Start x v w h k = limit_one 1 18446744073709551615 v w x h k
limit_rest_one (Word at) x v w h k = h.0 ∙ sym k.0
limit_rest_one (Number d) x v w h k = h.1 ∙ ap At (IsDecimalRest_one d.lo d.hi d.progress x h.0 k.0 h.2 k.2) ∙ sym k.1

limit_completes : (part : LimitPart) → (x : List ℕ) × (v : Limit) × LimitRest part x v
limit_completes Start = (codes "max", Max, refl)
limit_completes (Word at) = (drop at (codes "max"), Max, (refl, refl))
limit_completes (Number d) = let k = IsDecimalRest_completes d.lo d.hi d.progress d.range d.live in (k.0, At k.1, (k.1, refl, k.2))

drop_none : (n : ℕ) → ◌≡◌ {A = List ℕ} [] (drop n [])
drop_none zero = refl
drop_none (suc n) = refl

no_limit : (lo hi : ℕ) (v : Limit) → IsLimit lo hi v [] → ⊥
no_limit lo hi Max h = absurd (cc)
no_limit lo hi (At n) h = h.2

word_left : (at : ℕ) → [] ≡ drop at (codes "max") → 3 ≤ at
word_left zero e = absurd (cc)
word_left (suc zero) e = absurd (cc)
word_left (suc (suc zero)) e = absurd (cc)
word_left (suc (suc (suc n))) e = omega arith

word_whole : (at : ℕ) → 3 ≤ at → [] ≡ drop at (codes "max")
word_whole zero h = absurd (omega arith)
word_whole (suc zero) h = absurd (omega arith)
word_whole (suc (suc zero)) h = absurd (omega arith)
word_whole (suc (suc (suc n))) h = drop_none n

pub limit_ends_is : (part : LimitPart) → IsTrue (limit_ends part) ↔ ((v : Limit) × LimitRest part [] v)
limit_ends_is Start = (λ e. absurd (cc), λ h. absurd (no_limit 1 18446744073709551615 h.0 h.1))
limit_ends_is (Word at) = (λ e. (Max, (refl, word_whole at (leb-true 3 at e))), λ h. le-leb 3 at (word_left at h.1.1))
limit_ends_is (Number d) = (
  λ e. (let k = (decimal_ends_is d.lo d.hi d.progress).0 e in (At k.0, (k.0, refl, k.1))),
  λ h. (decimal_ends_is d.lo d.hi d.progress).1 (h.1.0, h.1.2),
)

-- Pairs.
pair_above : (p : LimitKey × Limit) (x : List ℕ) → IsLimitPair p x → are_above 32 x ≡ true
pair_above p x h =
    let whole : are_above 32 (key_start (p.0) ++ h.0) ≡ true = above_append 32 (key_start (p.0)) h.0 (start_above (p.0)) (number_limit 1 18446744073709551615 (p.1) h.0 h.2) in
    rw (h.1, ← (start_text (p.0) h.0)) whole

pairs_same : (p q : LimitKey × Limit) → p.0 ≡ q.0 → p.1 ≡ q.1 → p ≡ q
pairs_same (j, v) (k, w) e f = cc

pair_one : (p q : LimitKey × Limit) (x : List ℕ) → IsLimitPair p x → IsLimitPair q x → p ≡ q
pair_one p q x h k =
    let s = start_split (p.0) (q.0) h.0 k.0 (sym h.1 ∙ k.1) in
    pairs_same p q s.0 (limit_one 1 18446744073709551615 (p.1) (q.1) h.0 h.2 (rw (← s.1) at k.2))

part_above : (given : LimitPairs) (part : PairPart) (x : List ℕ) (p : LimitKey × Limit) → PairRest given part x p → are_above 32 x ≡ true
part_above given (InKey key at) x p h = above_back 32 (take at (key_start key)) x (pair_above p (take at (key_start key) ++ x) h.1)
part_above given (InLimit key part) x p h = rest_above part x (p.1) h.1

part_one : (given : LimitPairs) (part : PairPart) (x : List ℕ) (p q : LimitKey × Limit) → PairRest given part x p → PairRest given part x q → p ≡ q
part_one given (InKey key at) x p q h k = pair_one p q (take at (key_start key) ++ x) h.1 k.1
part_one given (InLimit key part) x p q h k = pairs_same p q (h.0 ∙ sym k.0) (limit_rest_one part x (p.1) (q.1) h.1 k.1)

key_not_whole : (given : LimitPairs) (key : LimitKey) (at : ℕ) (p : LimitKey × Limit) → is_live given (InKey key at) ≡ true → PairRest given (InKey key at) [] p → ⊥
key_not_whole given key at p live h =
    let l = live_parts given key at live in
    not_whole (take at (key_start key)) (key_text (p.0)) h.1.0 (above_take 61 at (key_text key) (61 ∷ []) l.2 (key_above key)) (sym (append_nil (take at (key_start key))) ∙ h.1.1)

after_stops : (given : LimitPairs) (ps : List (LimitKey × Limit)) (text : List ℕ) → AfterPair given ps text → IsStop 32 text
after_stops given ps [] h = tt
after_stops given [] (c ∷ text) h = absurd (cc)
after_stops given (p ∷ ps) (c ∷ text) h = omega (arith, heads c 32 text h.0 h.1)

after_space : (given : LimitPairs) (ps : List (LimitKey × Limit)) (c : ℕ) (text : List ℕ) → AfterPair given ps (c ∷ text) → c ≡ 32
after_space given [] c text h = absurd (cc)
after_space given (p ∷ ps) c text h = heads c 32 text h.0 h.1

-- A byte that the pair at hand takes.
module _ (given : LimitPairs) (P P' : List ℕ → LimitKey × Limit → Type 0) (byte : ℕ) (not_space : byte ≡ 32 → ⊥) (f : (x : List ℕ) (p : LimitKey × Limit) → P' x p ↔ P (byte ∷ x) p) where
  pairs_taken_to : (ps : List (LimitKey × Limit)) (text : List ℕ) → PairsRest given P' ps text → PairsRest given P ps (byte ∷ text)
  pairs_taken_to [] text h = h
  pairs_taken_to (p ∷ ps) text h = cut_taken_from (λ x. P x p) (λ x. P' x p) (AfterPair (with_limit (p.0) (p.1) given) ps) byte text (λ x. (f x p).0) h

  pairs_taken_from : (ps : List (LimitKey × Limit)) (text : List ℕ) → PairsRest given P ps (byte ∷ text) → PairsRest given P' ps text
  pairs_taken_from [] text h = h
  pairs_taken_from (p ∷ ps) text h = cut_taken_to (λ x. P x p) (λ x. P' x p) (AfterPair (with_limit (p.0) (p.1) given) ps) byte text (λ x. (f x p).1)
      (λ x k. not_space (after_space (with_limit (p.0) (p.1) given) ps byte x k)) h

taken : (given : LimitPairs) (part next : PairPart) (byte : ℕ) → (byte ≡ 32 → ⊥) → is_live given next ≡ true →
    ((x : List ℕ) (p : LimitKey × Limit) → PairRest given next x p ↔ PairRest given part (byte ∷ x) p) →
    IsNextPart given part byte given next
taken given part next byte not_space live f = (
  live,
  λ rest v. (
    λ h. (h.0, h.1, pairs_taken_to given (PairRest given part) (PairRest given next) byte not_space f h.0 rest h.2),
    λ h. (h.0, h.1, pairs_taken_from given (PairRest given part) (PairRest given next) byte not_space f h.0 rest h.2),
  ),
)

begun : (given : LimitPairs) (P : List ℕ → LimitKey × Limit → Type 0) (ps : List (LimitKey × Limit)) (byte : ℕ) (text : List ℕ) → PairsRest given P ps (byte ∷ text) →
    (p : LimitKey × Limit) × (((x : List ℕ) × P (byte ∷ x) p) ⊎ (P [] p × (byte ≡ 32) × (k : LimitKey) × IsTrue (is_free k (with_limit (p.0) (p.1) given))))
begun given P [] byte text h = absurd h
begun given P (p ∷ []) byte text h = (p, elim (cut_begun (λ x. P x p) (λ x. P x p) (AfterPair (with_limit (p.0) (p.1) given) []) byte text h) [ inl k ↦ inl k | inr k ↦ absurd (let e = k.1 in cc) ])
begun given P (p ∷ q ∷ ps) byte text h = (
  p,
  elim (cut_begun (λ x. P x p) (λ x. P x p) (AfterPair (with_limit (p.0) (p.1) given) (q ∷ ps)) byte text h) [
    | inl k ↦ inl k
    | inr k ↦ inr (k.0, heads byte 32 text k.1.0 k.1.1, q.0, k.1.2.3.0)
  ],
)

-- A key, one byte further.
new_pair_at : (given : LimitPairs) (p : LimitKey × Limit) (x y : List ℕ) → x ≡ y → IsNewPair given p x → IsNewPair given p y
new_pair_at given p x y e h = rw (← e) h

one_more : (xs ys x : List ℕ) (byte : ℕ) → ys ≡ xs ++ byte ∷ [] → ys ++ x ≡ xs ++ byte ∷ x
one_more xs ys x byte e = ap (λ z. z ++ x) e ∙ append_assoc xs (byte ∷ []) x

not_space_key : (xs ys : List ℕ) (byte : ℕ) → ys ≡ xs ++ byte ∷ [] → are_above 32 ys ≡ true → byte ≡ 32 → ⊥
not_space_key xs ys byte e h s = absurd (omega (arith, s, (above_parts 32 byte [] (above_back 32 xs (byte ∷ []) (rw e at h))).0))

key_byte : (given : LimitPairs) (like key : LimitKey) (at byte : ℕ) → GoesOn given like at byte key → byte ≡ 32 → ⊥
key_byte given like key at byte g s =
    let front : are_above 32 (take (suc at) (key_start key)) ≡ true = above_front 32 (suc at) (key_start key) (start_above key) in
    not_space_key (take at (key_start like)) (take (suc at) (key_start key)) byte g.1 front s

pub key_next : (given : LimitPairs) (like key : LimitKey) (at next byte : ℕ) → next ≡ suc at → next < length (key_start key) → GoesOn given like at byte key → IsNextPart given (InKey like at) byte given (InKey key next)
key_next given like key at next byte e lt g = rw e (
    taken given (InKey like at) (InKey key (suc at)) byte (key_byte given like key at byte g)
    (and_from _ _ g.0 (lt-ltb (suc at) (length (key_start key)) (rw e at lt)))
    (λ x p. (let same : take (suc at) (key_start key) ++ x ≡ take at (key_start like) ++ byte ∷ x = one_more (take at (key_start like)) (take (suc at) (key_start key)) x byte g.1 in (
      new_pair_at given p (take (suc at) (key_start key) ++ x) (take at (key_start like) ++ byte ∷ x) same,
      new_pair_at given p (take at (key_start like) ++ byte ∷ x) (take (suc at) (key_start key) ++ x) (sym same),
    ))))

free_at : (given : LimitPairs) (j k : LimitKey) → j ≡ k → is_free k given ≡ true → is_free j given ≡ true
free_at given j k e h = rw e h

start_at : (j k : LimitKey) (x y : List ℕ) → j ≡ k → y ≡ key_start k ++ x → y ≡ key_text j ++ 61 ∷ x
start_at j k x y e f = rw e (f ∙ start_text k x)

pub key_whole : (given : LimitPairs) (like key : LimitKey) (at byte : ℕ) → length (key_start key) ≡ suc at → GoesOn given like at byte key → IsNextPart given (InKey like at) byte given (InLimit key Start)
key_whole given like key at byte e g =
    let whole : key_start key ≡ take at (key_start like) ++ byte ∷ [] = sym (take_all (suc at) (key_start key) (omega (arith, e))) ∙ g.1 in
    taken given (InKey like at) (InLimit key Start) byte (key_byte given like key at byte g) g.0
    (λ x p. (let same : take at (key_start like) ++ byte ∷ x ≡ key_start key ++ x = sym (one_more (take at (key_start like)) (key_start key) x byte whole) in (
      λ h. (free_at given (p.0) key h.0 g.0, (x, start_at (p.0) key x (take at (key_start like) ++ byte ∷ x) h.0 same, h.1)),
      λ h. (let s = start_split (p.0) key h.1.0 x (sym h.1.1 ∙ same ∙ start_text key x) in (s.0, rw s.1 at h.1.2)),
    )))

pub key_refuses : (given : LimitPairs) (like : LimitKey) (at byte : ℕ) → is_live given (InKey like at) ≡ true →
    ((key : LimitKey) → GoesOn given like at byte key → ⊥) → (rest : List ℕ) (v : LimitPairs) →
    LimitsRest given (InKey like at) (byte ∷ rest) v → ⊥
key_refuses given like at byte live none rest v h =
    let b = begun given (PairRest given (InKey like at)) h.0 byte rest h.2 in
    elim b.1 [
      | inl k ↦ none (b.0.0) (key_refused given like at byte k.0 b.0 live k.1)
      | inr k ↦ key_not_whole given like at b.0 live k.0
    ]

-- A limit, one byte further.
pub limit_next : (given : LimitPairs) (key : LimitKey) (part next : LimitPart) (byte : ℕ) →
    is_free key given ≡ true → (byte ≡ 32 → ⊥) →
    ((x : List ℕ) (v : Limit) → LimitRest next x v ↔ LimitRest part (byte ∷ x) v) →
    IsNextPart given (InLimit key part) byte given (InLimit key next)
limit_next given key part next byte free not_space f =
    taken given (InLimit key part) (InLimit key next) byte not_space free (λ x p. (λ h. (h.0, (f x (p.1)).0 h.1), λ h. (h.0, (f x (p.1)).1 h.1)))

pub limit_refuses : (given : LimitPairs) (key : LimitKey) (part : LimitPart) (byte : ℕ) → (byte ≡ 32 → ⊥) →
    ((x : List ℕ) (v : Limit) → LimitRest part (byte ∷ x) v → ⊥) → (rest : List ℕ) (v : LimitPairs) →
    LimitsRest given (InLimit key part) (byte ∷ rest) v → ⊥
limit_refuses given key part byte not_space f rest v h =
    let b = begun given (PairRest given (InLimit key part)) h.0 byte rest h.2 in
    elim b.1 [ inl k ↦ f k.0 (b.0.1) k.1.1 | inr k ↦ not_space k.1 ]

no_space : (part : LimitPart) (x : List ℕ) (v : Limit) → LimitRest part (32 ∷ x) v → ⊥
no_space part x v h = absurd (omega (arith, (above_parts 32 32 x (rest_above part (32 ∷ x) v h)).0))

-- A space after a limit.
pub open_refuses : (given : LimitPairs) (key : LimitKey) (part : LimitPart) → limit_ends part ≡ false → (rest : List ℕ) (v : LimitPairs) → LimitsRest given (InLimit key part) (32 ∷ rest) v → ⊥
open_refuses given key part e rest v h =
    let b = begun given (PairRest given (InLimit key part)) h.0 32 rest h.2 in
    elim b.1 [ inl k ↦ no_space part k.0 (b.0.1) k.1.1 | inr k ↦ absurd (let t : limit_ends part ≡ true = (limit_ends_is part).1 (b.0.1, k.0.1) in cc) ]

value_same : (key : LimitKey) (part : LimitPart) (limit : Limit) (p : LimitKey × Limit) → LimitRest part [] limit → (p.0 ≡ key) × LimitRest part [] (p.1) → p ≡ (key, limit)
value_same key part limit p value h = pairs_same p (key, limit) h.0 (limit_rest_one part [] (p.1) limit h.1 value)

pub full_refuses : (given all : LimitPairs) (key : LimitKey) (part : LimitPart) (limit : Limit) →
    all ≡ with_limit key limit given → LimitRest part [] limit → ((k : LimitKey) → is_free k all ≡ false) →
    (rest : List ℕ) (v : LimitPairs) → LimitsRest given (InLimit key part) (32 ∷ rest) v → ⊥
full_refuses given all key part limit e value none rest v h =
    let b = begun given (PairRest given (InLimit key part)) h.0 32 rest h.2 in
    elim b.1 [
      | inl k ↦ no_space part k.0 (b.0.1) k.1.1
      | inr k ↦ absurd (
          let same : b.0 ≡ (key, limit) = value_same key part limit b.0 value k.0 in
          let Q : LimitKey × Limit → Type 0 = λ z. is_free k.2 (with_limit (z.0) (z.1) given) ≡ true in
          let t : is_free k.2 (with_limit key limit given) ≡ true = subst Q same k.3 in
          let f : is_free k.2 (with_limit key limit given) ≡ false = rw e at (none k.2) in
          cc)
    ]

pub after_more : (all : LimitPairs) (next : LimitKey) (us : List (LimitKey × Limit)) (rest : List ℕ) → AfterPair all us (32 ∷ rest) ↔ PairsRest all (PairRest all (InKey next 0)) us rest
after_more all next [] rest = (λ h. absurd (cc), λ h. absurd h)
after_more all next (p ∷ us) rest = (λ h. (let e : h.0 ≡ rest = sym (tails 32 32 rest h.0 h.1) in rw e at h.2), λ h. (rest, refl, h))

close_from : (given : LimitPairs) (key next : LimitKey) (part : LimitPart) (limit : Limit) →
    LimitRest part [] limit → (ps : List (LimitKey × Limit)) (rest : List ℕ) (v : LimitPairs) →
    v ≡ with_pairs given ps → PairsRest given (PairRest given (InLimit key part)) ps (32 ∷ rest) →
    LimitsRest (with_limit key limit given) (InKey next 0) rest v
close_from given key next part limit value [] rest v e h = absurd h
close_from given key next part limit value (p ∷ ps) rest v e h = elim (cut_begun (λ x. PairRest given (InLimit key part) x p) (λ x. PairRest given (InLimit key part) x p) (AfterPair (with_limit (p.0) (p.1) given) ps) 32 rest h) [
  | inl k ↦ absurd (no_space part k.0 (p.1) k.1.1)
  | inr k ↦ (
      let Q : LimitKey × Limit → Type 0 = λ z. LimitsRest (with_limit (z.0) (z.1) given) (InKey next 0) rest v in
      let r : LimitsRest (with_limit (p.0) (p.1) given) (InKey next 0) rest v = (ps, e, (after_more (with_limit (p.0) (p.1) given) next ps rest).0 k.1) in
      subst Q (value_same key part limit p value k.0) r)
]

pub close_next : (given all : LimitPairs) (key next : LimitKey) (part : LimitPart) (limit : Limit) →
    all ≡ with_limit key limit given → LimitRest part [] limit → is_free next all ≡ true →
    IsNextPart given (InLimit key part) 32 all (InKey next 0)
close_next given all key next part limit e value free = (
  and_from _ _ free (start_some next),
  λ rest v. rw e (
    λ h. ((key, limit) ∷ h.0, h.1, ([], 32 ∷ rest, refl, (refl, value), (after_more (with_limit key limit given) next h.0 rest).1 h.2)),
    λ h. close_from given key next part limit value h.0 rest v h.1 h.2,
  ),
)

-- Every state can be completed.
take_drop : (k : ℕ) (xs : List ℕ) → take k xs ++ drop k xs ≡ xs
take_drop zero xs = refl
take_drop (suc k) [] = refl
take_drop (suc k) (x ∷ xs) = ap (λ z. x ∷ z) (take_drop k xs)

completed : (given : LimitPairs) (part : PairPart) (p : LimitKey × Limit) (rest : List ℕ) → PairRest given part rest p → (text : List ℕ) × (v : LimitPairs) × LimitsRest given part text v
completed given part p rest h = (rest, with_pairs given (p ∷ []), (p ∷ [], refl, (rest, [], sym (append_nil rest), h, refl)))

pub limits_complete : (given : LimitPairs) (part : PairPart) → is_live given part ≡ true → (rest : List ℕ) × (v : LimitPairs) × LimitsRest given part rest v
limits_complete given (InKey key at) live =
    let rest : List ℕ = drop at (key_start key) ++ codes "max" in
    let whole : take at (key_start key) ++ rest ≡ key_text key ++ 61 ∷ codes "max" =
    sym (append_assoc (take at (key_start key)) (drop at (key_start key)) (codes "max")) ∙ ap (λ z. z ++ codes "max") (take_drop at (key_start key)) ∙ start_text key (codes "max") in
    completed given (InKey key at) (key, Max) rest ((live_parts given key at live).0, (codes "max", whole, refl))
limits_complete given (InLimit key part) live = let k = limit_completes part in completed given (InLimit key part) (key, k.1) k.0 (refl, k.2)

-- Nothing need follow exactly where the empty rest has a value.
pairs_nil : (given : LimitPairs) (P : List ℕ → LimitKey × Limit → Type 0) (ps : List (LimitKey × Limit)) → PairsRest given P ps [] → (p : LimitKey × Limit) × P [] p
pairs_nil given P [] h = absurd h
pairs_nil given P (p ∷ ps) h = (p, (cut_nil (λ x. P x p) (AfterPair (with_limit (p.0) (p.1) given) ps) h).0)

pub limits_value : (given : LimitPairs) (key : LimitKey) (part : LimitPart) (limit : Limit) → LimitRest part [] limit → LimitsRest given (InLimit key part) [] (with_limit key limit given)
limits_value given key part limit value = ((key, limit) ∷ [], refl, ([], [], refl, (refl, value), refl))

pub limits_end_is : (given : LimitPairs) (part : PairPart) → is_live given part ≡ true → IsTrue (limits_end part) ↔ ((v : LimitPairs) × LimitsRest given part [] v)
limits_end_is given (InKey key at) live = (λ e. absurd (cc), λ h. absurd (let n = pairs_nil given (PairRest given (InKey key at)) h.1.0 h.1.2 in key_not_whole given key at n.0 live n.1))
limits_end_is given (InLimit key part) live = (
  λ e. (let k = (limit_ends_is part).0 e in (with_limit key k.0 given, limits_value given key part k.0 k.1)),
  λ h. (let n = pairs_nil given (PairRest given (InLimit key part)) h.1.0 h.1.2 in (limit_ends_is part).1 (n.0.1, n.1.1)),
)

-- A rest has one value.
cut_one : (given : LimitPairs) (P : List ℕ → LimitKey × Limit → Type 0) → ((x : List ℕ) (p : LimitKey × Limit) → P x p → are_above 32 x ≡ true) → ((x : List ℕ) (p q : LimitKey × Limit) → P x p → P x q → p ≡ q) →
    (p q : LimitKey × Limit) (ps qs : List (LimitKey × Limit)) (text : List ℕ) → Cut (λ x. P x p) (AfterPair (with_limit (p.0) (p.1) given) ps) text → Cut (λ x. P x q) (AfterPair (with_limit (q.0) (q.1) given) qs) text →
    (p ≡ q) × (u : List ℕ) × AfterPair (with_limit (p.0) (p.1) given) ps u × AfterPair (with_limit (p.0) (p.1) given) qs u
cut_one given P above one p q ps qs text h k =
    let s = split_above 32 h.0 h.1 k.0 k.1 (above h.0 p h.3) (above k.0 q k.3) (after_stops (with_limit (p.0) (p.1) given) ps h.1 h.4) (after_stops (with_limit (q.0) (q.1) given) qs k.1 k.4) (sym h.2 ∙ k.2) in
    let e : p ≡ q = one h.0 p q h.3 (rw (← s.0) at k.3) in
    let Q : LimitKey × Limit → Type 0 = λ z. AfterPair (with_limit (z.0) (z.1) given) qs h.1 in
    (e, h.1, h.4, subst Q (sym e) (rw (← s.1) at k.4))

new_above : (given : LimitPairs) (x : List ℕ) (p : LimitKey × Limit) → IsNewPair given p x → are_above 32 x ≡ true
new_above given x p h = pair_above p x h.1

new_one : (given : LimitPairs) (x : List ℕ) (p q : LimitKey × Limit) → IsNewPair given p x → IsNewPair given q x → p ≡ q
new_one given x p q h k = pair_one p q x h.1 k.1

after_one : (given : LimitPairs) (ps qs : List (LimitKey × Limit)) (text : List ℕ) → AfterPair given ps text → AfterPair given qs text → ps ≡ qs
after_one given [] [] text h k = refl
after_one given [] (q ∷ qs) text h k = absurd (let e = k.1 in cc)
after_one given (p ∷ ps) [] text h k = absurd (let e = h.1 in cc)
after_one given (p ∷ ps) (q ∷ qs) text h k =
    let same : h.0 ≡ k.0 = tails 32 32 h.0 k.0 (sym h.1 ∙ k.1) in
    let o = cut_one given (λ x z. IsNewPair given z x) (new_above given) (new_one given) p q ps qs h.0 h.2 (rw (← same) at k.2) in
    let rest : ps ≡ qs = after_one (with_limit (p.0) (p.1) given) ps qs o.1 o.2 o.3 in
    let e : p ≡ q = o.0 in
    cc

pairs_one : (given : LimitPairs) (part : PairPart) (ps qs : List (LimitKey × Limit)) (text : List ℕ) → PairsRest given (PairRest given part) ps text → PairsRest given (PairRest given part) qs text → ps ≡ qs
pairs_one given part [] qs text h k = absurd h
pairs_one given part (p ∷ ps) [] text h k = absurd k
pairs_one given part (p ∷ ps) (q ∷ qs) text h k =
    let o = cut_one given (PairRest given part) (part_above given part) (part_one given part) p q ps qs text h k in
    let rest : ps ≡ qs = after_one (with_limit (p.0) (p.1) given) ps qs o.1 o.2 o.3 in
    let e : p ≡ q = o.0 in
    cc

pub limits_one : (given : LimitPairs) (part : PairPart) (text : List ℕ) (v w : LimitPairs) → LimitsRest given part text v → LimitsRest given part text w → v ≡ w
limits_one given part text v w h k = h.1 ∙ ap (λ ps. with_pairs given ps) (pairs_one given part h.0 k.0 text h.2 k.2) ∙ sym k.1

-- A rest holds bytes.
after_bytes : (given : LimitPairs) (ps : List (LimitKey × Limit)) (text : List ℕ) → AfterPair given ps text → AreBytes text
after_bytes given [] text h = rw h tt
after_bytes given (p ∷ ps) text h = rw h.1 (omega arith, cut_bytes (IsNewPair given p) (AfterPair (with_limit (p.0) (p.1) given) ps) (λ x k. above_bytes 32 x (new_above given x p k)) (after_bytes (with_limit (p.0) (p.1) given) ps) h.0 h.2)

pairs_bytes : (given : LimitPairs) (part : PairPart) (ps : List (LimitKey × Limit)) (text : List ℕ) → PairsRest given (PairRest given part) ps text → AreBytes text
pairs_bytes given part [] text h = absurd h
pairs_bytes given part (p ∷ ps) text h = cut_bytes (λ x. PairRest given part x p) (AfterPair (with_limit (p.0) (p.1) given) ps) (λ x k. above_bytes 32 x (part_above given part x p k)) (after_bytes (with_limit (p.0) (p.1) given) ps) text h

pub limits_bytes : (given : LimitPairs) (part : PairPart) (text : List ℕ) (v : LimitPairs) → LimitsRest given part text v → AreBytes text
limits_bytes given part text v h = pairs_bytes given part h.0 text h.2

-- The definition, from left to right.
abbrev limit_at : LimitKey → LimitPairs → Option Limit
limit_at Rbps v = v.rbps
limit_at Wbps v = v.wbps
limit_at Riops v = v.riops
limit_at Wiops v = v.wiops

abbrev or_else : Option Limit → Option Limit → Option Limit
or_else (Some l) o = Some l
or_else None o = o

at_with : (k j : LimitKey) (l : Limit) (v : LimitPairs) → limit_at k (with_limit j l v) ≡ cond (is_key k j) (Some l) (limit_at k v)
at_with Rbps Rbps l v = refl
at_with Rbps Wbps l v = refl
at_with Rbps Riops l v = refl
at_with Rbps Wiops l v = refl
at_with Wbps Rbps l v = refl
at_with Wbps Wbps l v = refl
at_with Wbps Riops l v = refl
at_with Wbps Wiops l v = refl
at_with Riops Rbps l v = refl
at_with Riops Wbps l v = refl
at_with Riops Riops l v = refl
at_with Riops Wiops l v = refl
at_with Wiops Rbps l v = refl
at_with Wiops Wbps l v = refl
at_with Wiops Riops l v = refl
at_with Wiops Wiops l v = refl

free_is : (k : LimitKey) (v : LimitPairs) → is_free k v ≡ is_none (limit_at k v)
free_is Rbps v = refl
free_is Wbps v = refl
free_is Riops v = refl
free_is Wiops v = refl

key_same : (k j : LimitKey) → is_key k j ≡ true → k ≡ j
key_same Rbps Rbps e = refl
key_same Rbps Wbps e = absurd (cc)
key_same Rbps Riops e = absurd (cc)
key_same Rbps Wiops e = absurd (cc)
key_same Wbps Rbps e = absurd (cc)
key_same Wbps Wbps e = refl
key_same Wbps Riops e = absurd (cc)
key_same Wbps Wiops e = absurd (cc)
key_same Riops Rbps e = absurd (cc)
key_same Riops Wbps e = absurd (cc)
key_same Riops Riops e = refl
key_same Riops Wiops e = absurd (cc)
key_same Wiops Rbps e = absurd (cc)
key_same Wiops Wbps e = absurd (cc)
key_same Wiops Riops e = absurd (cc)
key_same Wiops Wiops e = refl

key_itself : (k : LimitKey) → is_key k k ≡ true
key_itself Rbps = refl
key_itself Wbps = refl
key_itself Riops = refl
key_itself Wiops = refl

key_back : (k j : LimitKey) → is_key k j ≡ false → is_key j k ≡ false
key_back k j e =
    let here : (b : Bool) → is_key j k ≡ b → is_key j k ≡ false =
    elim [ true ↦ λ t. absurd (let s : j ≡ k = key_same j k t in let u : is_key k j ≡ true = rw s (key_itself k) in cc) | false ↦ λ f. f ] in
    here (is_key j k) refl

-- What the pairs give.
given_at : (k : LimitKey) (ps : List (LimitKey × Limit)) (v : LimitPairs) → HasDistinctKeys ps → limit_at k (with_pairs v ps) ≡ or_else (limit_of k ps) (limit_at k v)
given_at k [] v d = refl
given_at k (p ∷ ps) v d =
    let more : limit_at k (with_pairs (with_limit (p.0) (p.1) v) ps) ≡ or_else (limit_of k ps) (limit_at k (with_limit (p.0) (p.1) v)) = given_at k ps (with_limit (p.0) (p.1) v) d.1 in
    let put : limit_at k (with_limit (p.0) (p.1) v) ≡ cond (is_key k (p.0)) (Some (p.1)) (limit_at k v) = at_with k (p.0) (p.1) v in
    let here : (b : Bool) → is_key k (p.0) ≡ b → limit_at k (with_pairs (with_limit (p.0) (p.1) v) ps) ≡ or_else (cond b (Some (p.1)) (limit_of k ps)) (limit_at k v) =
    elim [
      | true ↦ λ t. (
          let none : limit_of k ps ≡ None = rw (key_same k (p.0) t) d.0 in
          let put' : limit_at k (with_limit (p.0) (p.1) v) ≡ Some (p.1) = rw t at put in
          more ∙ ap (λ o. or_else o (limit_at k (with_limit (p.0) (p.1) v))) none ∙ put')
      | false ↦ λ f. (let put' : limit_at k (with_limit (p.0) (p.1) v) ≡ limit_at k v = rw f at put in more ∙ ap (λ o. or_else (limit_of k ps) o) put')
    ] in
    here (is_key k (p.0)) refl

-- No pair's key is given.
abbrev AreFree : LimitPairs → List (LimitKey × Limit) → Type 0
AreFree v [] = Unit {0}
AreFree v (p ∷ ps) = (is_free (p.0) v ≡ true) × AreFree v ps

free_with : (k j : LimitKey) (l : Limit) (v : LimitPairs) → is_free k (with_limit j l v) ≡ true ↔ ((is_key j k ≡ false) × (is_free k v ≡ true))
free_with k j l v =
    let put : is_free k (with_limit j l v) ≡ is_none (cond (is_key k j) (Some l) (limit_at k v)) = free_is k (with_limit j l v) ∙ ap is_none (at_with k j l v) in
    let here : (b : Bool) → is_key k j ≡ b → is_free k (with_limit j l v) ≡ true ↔ ((is_key j k ≡ false) × (is_free k v ≡ true)) =
    elim [
      | true ↦ λ t. (
          let put' : is_free k (with_limit j l v) ≡ false = rw t at put in
          let back : is_key j k ≡ true = rw (key_same k j t) (key_itself j) in
          (λ h. absurd (cc), λ h. absurd (let f : is_key j k ≡ false = h.0 in cc)))
      | false ↦ λ f. (
          let put' : is_free k (with_limit j l v) ≡ is_free k v = (rw f at put) ∙ sym (free_is k v) in
          (λ h. (key_back k j f, sym put' ∙ h), λ h. put' ∙ h.1))
    ] in
    here (is_key k j) refl

are_free_to : (p : LimitKey × Limit) (ps : List (LimitKey × Limit)) (v : LimitPairs) → AreFree (with_limit (p.0) (p.1) v) ps → (limit_of (p.0) ps ≡ None) × AreFree v ps
are_free_to p [] v h = (refl, tt)
are_free_to p (q ∷ qs) v h =
    let more = are_free_to p qs v h.1 in
    let here = (free_with (q.0) (p.0) (p.1) v).0 h.0 in
    (rw here.0 more.0, (here.1, more.1))

some_not_none : (l : Limit) → Some l ≡ None → ⊥
some_not_none l e = cc

are_free_from : (p : LimitKey × Limit) (ps : List (LimitKey × Limit)) (v : LimitPairs) → limit_of (p.0) ps ≡ None → AreFree v ps → AreFree (with_limit (p.0) (p.1) v) ps
are_free_from p [] v e h = tt
are_free_from p (q ∷ qs) v e h =
    let here : (b : Bool) → is_key (p.0) (q.0) ≡ b → (is_key (p.0) (q.0) ≡ false) × (limit_of (p.0) qs ≡ None) =
    elim [ true ↦ λ t. absurd (some_not_none (q.1) (rw t at e)) | false ↦ λ f. (f, rw f at e) ] in
    let k = here (is_key (p.0) (q.0)) refl in
    ((free_with (q.0) (p.0) (p.1) v).1 (k.0, h.0), are_free_from p qs v k.1 h.1)

-- Pairs to come, as whole texts.
texts_to : (v : LimitPairs) (ps : List (LimitKey × Limit)) (text : List ℕ) → PairsRest v (λ x p. IsNewPair v p x) ps text → AreLimitPairs ps text × HasDistinctKeys ps × AreFree v ps
texts_to v [] text h = absurd h
texts_to v (p ∷ []) text h =
    let e : text ≡ h.0 = h.2 ∙ ap (λ y. h.0 ++ y) h.4 ∙ append_nil h.0 in
    (rw e h.3.1, (refl, tt), (h.3.0, tt))
texts_to v (p ∷ q ∷ ps) text h =
    let more = texts_to (with_limit (p.0) (p.1) v) (q ∷ ps) h.4.0 h.4.2 in
    let free = are_free_to p (q ∷ ps) v more.2 in
    ((h.0, h.4.0, h.2 ∙ ap (λ y. h.0 ++ y) h.4.1, h.3.1, more.0), (free.0, more.1), (h.3.0, free.1))

texts_from : (v : LimitPairs) (ps : List (LimitKey × Limit)) (text : List ℕ) → AreLimitPairs ps text → HasDistinctKeys ps → AreFree v ps → PairsRest v (λ x p. IsNewPair v p x) ps text
texts_from v [] text h d f = h
texts_from v (p ∷ []) text h d f = (text, [], sym (append_nil text), (f.0, h), refl)
texts_from v (p ∷ q ∷ ps) text h d f =
    (h.0, 32 ∷ h.1, h.2, (f.0, h.3), (h.1, refl, texts_from (with_limit (p.0) (p.1) v) (q ∷ ps) h.1 h.4 d.1 (are_free_from p (q ∷ ps) v d.0 f.1)))

abbrev pub no_limits : LimitPairs
no_limits = record { rbps = None; wbps = None; riops = None; wiops = None }

key_free : (k : LimitKey) → is_free k no_limits ≡ true
key_free Rbps = refl
key_free Wbps = refl
key_free Riops = refl
key_free Wiops = refl

all_free : (ps : List (LimitKey × Limit)) → AreFree no_limits ps
all_free [] = tt
all_free (p ∷ ps) = (key_free (p.0), all_free ps)

or_none : (o : Option Limit) → or_else o None ≡ o
or_none (Some l) = refl
or_none None = refl

abbrev limits : Option Limit → Option Limit → Option Limit → Option Limit → LimitPairs
limits a b c d = record { rbps = a; wbps = b; riops = c; wiops = d }

limits_same : (a b c d a' b' c' d' : Option Limit) → a ≡ a' → b ≡ b' → c ≡ c' → d ≡ d' → limits a b c d ≡ limits a' b' c' d'
limits_same a b c d a' b' c' d' e f g h = rw (e, f, g, h) refl

each_same : (v w : LimitPairs) → v.rbps ≡ w.rbps → v.wbps ≡ w.wbps → v.riops ≡ w.riops → v.wiops ≡ w.wiops → v ≡ w
each_same v w e f g h = limits_same v.rbps v.wbps v.riops v.wiops w.rbps w.wbps w.riops w.wiops e f g h

-- A new token.
pub limits_new : (text : List ℕ) (v : LimitPairs) → LimitsRest no_limits (InKey Rbps 0) text v ↔ AreLimits v text
limits_new text v = (
  λ h. (
      let t = texts_to no_limits h.0 text h.2 in
      let field : (k : LimitKey) → limit_at k v ≡ or_else (limit_of k h.0) (limit_at k no_limits) = λ k. ap (limit_at k) h.1 ∙ given_at k h.0 no_limits t.1 in
      record {
        pairs = h.0;
        spelled = t.0;
        distinct = t.1;
        rbps = field Rbps ∙ or_none (limit_of Rbps h.0);
        wbps = field Wbps ∙ or_none (limit_of Wbps h.0);
        riops = field Riops ∙ or_none (limit_of Riops h.0);
        wiops = field Wiops ∙ or_none (limit_of Wiops h.0);
      }),
  λ h. (
      let w : LimitPairs = with_pairs no_limits h.pairs in
      let field : (k : LimitKey) → limit_at k w ≡ or_else (limit_of k h.pairs) (limit_at k no_limits) = λ k. given_at k h.pairs no_limits h.distinct in
      let same : v ≡ w = each_same v w
      (h.rbps ∙ sym (field Rbps ∙ or_none (limit_of Rbps h.pairs)))
      (h.wbps ∙ sym (field Wbps ∙ or_none (limit_of Wbps h.pairs)))
      (h.riops ∙ sym (field Riops ∙ or_none (limit_of Riops h.pairs)))
      (h.wiops ∙ sym (field Wiops ∙ or_none (limit_of Wiops h.pairs))) in
      (h.pairs, same, texts_from no_limits h.pairs text h.spelled h.distinct (all_free h.pairs))),
)

pub goes_on_within : (given : LimitPairs) (like key : LimitKey) (at byte : ℕ) → is_live given (InKey like at) ≡ true → GoesOn given like at byte key → at < length (key_start key)
goes_on_within given like key at byte live g =
    let l = live_parts given like at live in
    (goes_on_from (key_start key) (key_start like) at byte (omega (arith, l.1)) g.1).0

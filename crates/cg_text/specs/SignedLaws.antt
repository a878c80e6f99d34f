-- What holds of what is left of a signed number.
use Rattle.std.proofs.Common.{◌≡◌, ℕ, suc, zero, ◌↔◌, ℤ, pos, negsuc, Option, Some, None, List, [], ◌∷◌, IsTrue, arith, refl, sym, ◌∙◌, ap}
use Rattle.std.proofs.Props.{props}
use Rattle.cg_text.specs.DecimalLaws.{IsDecimalRest_one, decimal_ends_is, number_digits, digits_bytes}
use Rattle.cg_text.specs.Token.{AreBytes, Follows}
use Rattle.cg_text.specs.ListFacts.{tails}
use Rattle.cg_text.specs.NumberRest.{number_rest, maybe_rest}
use Rattle.cg_text.specs.NumberRestLaws.{number_completes, maybe_digits, digit_begins, maybe_one, maybe_ends_is}
use Rattle.cg_text.specs.SignedState.{SignedRest, AreWithin, IsBounded, is_live, signed_ends}
use Rattle.cg_text.specs.declared.decimal.DecimalText.{DecimalText}
use Rattle.cg_text.specs.declared.signed.Taken.{Taken}
use Rattle.cg_text.specs.declared.signed.Taken.TheVariants.{Plain, Negative}

pub IsBounded_prop : (t : Taken) → IsProp (IsBounded t)
IsBounded_prop (Plain digits magnitude) = hlevel props
IsBounded_prop (Negative magnitude) = hlevel props

-- A number above 0 is the magnitude of one below 0.
below_zero : (P : List ℕ → ℕ → Type 0) → AreWithin 1 9223372036854775808 P → (rest : List ℕ) (n : ℕ) → P rest n → (m : ℕ) × P rest (suc m)
below_zero P b rest zero h = absurd (omega (arith, (b rest zero h).0))
below_zero P b rest (suc m) h = (m, h)

pub signed_completes : (t : Taken) → IsBounded t → IsTrue (is_live t) → (rest : List ℕ) × (z : ℤ) × SignedRest t rest z
signed_completes (Plain (Some d) magnitude) b e = let c = number_completes d in (c.0, pos c.1, c.2)
signed_completes (Plain None (Some d)) b e =
    let c = number_completes d in
    let m = below_zero (number_rest d) b.1 c.0 c.1 c.2 in
    (45 ∷ c.0, negsuc m.0, (c.0, refl, m.1))
signed_completes (Plain None None) b e = absurd (cc)
signed_completes (Negative d) b e =
    let c = number_completes d in
    let m = below_zero (number_rest d) b c.0 c.1 c.2 in
    (c.0, negsuc m.0, m.1)

-- No number without a minus sign begins with one.
no_minus : (p : Option DecimalText) (rest more : List ℕ) (n : ℕ) → rest ≡ 45 ∷ more → maybe_rest p rest n → ⊥
no_minus p rest more n e h = omega (arith, (digit_begins p 45 more n (rw e at h)).0)

pub signed_one : (t : Taken) (rest : List ℕ) (v w : ℤ) → SignedRest t rest v → SignedRest t rest w → v ≡ w
signed_one (Plain p q) rest (pos m) (pos n) h k = ap pos (maybe_one p rest m n h k)
signed_one (Plain p q) rest (pos m) (negsuc n) h k = absurd (no_minus p rest k.0 m k.1 h)
signed_one (Plain p q) rest (negsuc m) (pos n) h k = absurd (no_minus p rest h.0 n h.1 k)
signed_one (Plain p q) rest (negsuc m) (negsuc n) h k =
    let same : h.0 ≡ k.0 = tails 45 45 h.0 k.0 (sym h.1 ∙ k.1) in
    let e : suc m ≡ suc n = maybe_one q h.0 (suc m) (suc n) h.2 (rw (← same) at k.2) in
    let f : m ≡ n = omega (arith, e) in
    ap negsuc f
signed_one (Negative d) rest (pos m) w h k = absurd h
signed_one (Negative d) rest (negsuc m) (pos n) h k = absurd k
signed_one (Negative d) rest (negsuc m) (negsuc n) h k =
    let e : suc m ≡ suc n = IsDecimalRest_one d.lo d.hi d.progress rest (suc m) (suc n) h k in
    let f : m ≡ n = omega (arith, e) in
    ap negsuc f

not_nil : (more : List ℕ) → [] ≡ 45 ∷ more → ⊥
not_nil more e = cc

signed_ended : (t : Taken) → (z : ℤ) × SignedRest t [] z → IsTrue (signed_ends t)
signed_ended (Plain p q) (pos n, h) = (maybe_ends_is p).1 (n, h)
signed_ended (Plain p q) (negsuc n, h) = absurd (not_nil h.0 h.1)
signed_ended (Negative d) (pos n, h) = absurd h
signed_ended (Negative d) (negsuc n, h) = (decimal_ends_is d.lo d.hi d.progress).1 (suc n, h)

ended_signed : (t : Taken) → IsBounded t → IsTrue (signed_ends t) → (z : ℤ) × SignedRest t [] z
ended_signed (Plain p q) b e = let n = (maybe_ends_is p).0 e in (pos n.0, n.1)
ended_signed (Negative d) b e =
    let n = (decimal_ends_is d.lo d.hi d.progress).0 e in
    let m = below_zero (number_rest d) b [] n.0 n.1 in
    (negsuc m.0, m.1)

-- Nothing need follow exactly where the empty rest has a number.
pub signed_ends_is : (t : Taken) → IsBounded t → IsTrue (signed_ends t) ↔ ((z : ℤ) × SignedRest t [] z)
signed_ends_is t b = (ended_signed t b, signed_ended t)

-- A rest holds bytes.
pub signed_bytes : (t : Taken) (rest : List ℕ) (z : ℤ) → SignedRest t rest z → AreBytes rest
signed_bytes (Plain p q) rest (pos n) h = digits_bytes rest (maybe_digits p rest n h)
signed_bytes (Plain p q) rest (negsuc n) h = rw h.1 (omega arith, digits_bytes h.0 (maybe_digits q h.0 (suc n) h.2))
signed_bytes (Negative d) rest (pos n) h = absurd h
signed_bytes (Negative d) rest (negsuc n) h = digits_bytes rest (number_digits d.lo d.hi d.progress rest (suc n) h)

-- The bounds after a digit.
pub within_follows : (low high : ℕ) (d new : DecimalText) (byte : ℕ) → Follows number_rest d byte new → AreWithin low high (number_rest d) → AreWithin low high (number_rest new)
within_follows low high d new byte f b rest n h = b (byte ∷ rest) n ((f rest n).0 h)

pub within_none : (low high : ℕ) → AreWithin low high (maybe_rest None)
within_none low high rest n h = absurd h

-- What holds of what is left of a size.
use Rattle.std.proofs.Common.{◌≡◌, ℕ, ◌*◌, ◌^◌, ◌≤◌, ◌<◌, ◌↔◌, inl, inr, cond, ◌||◌, eqb, Option, Some, None, List, [], ◌∷◌, ◌++◌, IsTrue, arith, refl, sym, ◌∙◌, ap}
use Rattle.std.specs.Prelude.{SomeIff, MatchOption}
use Rattle.std.proofs.Props.{props}
use Rattle.std.specs.Coded.{Unit-prop}
use Rattle.cg_text.specs.Decimal.{AreDigits}
use Rattle.cg_text.specs.Size.{HasFactor}
use Rattle.cg_text.specs.DecimalLaws.{IsDecimalRest_one, decimal_ends_is, number_digits, digits_bytes}
use Rattle.cg_text.specs.Token.{AreBytes, Follows, NoneBegins}
use Rattle.cg_text.specs.TokenLaws.{bytes_append}
use Rattle.cg_text.specs.ListFacts.{heads, tails, not_nil, push_one}
use Rattle.cg_text.specs.NumberRest.{number_rest, number_ends}
use Rattle.cg_text.specs.NumberRestLaws.{number_completes, digit_begins}
use Rattle.cg_text.specs.SizeState.{HasSizeRest, IsSizeRest, SizeRest, EndsSize, IsSmall, size_ends}
use Rattle.cg_text.specs.declared.decimal.DecimalText.{DecimalText}
use Rattle.cg_text.specs.declared.size.Taken.{Taken}
use Rattle.cg_text.specs.declared.size.Taken.TheVariants.{Count, Whole}

-- The factor of a suffix.
factor_of : ℕ → ℕ
factor_of s = cond (eqb s 75 || eqb s 107) 1024 (cond (eqb s 77 || eqb s 109) 1048576 (cond (eqb s 71 || eqb s 103) 1073741824
    (cond (eqb s 84 || eqb s 116) 1099511627776 (cond (eqb s 80 || eqb s 112) 1125899906842624 1152921504606846976))))

factor_is : (s f : ℕ) → HasFactor s f → f ≡ factor_of s
unfolding factor_of
factor_is s f (inl (inl e, k)) = rw e k
factor_is s f (inl (inr e, k)) = rw e k
factor_is s f (inr (inl (inl e, k))) = rw e k
factor_is s f (inr (inl (inr e, k))) = rw e k
factor_is s f (inr (inr (inl (inl e, k)))) = rw e k
factor_is s f (inr (inr (inl (inr e, k)))) = rw e k
factor_is s f (inr (inr (inr (inl (inl e, k))))) = rw e k
factor_is s f (inr (inr (inr (inl (inr e, k))))) = rw e k
factor_is s f (inr (inr (inr (inr (inl (inl e, k)))))) = rw e k
factor_is s f (inr (inr (inr (inr (inl (inr e, k)))))) = rw e k
factor_is s f (inr (inr (inr (inr (inr (inl e, k)))))) = rw e k
factor_is s f (inr (inr (inr (inr (inr (inr e, k)))))) = rw e k

factor_one : (s f g : ℕ) → HasFactor s f → HasFactor s g → f ≡ g
factor_one s f g h k = factor_is s f h ∙ sym (factor_is s g k)

-- A suffix is a letter, and its factor is above 0.
suffix_bounds : (s f : ℕ) → HasFactor s f → (57 < s) × (s < 256) × (1 ≤ f)
suffix_bounds s f (inl (inl e, k)) = (omega arith, omega arith, omega arith)
suffix_bounds s f (inl (inr e, k)) = (omega arith, omega arith, omega arith)
suffix_bounds s f (inr (inl (inl e, k))) = (omega arith, omega arith, omega arith)
suffix_bounds s f (inr (inl (inr e, k))) = (omega arith, omega arith, omega arith)
suffix_bounds s f (inr (inr (inl (inl e, k)))) = (omega arith, omega arith, omega arith)
suffix_bounds s f (inr (inr (inl (inr e, k)))) = (omega arith, omega arith, omega arith)
suffix_bounds s f (inr (inr (inr (inl (inl e, k))))) = (omega arith, omega arith, omega arith)
suffix_bounds s f (inr (inr (inr (inl (inr e, k))))) = (omega arith, omega arith, omega arith)
suffix_bounds s f (inr (inr (inr (inr (inl (inl e, k)))))) = (omega arith, omega arith, omega arith)
suffix_bounds s f (inr (inr (inr (inr (inl (inr e, k)))))) = (omega arith, omega arith, omega arith)
suffix_bounds s f (inr (inr (inr (inr (inr (inl e, k)))))) = (omega arith, omega arith, omega arith)
suffix_bounds s f (inr (inr (inr (inr (inr (inr e, k)))))) = (omega arith, omega arith, omega arith)

last_digit : (xs : List ℕ) (a : ℕ) → AreDigits (xs ++ a ∷ []) → a ≤ 57
last_digit [] a h = h.1
last_digit (x ∷ xs) a h = last_digit xs a h.2

pub IsSmall_prop : (t : Taken) → IsProp (IsSmall t)
IsSmall_prop (Count d) = hlevel props
IsSmall_prop (Whole size) = Unit-prop

-- The number alone.
pub counted : (P : List ℕ → ℕ → Type 0) (rest : List ℕ) (m : ℕ) → P rest m → m ≤ 18446744073709551615 → IsSizeRest P rest m
counted P rest m h le = record { count = m; factor = 1; product = omega arith; fits = le; spelled = inl (h, refl) }

pub size_completes : (t : Taken) → IsSmall t → (rest : List ℕ) × (n : ℕ) × SizeRest t rest n
size_completes (Count d) b = let c = number_completes d in (c.0, c.1, counted (number_rest d) c.0 c.1 c.2 (b c.0 c.1 c.2))
size_completes (Whole size) b = ([], size, (refl, refl))

one_of : (d : DecimalText) (rest : List ℕ) (m n f g : ℕ) → HasSizeRest (number_rest d) m f rest → HasSizeRest (number_rest d) n g rest → (m ≡ n) × (f ≡ g)
one_of d rest m n f g (inl h) (inl k) = (IsDecimalRest_one d.lo d.hi d.progress rest m n h.0 k.0, h.1 ∙ sym k.1)
one_of d rest m n f g (inl h) (inr k) =
    absurd (omega (arith, last_digit k.0 k.1 (rw k.2 at (number_digits d.lo d.hi d.progress rest m h.0)), (suffix_bounds k.1 g k.4).0))
one_of d rest m n f g (inr h) (inl k) =
    absurd (omega (arith, last_digit h.0 h.1 (rw h.2 at (number_digits d.lo d.hi d.progress rest n k.0)), (suffix_bounds h.1 f h.4).0))
one_of d rest m n f g (inr h) (inr k) =
    let s = push_one h.0 k.0 h.1 k.1 (sym h.2 ∙ k.2) in
    (IsDecimalRest_one d.lo d.hi d.progress h.0 m n h.3 (rw (← s.0) at k.3), factor_one h.1 f g h.4 (rw (← s.1) at k.4))

pub size_one : (t : Taken) (rest : List ℕ) (v w : ℕ) → SizeRest t rest v → SizeRest t rest w → v ≡ w
size_one (Count d) rest v w h k =
    let s = one_of d rest h.count k.count h.factor k.factor h.spelled k.spelled in
    h.product ∙ rw (s.0, s.1) (sym k.product)
size_one (Whole size) rest v w h k = h.1 ∙ sym k.1

ended_count : (d : DecimalText) (m f : ℕ) → HasSizeRest (number_rest d) m f [] → IsTrue (number_ends d)
ended_count d m f (inl h) = (decimal_ends_is d.lo d.hi d.progress).1 (m, h.0)
ended_count d m f (inr h) = absurd (not_nil h.0 h.1 [] h.2)

-- Nothing need follow exactly where the empty rest has a number.
pub size_ends_is : (t : Taken) → IsSmall t → IsTrue (size_ends t) ↔ ((n : ℕ) × SizeRest t [] n)
size_ends_is (Count d) b = (
  λ e. (let n = (decimal_ends_is d.lo d.hi d.progress).0 e in (n.0, counted (number_rest d) [] n.0 n.1 (b [] n.0 n.1))),
  λ h. ended_count d h.1.count h.1.factor h.1.spelled,
)
size_ends_is (Whole size) b = (λ e. (size, (refl, refl)), λ h. refl)

bytes_of : (d : DecimalText) (rest : List ℕ) (m f : ℕ) → HasSizeRest (number_rest d) m f rest → AreBytes rest
bytes_of d rest m f (inl h) = digits_bytes rest (number_digits d.lo d.hi d.progress rest m h.0)
bytes_of d rest m f (inr h) = rw h.2 (bytes_append h.0 (h.1 ∷ []) (digits_bytes h.0 (number_digits d.lo d.hi d.progress h.0 m h.3)) ((suffix_bounds h.1 f h.4).1, tt))

-- A rest holds bytes.
pub size_bytes : (t : Taken) (rest : List ℕ) (n : ℕ) → SizeRest t rest n → AreBytes rest
size_bytes (Count d) rest n h = bytes_of d rest h.count h.factor h.spelled
size_bytes (Whole size) rest n h = rw h.0 tt

-- A digit.
module _ (d new : DecimalText) (byte : ℕ) (digit : byte ≤ 57) (f : Follows number_rest d byte new) where
  digit_to : (rest : List ℕ) (m k : ℕ) → HasSizeRest (number_rest new) m k rest → HasSizeRest (number_rest d) m k (byte ∷ rest)
  digit_to rest m k (inl h) = inl ((f rest m).0 h.0, h.1)
  digit_to rest m k (inr h) = inr (byte ∷ h.0, h.1, ap (λ x. byte ∷ x) h.2, (f h.0 m).0 h.3, h.4)

  digit_at : (rest : List ℕ) (m k : ℕ) (digits : List ℕ) (suffix : ℕ) → byte ∷ rest ≡ digits ++ suffix ∷ [] → number_rest d digits m → HasFactor suffix k → HasSizeRest (number_rest new) m k rest
  digit_at rest m k [] suffix e h s = absurd (omega (arith, heads byte suffix rest [] e, (suffix_bounds suffix k s).0))
  digit_at rest m k (x ∷ digits) suffix e h s =
      let same : x ≡ byte = sym (heads byte x rest (digits ++ suffix ∷ []) e) in
      inr (digits, suffix, tails byte x rest (digits ++ suffix ∷ []) e, (f digits m).1 (rw same at h), s)

  digit_from : (rest : List ℕ) (m k : ℕ) → HasSizeRest (number_rest d) m k (byte ∷ rest) → HasSizeRest (number_rest new) m k rest
  digit_from rest m k (inl h) = inl ((f rest m).1 h.0, h.1)
  digit_from rest m k (inr h) = digit_at rest m k h.0 h.1 h.2 h.3 h.4

  digit_follows_at : Follows SizeRest (Count d) byte (Count new)
  digit_follows_at rest n = (
    λ h. record { count = h.count; factor = h.factor; product = h.product; fits = h.fits; spelled = digit_to rest h.count h.factor h.spelled },
    λ h. record { count = h.count; factor = h.factor; product = h.product; fits = h.fits; spelled = digit_from rest h.count h.factor h.spelled },
  )

pub size_digit : (d new : DecimalText) (byte : ℕ) → Follows number_rest d byte new → Follows SizeRest (Count d) byte (Count new)
size_digit d new byte f =
    let c = number_completes new in
    digit_follows_at d new byte (digit_begins (Some d) byte c.0 c.1 ((f c.0 c.1).0 c.2)).1 f

-- A suffix.
module _ (d : DecimalText) (byte : ℕ) (none : NoneBegins number_rest d byte) where
  suffix_at : (rest digits : List ℕ) (suffix m k : ℕ) → byte ∷ rest ≡ digits ++ suffix ∷ [] → number_rest d digits m → HasFactor suffix k → (rest ≡ []) × number_rest d [] m × HasFactor byte k
  suffix_at rest [] suffix m k e h s = (tails byte suffix rest [] e, h, rw (heads byte suffix rest [] e) s)
  suffix_at rest (x ∷ digits) suffix m k e h s =
      let same : x ≡ byte = sym (heads byte x rest (digits ++ suffix ∷ []) e) in
      absurd (none digits m (rw same at h))

  suffix_of : (rest : List ℕ) (m k : ℕ) → HasSizeRest (number_rest d) m k (byte ∷ rest) → (rest ≡ []) × number_rest d [] m × HasFactor byte k
  suffix_of rest m k (inl h) = absurd (none rest m h.0)
  suffix_of rest m k (inr h) = suffix_at rest h.0 h.1 m k h.2 h.3 h.4

  pub size_suffix : (size : ℕ) → EndsSize (number_rest d) byte size → Follows SizeRest (Count d) byte (Whole size)
  size_suffix size s rest n = (
    λ h. record { count = s.count; factor = s.factor; product = h.1 ∙ s.product; fits = rw h.1 s.fits; spelled = inr ([], byte, ap (λ x. byte ∷ x) h.0, s.counted, s.suffix_is) },
    λ h. (let e = suffix_of rest h.count h.factor h.spelled in
        let same : h.count ≡ s.count = IsDecimalRest_one d.lo d.hi d.progress [] h.count s.count e.1 s.counted in
        let one : h.factor ≡ s.factor = factor_one byte h.factor s.factor e.2 s.suffix_is in
        (e.0, h.product ∙ rw (same, one) (sym s.product))),
  )

  pub no_suffix : ((size : ℕ) → EndsSize (number_rest d) byte size → ⊥) → NoneBegins SizeRest (Count d) byte
  no_suffix f rest n h =
      let e = suffix_of rest h.count h.factor h.spelled in
      f n (record { count = h.count; factor = h.factor; counted = e.1; suffix_is = e.2; product = h.product; fits = h.fits })

-- What a product that may not fit says of the size that the suffix ends.
pub product_ends : (d : DecimalText) (byte m f : ℕ) (r : Option ℕ) → number_rest d [] m → HasFactor byte f → SomeIff r (m * f < 2 ^ 64) (m * f) →
    MatchOption r ((size : ℕ) → EndsSize (number_rest d) byte size → ⊥) (λ size. EndsSize (number_rest d) byte size)
product_ends d byte m f None h k e = λ size s. (
    let same : s.count ≡ m = IsDecimalRest_one d.lo d.hi d.progress [] s.count m s.counted h in
    let one : s.factor ≡ f = factor_one byte s.factor f s.suffix_is k in
    let product : size ≡ m * f = s.product ∙ rw (same, one) refl in
    e (omega (arith, s.fits, product)))
product_ends d byte m f (Some size) h k e = record { count = m; factor = f; counted = h; suffix_is = k; product = e.1; fits = omega (arith, e.0, e.1) }

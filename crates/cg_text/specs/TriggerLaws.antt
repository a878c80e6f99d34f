-- What holds of the times of a trigger.
use Rattle.std.proofs.Common.{◌≡◌, ℕ, ◌≤◌, ◌↔◌, inl, inr, Bool, false, Option, Some, None, is_some, List, [], ◌∷◌, ◌++◌, refl, sym, ◌∙◌, ap, arith, IsTrue}
use Rattle.cg_text.specs.Decimal.{AreDigits, IsDecimal}
use Rattle.cg_text.specs.DecimalLaws.{IsDecimalRest_completes, IsDecimalRest_one}
use Rattle.cg_text.specs.RangesState.{number_rest}
use Rattle.cg_text.specs.Token.{AreBytes}
use Rattle.cg_text.specs.TokenLaws.{bytes_append}
use Rattle.cg_text.specs.DecimalLaws.{digits_bytes}
use Rattle.cg_text.specs.RangesLaws.{split_one, some_decimal, decimal_digits}
use Rattle.cg_text.specs.TriggerState.{TimesRest, TimesBegun, IsTimesByte, times_end, IsWithin}
use Rattle.cg_text.specs.declared.decimal.DecimalText.{DecimalText}
use Rattle.cg_text.specs.declared.decimal.Progress.TheVariants.{Start}
use Rattle.cg_text.specs.declared.trigger.Times.{Times}
use Rattle.cg_text.specs.declared.trigger.TimesByte.{TimesByte}
use Rattle.cg_text.specs.declared.trigger.TimesByte.TheVariants.{Digit, Space, Refused}

heads : (a b : ℕ) (x y : List ℕ) → a ∷ x ≡ b ∷ y → a ≡ b
heads a b x y e = cc

tails : (a b : ℕ) (x y : List ℕ) → a ∷ x ≡ b ∷ y → x ≡ y
tails a b x y e = cc

not_nil : (xs : List ℕ) (x : ℕ) (ys : List ℕ) → [] ≡ xs ++ x ∷ ys → ⊥
not_nil [] x ys e = cc
not_nil (y ∷ xs) x ys e = cc

abbrev times : ℕ → ℕ → Times
times a b = record { stall = a; window = b }

made : (a b c d : ℕ) → a ≡ c → b ≡ d → times a b ≡ times c d
made a b c d e f = rw (e, f) refl

pair_of : (v w : Times) → v.stall ≡ w.stall → v.window ≡ w.window → v ≡ w
pair_of v w e f = made v.stall v.window w.stall w.window e f

-- A digit.
module _ (byte : ℕ) (P P' : List ℕ → ℕ → Type 0) (digit : 48 ≤ byte) (f : (x : List ℕ) (n : ℕ) → P' x n ↔ P (byte ∷ x) n) where
  digit_at : (text front back : List ℕ) (v : Times) → byte ∷ text ≡ front ++ 32 ∷ back → P front v.stall → IsDecimal v.stall 10000000 v.window back → TimesRest None P' text v
  digit_at text [] back v e p d = absurd (omega (arith, digit, heads byte 32 text back e))
  digit_at text (x ∷ front) back v e p d =
      let s : x ≡ byte = cc in
      (front, back, tails byte x text (front ++ 32 ∷ back) e, (f front v.stall).1 (rw s at p), d)

  pub times_digit : (stall : Option ℕ) (text : List ℕ) (v : Times) → TimesRest stall P' text v ↔ TimesRest stall P (byte ∷ text) v
  times_digit None text v = (λ h. (byte ∷ h.0, h.1, ap (λ x. byte ∷ x) h.2, (f h.0 v.stall).0 h.3, h.4), λ h. digit_at text h.0 h.1 v h.2 h.3 h.4)
  times_digit (Some a) text v = (λ h. (h.0, (f text v.window).0 h.1), λ h. (h.0, (f text v.window).1 h.1))

-- The space.
module _ (n : ℕ) (P P' : List ℕ → ℕ → Type 0) (ended : P [] n) (one : (m : ℕ) → P [] m → m ≡ n) (digits : (x : List ℕ) (m : ℕ) → P x m → AreDigits x) (f : (x : List ℕ) (m : ℕ) → P' x m ↔ IsDecimal n 10000000 m x) where
  space_at : (text front back : List ℕ) (v : Times) → 32 ∷ text ≡ front ++ 32 ∷ back → P front v.stall → IsDecimal v.stall 10000000 v.window back → TimesRest (Some n) P' text v
  space_at text [] back v e p d =
      let same : v.stall ≡ n = one v.stall p in
      (same, (f text v.window).1 (rw (same, ← (tails 32 32 text back e)) at d))
  space_at text (x ∷ front) back v e p d = absurd (omega (arith, heads 32 x text (front ++ 32 ∷ back) e, (digits (x ∷ front) v.stall p).0))

  pub times_space : (text : List ℕ) (v : Times) → TimesRest (Some n) P' text v ↔ TimesRest None P (32 ∷ text) v
  times_space text v = (
    λ h. (let same : n ≡ v.stall = sym h.0 in ([], text, refl, rw same at ended, rw same at ((f text v.window).0 h.1))),
    λ h. space_at text h.0 h.1 v h.2 h.3 h.4,
  )

begun_at : (byte : ℕ) (P : List ℕ → ℕ → Type 0) (text front back : List ℕ) (v : Times) → byte ∷ text ≡ front ++ 32 ∷ back → P front v.stall → IsDecimal v.stall 10000000 v.window back → TimesBegun None P byte
begun_at byte P text [] back v e p d = inr (heads byte 32 text back e, refl, v.stall, p, omega (arith, d.0, d.1))
begun_at byte P text (x ∷ front) back v e p d = let s : x ≡ byte = cc in inl (front, v.stall, rw s at p)

pub times_begun : (byte : ℕ) (stall : Option ℕ) (P : List ℕ → ℕ → Type 0) (text : List ℕ) (v : Times) → TimesRest stall P (byte ∷ text) v → TimesBegun stall P byte
times_begun byte None P text v h = begun_at byte P text h.0 h.1 v h.2 h.3 h.4
times_begun byte (Some a) P text v h = inl (text, v.window, h.1)

pub begun_times : (byte : ℕ) (stall : Option ℕ) (P : List ℕ → ℕ → Type 0) → IsWithin P → TimesBegun stall P byte → (text : List ℕ) × (v : Times) × TimesRest stall P (byte ∷ text) v
begun_times byte None P w (inl h) = let t = some_decimal h.1 10000000 (w (byte ∷ h.0) h.1 h.2) in (h.0 ++ 32 ∷ t.0, record { stall = h.1; window = 10000000 }, (byte ∷ h.0, t.0, refl, h.2, t.1))
begun_times byte (Some a) P w (inl h) = (h.0, record { stall = a; window = h.1 }, (refl, h.2))
begun_times byte None P w (inr h) = let t = some_decimal h.2 10000000 h.4 in (t.0, record { stall = h.2; window = 10000000 }, ([], t.0, ap (λ x. x ∷ t.0) h.0, h.3, t.1))
begun_times byte (Some a) P w (inr h) = absurd (let e = h.1 in cc)

pub turn_begins : (byte : ℕ) (stall : Option ℕ) (old : DecimalText) (t : TimesByte) → IsWithin (number_rest old) →
    IsTimesByte stall old byte t → (t ≡ Refused → ⊥) →
    (text : List ℕ) × (v : Times) × TimesRest stall (number_rest old) (byte ∷ text) v
turn_begins byte stall old (Digit new) w h f =
    let k = IsDecimalRest_completes new.lo new.hi new.progress new.range new.live in
    begun_times byte stall (number_rest old) w (inl (k.0, k.1, (h k.0 k.1).0 k.2))
turn_begins byte stall old (Space end new) w h f = begun_times byte stall (number_rest old) w (inr (h.0, h.4, end, h.1, h.2))
turn_begins byte stall old Refused w h f = absurd (f refl)

pub times_complete : (stall : Option ℕ) (P : List ℕ → ℕ → Type 0) → IsWithin P → ((rest : List ℕ) × (n : ℕ) × P rest n) → (text : List ℕ) × (v : Times) × TimesRest stall P text v
times_complete None P w h = let t = some_decimal h.1 10000000 (w h.0 h.1 h.2) in (h.0 ++ 32 ∷ t.0, record { stall = h.1; window = 10000000 }, (h.0, t.0, refl, h.2, t.1))
times_complete (Some a) P w h = (h.0, record { stall = a; window = h.1 }, (refl, h.2))

pub times_end_is : (stall : Option ℕ) (P : List ℕ → ℕ → Type 0) (e : Bool) → IsTrue e ↔ ((n : ℕ) × P [] n) → IsTrue (times_end stall e) ↔ ((v : Times) × TimesRest stall P [] v)
times_end_is None P e f = (λ h. absurd (cc), λ h. absurd (not_nil h.1.0 32 h.1.1 h.1.2))
times_end_is (Some a) P e f = (λ h. (let k = f.0 h in (record { stall = a; window = k.0 }, (refl, k.1))), λ h. f.1 (h.0.window, h.1.1))

pub times_one : (stall : Option ℕ) (P : List ℕ → ℕ → Type 0) → ((x : List ℕ) (m : ℕ) → P x m → AreDigits x) →
    ((x : List ℕ) (m n : ℕ) → P x m → P x n → m ≡ n) → (text : List ℕ) (v w : Times) → TimesRest stall P text v →
    TimesRest stall P text w → v ≡ w
times_one None P digits one text v w h k =
    let s = split_one h.0 (32 ∷ h.1) k.0 (32 ∷ k.1) (digits h.0 v.stall h.3) (digits k.0 w.stall k.3) (omega arith) (omega arith) (sym h.2 ∙ k.2) in
    let e : v.stall ≡ w.stall = one h.0 v.stall w.stall h.3 (rw (← s.0) at k.3) in
    let back : h.1 ≡ k.1 = tails 32 32 h.1 k.1 s.1 in
    pair_of v w e (IsDecimalRest_one v.stall 10000000 Start h.1 v.window w.window h.4 (rw (← back, ← e) at k.4))
times_one (Some a) P digits one text v w h k = pair_of v w (h.0 ∙ sym k.0) (one text v.window w.window h.1 k.1)

-- A whole stall, the space and a window.
pub times_whole : (stall : Option ℕ) (P : List ℕ → ℕ → Type 0) (a b : ℕ) (front back text : List ℕ) → is_some stall ≡ false → text ≡ front ++ 32 ∷ back → P front a → IsDecimal a 10000000 b back → TimesRest stall P text (times a b)
times_whole None P a b front back text e t h k = (front, back, t, h, k)
times_whole (Some c) P a b front back text e t h k = absurd (cc)

pub times_bytes : (stall : Option ℕ) (P : List ℕ → ℕ → Type 0) → ((x : List ℕ) (n : ℕ) → P x n → AreDigits x) → (text : List ℕ) (v : Times) → TimesRest stall P text v → AreBytes text
times_bytes None P f text v h = rw h.2 (bytes_append h.0 (32 ∷ h.1) (digits_bytes h.0 (f h.0 v.stall h.3)) (omega arith, digits_bytes h.1 (decimal_digits v.stall 10000000 v.window h.1 h.4)))
times_bytes (Some a) P f text v h = digits_bytes text (f text v.window h.1)

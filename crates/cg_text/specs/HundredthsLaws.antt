-- What holds of hundredths.
use Rattle.std.proofs.Common.{◌≡◌, ℕ, ◌+◌, ◌-◌, ◌*◌, ◌/◌, ◌≤◌, ◌<◌, ◌↔◌, inl, inr, Bool, true, ◌&&◌, List, [], ◌∷◌, ◌++◌, refl, sym, ◌∙◌, ap, arith, leb-true, le-leb, IsTrue}
use Rattle.std.proofs.lemmas.Bool.{and_from, and_parts}
use Rattle.std.proofs.Props.{props}
use Rattle.cg_text.specs.Decimal.{IsDecimal, AreDigits}
use Rattle.cg_text.specs.DecimalLaws.{IsDecimalRest_completes, IsDecimalRest_one, number_digits, digits_bytes}
use Rattle.cg_text.specs.DecimalState.{is_open}
use Rattle.cg_text.specs.Hundredths.{HasTwoDigits, HasOneDigit, HasNoDigit, HasDigits, IsHundredths}
use Rattle.cg_text.specs.HundredthsState.{may_leave_out, AfterTenth, AfterDot, AfterWhole, WholeRest, WholePart, whole_ends, PartRest, HundredthsRest, IsWithin, hundredths_ends}
use Rattle.cg_text.specs.Token.{AreBytes}
use Rattle.cg_text.specs.TokenLaws.{bytes_append}
use Rattle.cg_text.specs.declared.decimal.Progress.{Progress}
use Rattle.cg_text.specs.declared.decimal.Progress.TheVariants.{Start, Zero, Number}
use Rattle.cg_text.specs.declared.values.Hundredths.{Hundredths}
use Rattle.cg_text.specs.declared.hundredths.Spelling.{Spelling}
use Rattle.cg_text.specs.declared.hundredths.Spelling.TheVariants.{Read, Written}
use Rattle.cg_text.specs.declared.hundredths.Part.{Part}
use Rattle.cg_text.specs.declared.hundredths.Part.TheVariants.{Whole, Dot, Tenth, Hundredth}

pub IsWithin_prop : (most : ℕ) (part : Part) → IsProp (IsWithin most part)
IsWithin_prop most (Whole progress) = hlevel props
IsWithin_prop most (Dot base) = hlevel props
IsWithin_prop most (Tenth base) = hlevel props
IsWithin_prop most (Hundredth base) = hlevel props

append_nil : (xs : List ℕ) → xs ++ [] ≡ xs
append_nil [] = refl
append_nil (x ∷ xs) = ap (λ y. x ∷ y) (append_nil xs)

-- A new token: what follows a whole part is a number's digits.
with_two : (form : Spelling) (count : ℕ) (text : List ℕ) → HasTwoDigits count text → HasDigits form count text
with_two Read count text h = h
with_two Written count text h = inl h

with_one : (form : Spelling) (count : ℕ) (text : List ℕ) → may_leave_out form ≡ true → HasOneDigit count text → HasDigits form count text
with_one Read count text e h = absurd (cc)
with_one Written count text e h = inr (inl h)

with_none : (form : Spelling) (count : ℕ) (text : List ℕ) → may_leave_out form ≡ true → HasNoDigit count text → HasDigits form count text
with_none Read count text e h = absurd (cc)
with_none Written count text e h = inr (inr h)

module _ (form : Spelling) (most : ℕ) (P : List ℕ → ℕ → Type 0) (f : (x : List ℕ) (n : ℕ) → P x n ↔ IsDecimal 0 (most / 100) n x) where
  digits_from : (whole count : ℕ) (text front back : List ℕ) → text ≡ front ++ back → P front whole → AfterWhole form whole back count → HasDigits form count text
  digits_from whole count text front [] e p h = with_none form count text h.0 (record { whole = whole; whole_is = rw (e, append_nil front) (((f front whole).0 p).2); count_is = h.1 })
  digits_from whole count text front (c ∷ []) e p h = absurd h.1
  digits_from whole count text front (c ∷ t ∷ []) e p h = with_one form count text h.1.1.0 (record {
    whole = whole;
    digits = front;
    tenth = t;
    text_is = rw h.0 at e;
    whole_is = ((f front whole).0 p).2;
    tenth_is = h.1.0;
    count_is = h.1.1.1;
  })
  digits_from whole count text front (c ∷ t ∷ u ∷ us) e p h = with_two form count text (record {
    whole = whole;
    digits = front;
    tenth = t;
    hundredth = u;
    text_is = rw (h.0, h.1.1.1) at e;
    whole_is = ((f front whole).0 p).2;
    tenth_is = h.1.0;
    hundredth_is = h.1.1.0;
    count_is = h.1.1.2;
  })

  from_two : (count : ℕ) (text : List ℕ) → count ≤ most → HasTwoDigits count text → WholeRest form P text count
  from_two count text le h = record {
    whole = h.whole;
    front = h.digits;
    back = 46 ∷ h.tenth ∷ h.hundredth ∷ [];
    text_is = h.text_is;
    begins = (f h.digits h.whole).1 (omega arith, omega (arith, h.count_is), h.whole_is);
    ends = (refl, (h.tenth_is, (h.hundredth_is, refl, h.count_is)));
  }

  from_one : may_leave_out form ≡ true → (count : ℕ) (text : List ℕ) → count ≤ most → HasOneDigit count text → WholeRest form P text count
  from_one e count text le h = record {
    whole = h.whole;
    front = h.digits;
    back = 46 ∷ h.tenth ∷ [];
    text_is = h.text_is;
    begins = (f h.digits h.whole).1 (omega arith, omega (arith, h.count_is), h.whole_is);
    ends = (refl, (h.tenth_is, (e, h.count_is)));
  }

  from_none : may_leave_out form ≡ true → (count : ℕ) (text : List ℕ) → count ≤ most → HasNoDigit count text → WholeRest form P text count
  from_none e count text le h = record {
    whole = h.whole;
    front = text;
    back = [];
    text_is = sym (append_nil text);
    begins = (f text h.whole).1 (omega arith, omega (arith, h.count_is), h.whole_is);
    ends = (e, h.count_is);
  }

digits_to : (form : Spelling) (most : ℕ) (P : List ℕ → ℕ → Type 0) → ((x : List ℕ) (n : ℕ) → P x n ↔ IsDecimal 0 (most / 100) n x) →
    (count : ℕ) (text : List ℕ) → count ≤ most → HasDigits form count text → WholeRest form P text count
digits_to Read most P f count text le h = from_two Read most P f count text le h
digits_to Written most P f count text le (inl h) = from_two Written most P f count text le h
digits_to Written most P f count text le (inr (inl h)) = from_one Written most P f refl count text le h
digits_to Written most P f count text le (inr (inr h)) = from_none Written most P f refl count text le h

pub hundredths_new : (form : Spelling) (most : ℕ) (P : List ℕ → ℕ → Type 0) → ((x : List ℕ) (n : ℕ) → P x n ↔ IsDecimal 0 (most / 100) n x) →
    (text : List ℕ) (h : Hundredths) → ((h.count ≤ most) × WholeRest form P text h.count) ↔ IsHundredths form most h text
hundredths_new form most P f text h = (
  λ k. (k.0, digits_from form most P f k.1.whole h.count text k.1.front k.1.back k.1.text_is k.1.begins k.1.ends),
  λ k. (k.0, digits_to form most P f h.count text k.0 k.1),
)

-- What comes after a number's digits is no digit.
abbrev EndsNumber : List ℕ → Type 0
EndsNumber [] = Unit {0}
EndsNumber (c ∷ cs) = c < 48

after_ends : (form : Spelling) (whole : ℕ) (back : List ℕ) (count : ℕ) → AfterWhole form whole back count → EndsNumber back
after_ends form whole [] count h = tt
after_ends form whole (c ∷ cs) count h = omega (arith, h.0)

-- A digit of the whole part.
module _ (form : Spelling) (byte : ℕ) (P P' : List ℕ → ℕ → Type 0) (digit : 48 ≤ byte) (f : (x : List ℕ) (n : ℕ) → P' x n ↔ P (byte ∷ x) n) where
  digit_at : (text front back : List ℕ) (whole count : ℕ) → byte ∷ text ≡ front ++ back → P front whole → AfterWhole form whole back count → WholeRest form P' text count
  digit_at text [] [] whole count e p h = absurd (cc)
  digit_at text [] (c ∷ back) whole count e p h = let s : c ≡ byte = cc in absurd (omega (arith, h.0, s, digit))
  digit_at text (x ∷ front) back whole count e p h =
      let s : x ≡ byte = cc in
      record { whole = whole; front = front; back = back; text_is = cc; begins = (f front whole).1 (rw s at p); ends = h }

-- A whole part is within its bound.
pub whole_within : (most : ℕ) (progress : Progress) (rest : List ℕ) (n : ℕ) → WholePart most progress rest n → 100 * n ≤ most
whole_within most Start rest n h = omega (arith, h.1)
whole_within most Zero rest n h = omega (arith, h.1)
whole_within most (Number m) rest n h = omega (arith, h.1)

pub whole_digits : (most : ℕ) (progress : Progress) (rest : List ℕ) (n : ℕ) → WholePart most progress rest n → AreDigits rest
whole_digits most progress = number_digits 0 (most / 100) progress

pub whole_is_one : (most : ℕ) (progress : Progress) (rest : List ℕ) (m n : ℕ) → WholePart most progress rest m → WholePart most progress rest n → m ≡ n
whole_is_one most progress = IsDecimalRest_one 0 (most / 100) progress

whole_completes : (most : ℕ) (progress : Progress) → IsTrue (is_open 0 (most / 100) progress) → (rest : List ℕ) × (n : ℕ) × WholePart most progress rest n
whole_completes most progress live = IsDecimalRest_completes 0 (most / 100) progress (omega arith) live

-- The whole part may end exactly where the empty rest has a number.
pub whole_ends_is : (most : ℕ) (progress : Progress) → IsTrue (whole_ends most progress) ↔ ((n : ℕ) × WholePart most progress [] n)
whole_ends_is most Start = (λ e. absurd (cc), λ h. absurd h.1.2)
whole_ends_is most Zero = (λ e. (0, (refl, refl)), λ h. refl)
whole_ends_is most (Number m) = (
  λ e. (m, (omega arith, leb-true m (most / 100) e, tt, refl)),
  λ h. le-leb m (most / 100) (omega (arith, h.1.1, h.1.3)),
)

-- A byte that a number takes is a digit.
pub digit_byte : (most : ℕ) (old new : Progress) (byte : ℕ) → IsTrue (is_open 0 (most / 100) new) → ((x : List ℕ) (n : ℕ) → WholePart most new x n ↔ WholePart most old (byte ∷ x) n) → 48 ≤ byte
digit_byte most old new byte live f =
    let done = whole_completes most new live in
    (whole_digits most old (byte ∷ done.0) done.1 ((f done.0 done.1).0 done.2)).0

-- The dot.
module _ (form : Spelling) (end : ℕ) (P : List ℕ → ℕ → Type 0) (ended : P [] end) (one : (m : ℕ) → P [] m → m ≡ end) (digits : (x : List ℕ) (m : ℕ) → P x m → AreDigits x) where
  dot_at : (text front back : List ℕ) (whole count : ℕ) → 46 ∷ text ≡ front ++ back → P front whole → AfterWhole form whole back count → AfterDot form (100 * end) text count
  dot_at text [] [] whole count e p h = absurd (cc)
  dot_at text [] (c ∷ back) whole count e p h =
      let s : back ≡ text = cc in
      rw (one whole p, s) at h.1
  dot_at text (x ∷ front) back whole count e p h = absurd (let s : x ≡ 46 = cc in omega (arith, s, (digits (x ∷ front) whole p).0))

  pub whole_dot : (text : List ℕ) (count : ℕ) → AfterDot form (100 * end) text count ↔ WholeRest form P (46 ∷ text) count
  whole_dot text count = (
    λ h. record { whole = end; front = []; back = 46 ∷ text; text_is = refl; begins = ended; ends = (refl, h) },
    λ h. dot_at text h.front h.back h.whole count h.text_is h.begins h.ends,
  )

-- No dot stands inside a number, or before it may end.
module _ (form : Spelling) (P : List ℕ → ℕ → Type 0) (digits : (x : List ℕ) (m : ℕ) → P x m → AreDigits x) (goes_on : (n : ℕ) → P [] n → ⊥) where
  no_dot_at : (text front back : List ℕ) (whole : ℕ) → 46 ∷ text ≡ front ++ back → P front whole → ⊥
  no_dot_at text [] back whole e p = goes_on whole p
  no_dot_at text (x ∷ front) back whole e p = let s : x ≡ 46 = cc in omega (arith, s, (digits (x ∷ front) whole p).0)

  pub whole_dot_none : (text : List ℕ) (count : ℕ) → WholeRest form P (46 ∷ text) count → ⊥
  whole_dot_none text count h = no_dot_at text h.front h.back h.whole h.text_is h.begins

-- A byte that neither goes on with the number nor is a dot after it.
module _ (form : Spelling) (byte : ℕ) (P : List ℕ → ℕ → Type 0) (none : (x : List ℕ) (n : ℕ) → P (byte ∷ x) n → ⊥) (no_dot : byte ≡ 46 → (n : ℕ) → P [] n → ⊥) where
  none_at : (text front back : List ℕ) (whole count : ℕ) → byte ∷ text ≡ front ++ back → P front whole → AfterWhole form whole back count → ⊥
  none_at text [] [] whole count e p h = cc
  none_at text [] (c ∷ back) whole count e p h = let s : c ≡ byte = cc in no_dot (sym s ∙ h.0) whole p
  none_at text (x ∷ front) back whole count e p h = let s : x ≡ byte = cc in none front whole (rw s at p)

-- Every state can be completed.
pub hundredths_completes : (form : Spelling) (most : ℕ) (part : Part) → IsWithin most part → (rest : List ℕ) × (h : Hundredths) × HundredthsRest form most part rest h
hundredths_completes form most (Whole progress) w =
    let done = whole_completes most progress w in (
      done.0 ++ 46 ∷ 48 ∷ 48 ∷ [],
      record { count = 100 * done.1 },
      (
        whole_within most progress done.0 done.1 done.2,
        record {
          whole = done.1;
          front = done.0;
          back = 46 ∷ 48 ∷ 48 ∷ [];
          text_is = refl;
          begins = done.2;
          ends = (refl, ((omega arith, omega arith), ((omega arith, omega arith), refl, omega arith)));
        },
      ),
    )
hundredths_completes form most (Dot base) w = (48 ∷ 48 ∷ [], record { count = base }, (w, ((omega arith, omega arith), ((omega arith, omega arith), refl, omega arith))))
hundredths_completes form most (Tenth base) w = (48 ∷ [], record { count = base }, (w, ((omega arith, omega arith), refl, omega arith)))
hundredths_completes form most (Hundredth base) w = ([], record { count = base }, (w, (refl, refl)))

-- Nothing need follow exactly where the empty rest has a number.
whole_ends_from : (form : Spelling) (most : ℕ) (P : List ℕ → ℕ → Type 0) (e : Bool) → IsTrue e ↔ ((n : ℕ) × P [] n) →
    ((rest : List ℕ) (n : ℕ) → P rest n → 100 * n ≤ most) → IsTrue (may_leave_out form && e) →
    (h : Hundredths) × ((h.count ≤ most) × WholeRest form P [] h.count)
whole_ends_from form most P e is w t =
    let both = and_parts (may_leave_out form) e t in
    let n = is.0 both.1 in
    (record { count = 100 * n.0 }, (w [] n.0 n.1, record { whole = n.0; front = []; back = []; text_is = refl; begins = n.1; ends = (both.0, refl) }))

whole_ends_at : (form : Spelling) (P : List ℕ → ℕ → Type 0) (e : Bool) → IsTrue e ↔ ((n : ℕ) × P [] n) →
    (front back : List ℕ) (whole count : ℕ) → [] ≡ front ++ back → P front whole →
    AfterWhole form whole back count → IsTrue (may_leave_out form && e)
whole_ends_at form P e is [] [] whole count t p h = and_from (may_leave_out form) e h.0 (is.1 (whole, p))
whole_ends_at form P e is [] (c ∷ back) whole count t p h = absurd (cc)
whole_ends_at form P e is (x ∷ front) back whole count t p h = absurd (cc)

pub hundredths_ends_is : (form : Spelling) (most : ℕ) (part : Part) → IsWithin most part → IsTrue (hundredths_ends form most part) ↔ ((h : Hundredths) × HundredthsRest form most part [] h)
hundredths_ends_is form most (Whole progress) w =
    let is = whole_ends_is most progress in (
      λ t. whole_ends_from form most (WholePart most progress) (whole_ends most progress) is (whole_within most progress) t,
      λ h. whole_ends_at form (WholePart most progress) (whole_ends most progress) is h.1.1.front h.1.1.back h.1.1.whole h.0.count h.1.1.text_is h.1.1.begins h.1.1.ends,
    )
hundredths_ends_is form most (Dot base) w = (λ t. absurd (cc), λ h. absurd h.1.1)
hundredths_ends_is form most (Tenth base) w = (λ t. (record { count = base }, (w, (t, refl))), λ h. h.1.1.0)
hundredths_ends_is form most (Hundredth base) w = (λ t. (record { count = base }, (w, (refl, refl))), λ h. refl)

-- A rest has one number.
split_one : (front front' back back' : List ℕ) → AreDigits front → AreDigits front' → EndsNumber back → EndsNumber back' → front ++ back ≡ front' ++ back' → (front ≡ front') × (back ≡ back')
split_one [] [] back back' d d' n n' e = (refl, e)
split_one [] (x ∷ front') [] back' d d' n n' e = absurd (cc)
split_one [] (x ∷ front') (c ∷ back) back' d d' n n' e = absurd (let s : c ≡ x = cc in omega (arith, s, n, d'.0))
split_one (x ∷ front) [] back [] d d' n n' e = absurd (cc)
split_one (x ∷ front) [] back (c ∷ back') d d' n n' e = absurd (let s : x ≡ c = cc in omega (arith, s, n', d.0))
split_one (x ∷ front) (y ∷ front') back back' d d' n n' e =
    let s : x ≡ y = cc in
    let more : front ++ back ≡ front' ++ back' = cc in
    let again = split_one front front' back back' d.2 d'.2 n n' more in
    (rw (s, again.0) refl, again.1)

tenth_one : (form : Spelling) (base : ℕ) (rest : List ℕ) (m n : ℕ) → AfterTenth form base rest m → AfterTenth form base rest n → m ≡ n
tenth_one form base [] m n h k = h.1 ∙ sym k.1
tenth_one form base (c ∷ cs) m n h k = h.2 ∙ sym k.2

dot_one : (form : Spelling) (base : ℕ) (rest : List ℕ) (m n : ℕ) → AfterDot form base rest m → AfterDot form base rest n → m ≡ n
dot_one form base [] m n h k = absurd h
dot_one form base (c ∷ cs) m n h k = tenth_one form (base + 10 * (c - 48)) cs m n h.1 k.1

after_one : (form : Spelling) (whole : ℕ) (rest : List ℕ) (m n : ℕ) → AfterWhole form whole rest m → AfterWhole form whole rest n → m ≡ n
after_one form whole [] m n h k = h.1 ∙ sym k.1
after_one form whole (c ∷ cs) m n h k = dot_one form (100 * whole) cs m n h.1 k.1

whole_one : (form : Spelling) (P : List ℕ → ℕ → Type 0) → ((x : List ℕ) (m : ℕ) → P x m → AreDigits x) → ((x : List ℕ) (m n : ℕ) → P x m → P x n → m ≡ n) →
    (rest : List ℕ) (m n : ℕ) → WholeRest form P rest m → WholeRest form P rest n → m ≡ n
whole_one form P digits one rest m n h k =
    let s = split_one h.front k.front h.back k.back (digits h.front h.whole h.begins) (digits k.front k.whole k.begins) (after_ends form h.whole h.back m h.ends) (after_ends form k.whole k.back n k.ends) (sym h.text_is ∙ k.text_is) in
    let w : k.whole ≡ h.whole = one h.front k.whole h.whole (rw (← s.0) at k.begins) h.begins in
    after_one form h.whole h.back m n h.ends (rw (w, ← s.1) at k.ends)

count_one : (m n : ℕ) → m ≡ n → (let r : Hundredths = record { count = m } in r) ≡ record { count = n }
count_one m n e = ap (λ c. record { count = c }) e

part_one : (form : Spelling) (most : ℕ) (part : Part) (rest : List ℕ) (m n : ℕ) → PartRest form most part rest m → PartRest form most part rest n → m ≡ n
part_one form most (Whole progress) rest m n h k = whole_one form (WholePart most progress) (whole_digits most progress) (whole_is_one most progress) rest m n h k
part_one form most (Dot base) rest m n h k = dot_one form base rest m n h k
part_one form most (Tenth base) rest m n h k = tenth_one form base rest m n h k
part_one form most (Hundredth base) rest m n h k = h.1 ∙ sym k.1

pub hundredths_one : (form : Spelling) (most : ℕ) (part : Part) (rest : List ℕ) (v w : Hundredths) → HundredthsRest form most part rest v → HundredthsRest form most part rest w → v ≡ w
hundredths_one form most part rest v w h k = count_one v.count w.count (part_one form most part rest v.count w.count h.1 k.1)

-- A rest holds bytes.
tenth_bytes : (form : Spelling) (base : ℕ) (rest : List ℕ) (count : ℕ) → AfterTenth form base rest count → AreBytes rest
tenth_bytes form base [] count h = tt
tenth_bytes form base (c ∷ cs) count h = (omega (arith, h.0.1), rw h.1 tt)

dot_bytes : (form : Spelling) (base : ℕ) (rest : List ℕ) (count : ℕ) → AfterDot form base rest count → AreBytes rest
dot_bytes form base [] count h = tt
dot_bytes form base (c ∷ cs) count h = (omega (arith, h.0.1), tenth_bytes form (base + 10 * (c - 48)) cs count h.1)

after_bytes : (form : Spelling) (whole : ℕ) (rest : List ℕ) (count : ℕ) → AfterWhole form whole rest count → AreBytes rest
after_bytes form whole [] count h = tt
after_bytes form whole (c ∷ cs) count h = (omega (arith, h.0), dot_bytes form (100 * whole) cs count h.1)

part_bytes : (form : Spelling) (most : ℕ) (part : Part) (rest : List ℕ) (count : ℕ) → PartRest form most part rest count → AreBytes rest
part_bytes form most (Whole progress) rest count h = rw h.text_is (bytes_append h.front h.back (digits_bytes h.front (whole_digits most progress h.front h.whole h.begins)) (after_bytes form h.whole h.back count h.ends))
part_bytes form most (Dot base) rest count h = dot_bytes form base rest count h
part_bytes form most (Tenth base) rest count h = tenth_bytes form base rest count h
part_bytes form most (Hundredth base) rest count h = rw h.0 tt

pub hundredths_bytes : (form : Spelling) (most : ℕ) (part : Part) (rest : List ℕ) (h : Hundredths) → HundredthsRest form most part rest h → AreBytes rest
hundredths_bytes form most part rest h k = part_bytes form most part rest h.count k.1

-- What holds of the name of a file's row.
use Rattle.std.proofs.Common.{◌≡◌, ℕ, zero, suc, ◌+◌, ◌-◌, ◌*◌, ◌≤◌, inl, inr, ◌⊎◌, ◌↔◌, Bool, true, false, cond, ◌&&◌, ◌||◌, nat_le, nat_eq, List, [], ◌∷◌, ◌++◌, length, take, drop, Option, Some, None, codes, option_map, refl, sym, ap, ◌∙◌, arith, leb-true, le-leb, ne_eqb, eqb-true, take-append-drop}
use Rattle.std.proofs.lemmas.Bool.{eqb-false}
use Rattle.std.proofs.lemmas.Slice.Eq.{bytes_eq-Decides}
use Rattle.std.specs.Char.{is_ascii_digit}
use Rattle.std.specs.Option.{option_and_then}
use Rattle.std.specs.Str.{bytes_eq}
use Rattle.cg_text.specs.Decimal.{AreDigits, IsDecimal, read_on}
use Rattle.cg_value.specs.RowName.{behind, behind_number, behind_size, behind_unit, is_unit, row_name, IsSized}

-- ---- The number of a size

and_true : (a b : Bool) → a ≡ true → b ≡ true → (a && b) ≡ true
and_true true b e f = f
and_true false b e f = e

both_true : (a b : Bool) → (a && b) ≡ true → (a ≡ true) × (b ≡ true)
both_true true b e = (refl, e)
both_true false b e = absurd (cc)

digit_is : (c : ℕ) → 48 ≤ c → c ≤ 57 → is_ascii_digit c ≡ true
digit_is c low high = and_true _ _ (le-leb 48 c low) (le-leb c 57 high)

is_digit : (c : ℕ) → is_ascii_digit c ≡ true → (48 ≤ c) × (c ≤ 57)
is_digit c e = let both = both_true _ _ e in (leb-true 48 c both.0, leb-true c 57 both.1)

-- A further digit.
step_on : (n c : ℕ) (cs : List ℕ) → 48 ≤ c → c ≤ 57 → 1 ≤ 10 * n + (c - 48) → 10 * n + (c - 48) ≤ 1023 → behind_number n (c ∷ cs) ≡ behind_number (10 * n + (c - 48)) cs
step_on n c cs low high some small = rw (digit_is c low high, le-leb 1 (10 * n + (c - 48)) some, le-leb (10 * n + (c - 48)) 1023 small) refl

no_less : (n : ℕ) (cs : List ℕ) → n ≤ read_on n cs
no_less n [] = omega arith
no_less n (c ∷ cs) = omega (arith, no_less (10 * n + (c - 48)) cs)

digits_on : (n : ℕ) (cs tail : List ℕ) → 1 ≤ n → AreDigits cs → read_on n cs ≤ 1023 → behind_number n (cs ++ tail) ≡ behind_number (read_on n cs) tail
digits_on n [] tail some d small = refl
digits_on n (c ∷ cs) tail some d small =
    step_on n c (cs ++ tail) d.0 d.1 (omega (arith, some)) (omega (arith, small, no_less (10 * n + (c - 48)) cs))
    ∙ digits_on (10 * n + (c - 48)) cs tail (omega (arith, some)) d.2 small

decimal_on : (n : ℕ) (digits tail : List ℕ) → IsDecimal 1 1023 n digits → behind_number 0 (digits ++ tail) ≡ behind_number n tail
decimal_on n [] tail h = absurd h.2
decimal_on n (c ∷ cs) tail (some, small, inl h) = absurd (omega (arith, some, h.2))
decimal_on n (c ∷ cs) tail (some, small, inr h) =
    let first : 10 * 0 + (c - 48) ≡ c - 48 = omega arith in
    let below : c - 48 ≤ 1023 = omega (arith, h.1) in
    step_on 0 c (cs ++ tail) (omega (arith, h.0)) h.1 (omega (arith, h.0)) (omega (arith, h.1))
    ∙ ap (λ m. behind_number m (cs ++ tail)) first
    ∙ digits_on (c - 48) cs tail (omega (arith, h.0)) h.2 (omega (arith, small, h.3))
    ∙ ap (λ m. behind_number m tail) (sym h.3)

-- ---- Its unit

unit_cases : (unit : List ℕ) → is_unit unit ≡ true → (unit ≡ codes "KB") ⊎ ((unit ≡ codes "MB") ⊎ (unit ≡ codes "GB"))
unit_cases unit e = one_of (bytes_eq unit (codes "KB")) (bytes_eq unit (codes "MB")) (bytes_eq unit (codes "GB"))
    (bytes_eq-Decides unit (codes "KB")).0 (bytes_eq-Decides unit (codes "MB")).0 (bytes_eq-Decides unit (codes "GB")).0 e
  where
    one_of : {A B C : Type 0} (a b c : Bool) → (a ≡ true → A) → (b ≡ true → B) → (c ≡ true → C) → (a || b || c) ≡ true → A ⊎ (B ⊎ C)
    one_of true b c f g h e = inl (f refl)
    one_of false true c f g h e = inr (inl (g refl))
    one_of false false true f g h e = inr (inr (h refl))
    one_of false false false f g h e = absurd (cc)

above_zero : (n : ℕ) → 1 ≤ n → nat_eq n 0 ≡ false
above_zero n some = ne_eqb n 0 (λ e. omega (arith, some, e))

unit_after : (n : ℕ) (unit rest : List ℕ) → 1 ≤ n → is_unit unit ≡ true → option_and_then behind_unit (behind_number n (unit ++ rest)) ≡ Some rest
unit_after n unit rest some e = elim (unit_cases unit e) [
  | inl k ↦ rw (k, above_zero n some) refl
  | inr (inl k) ↦ rw (k, above_zero n some) refl
  | inr (inr k) ↦ rw (k, above_zero n some) refl
]

-- ---- A name with a size in it

sized_from : (name rest : List ℕ) → IsSized name rest → row_name name ≡ Some (codes "hugetlb.*" ++ rest)
sized_from name rest h =
    rw h.name_is (ap (λ (o : Option (List ℕ)). option_map (λ r. codes "hugetlb.*" ++ r) o)
    (ap (λ (o : Option (List ℕ)). option_and_then behind_unit o) (decimal_on h.number h.digits (h.unit ++ rest) h.digits_are) ∙ unit_after h.number h.unit rest h.digits_are.0 h.unit_is))

-- The digits in front of what is behind a number.
record HasDigits (n : ℕ) (text tail : List ℕ) : Type 0 where
  pub digits : List ℕ
  pub text_is : text ≡ digits ++ tail
  pub are : AreDigits digits
  pub some : 1 ≤ read_on n digits
  pub small : (read_on n digits ≤ 1023) ⊎ (digits ≡ [])

no_some : {X : Type 0} (x : X) → ◌≡◌ {A = Option X} None (Some x) → ⊥
no_some x e = cc

-- The digits behind a further one.
digits_more : (n c : ℕ) (cs tail : List ℕ) → 48 ≤ c → c ≤ 57 → 10 * n + (c - 48) ≤ 1023 → HasDigits (10 * n + (c - 48)) cs tail → HasDigits n (c ∷ cs) tail
digits_more n c cs tail low high small h = record {
  digits = c ∷ h.digits;
  text_is = ap (λ t. c ∷ t) h.text_is;
  are = (low, high, h.are);
  some = h.some;
  small = elim h.small [ inl k ↦ inl k | inr k ↦ inl (rw k small) ];
}

not_zero : (m : ℕ) → nat_eq m 0 ≡ false → 1 ≤ m
not_zero zero z = absurd (cc)
not_zero (suc m) z = omega arith

module _ (n c : ℕ) (cs tail : List ℕ) (later : behind_number (10 * n + (c - 48)) cs ≡ Some tail → HasDigits (10 * n + (c - 48)) cs tail) where
  by_range : (b : Bool) → (nat_le 1 (10 * n + (c - 48)) && nat_le (10 * n + (c - 48)) 1023) ≡ b → 48 ≤ c → c ≤ 57 → cond b (behind_number (10 * n + (c - 48)) cs) None ≡ Some tail → HasDigits n (c ∷ cs) tail
  by_range true r low high k = digits_more n c cs tail low high (leb-true _ _ (both_true _ _ r).1) (later k)
  by_range false r low high k = absurd (no_some tail k)

  by_zero : (b : Bool) → nat_eq n 0 ≡ b → cond b None (Some (c ∷ cs)) ≡ Some tail → HasDigits n (c ∷ cs) tail
  by_zero true r k = absurd (no_some tail k)
  by_zero false r k = record { digits = []; text_is = (let same : c ∷ cs ≡ tail = cc in same); are = tt; some = not_zero n r; small = inr refl }

  by_digit : (b : Bool) → is_ascii_digit c ≡ b →
      cond b (cond (nat_le 1 (10 * n + (c - 48)) && nat_le (10 * n + (c - 48)) 1023) (behind_number (10 * n + (c - 48)) cs) None) (cond (nat_eq n 0) None (Some (c ∷ cs))) ≡ Some tail → HasDigits n (c ∷ cs) tail
  by_digit true d k = let l = is_digit c d in by_range _ refl l.0 l.1 k
  by_digit false d k = by_zero _ refl k

digits_of : (n : ℕ) (text tail : List ℕ) → behind_number n text ≡ Some tail → HasDigits n text tail
digits_of n [] tail e = absurd (no_some tail e)
digits_of n (c ∷ cs) tail e = by_digit n c cs tail (digits_of (10 * n + (c - 48)) cs tail) (is_ascii_digit c) refl e

-- These are a decimal's: the first of them isn't 0.
zero_first : (d : ℕ) (ds tail : List ℕ) → d ≡ 48 → behind_number 0 (d ∷ (ds ++ tail)) ≡ Some tail → ◌≡◌ {A = Option (List ℕ)} None (Some tail)
zero_first d ds tail same k = rw same at k

above_48 : (c : ℕ) (cs tail : List ℕ) (b : Bool) → nat_eq c 48 ≡ b → 48 ≤ c → behind_number 0 (c ∷ (cs ++ tail)) ≡ Some tail → 49 ≤ c
above_48 c cs tail true z low k = absurd (no_some tail (zero_first c cs tail (eqb-true c 48 z) k))
above_48 c cs tail false z low k = let other : c ≡ 48 → ⊥ = λ same. eqb-false c 48 z same in omega (arith, low, other)

numbered : (digits tail : List ℕ) → AreDigits digits → 1 ≤ read_on 0 digits → (read_on 0 digits ≤ 1023) ⊎ (digits ≡ []) → behind_number 0 (digits ++ tail) ≡ Some tail → (n : ℕ) × IsDecimal 1 1023 n digits
numbered [] tail are some small e = absurd (omega (arith, some))
numbered (c ∷ cs) tail are some (inr none) e = absurd (cc)
numbered (c ∷ cs) tail are some (inl small) e =
    let begun : 10 * 0 + (c - 48) ≡ c - 48 = omega arith in
    (read_on 0 (c ∷ cs), (some, small, inr (above_48 c cs tail (nat_eq c 48) refl are.0 e, are.1, are.2, ap (λ m. read_on m cs) begun)))

decimal_of : (text tail : List ℕ) → behind_number 0 text ≡ Some tail → (n : ℕ) × (digits : List ℕ) × IsDecimal 1 1023 n digits × (text ≡ digits ++ tail)
decimal_of text tail e =
    let h = digits_of 0 text tail e in
    let number = numbered h.digits tail h.are h.some h.small (rw h.text_is at e) in
    (number.0, h.digits, number.1, h.text_is)

unit_of : (text rest : List ℕ) → behind_unit text ≡ Some rest → (unit : List ℕ) × (is_unit unit ≡ true) × (text ≡ unit ++ rest)
unit_of text rest e = by_unit (is_unit (take 2 text)) refl
  where
    by_unit : (b : Bool) → is_unit (take 2 text) ≡ b → (unit : List ℕ) × (is_unit unit ≡ true) × (text ≡ unit ++ rest)
    by_unit true u =
        let some : ◌≡◌ {A = Option (List ℕ)} (Some (drop 2 text)) (Some rest) = rw u at e in
        let back : drop 2 text ≡ rest = cc in
        (take 2 text, u, sym (take-append-drop 2 text) ∙ ap (λ t. take 2 text ++ t) back)
    by_unit false u = absurd (no_some rest (rw u at e))

sized_text : (text rest : List ℕ) → behind_size text ≡ Some rest → (n : ℕ) × (digits : List ℕ) × (unit : List ℕ) × IsDecimal 1 1023 n digits × (is_unit unit ≡ true) × (text ≡ digits ++ (unit ++ rest))
sized_text text rest e = by_number (behind_number 0 text) refl
  where
    by_number : (o : Option (List ℕ)) → behind_number 0 text ≡ o → (n : ℕ) × (digits : List ℕ) × (unit : List ℕ) × IsDecimal 1 1023 n digits × (is_unit unit ≡ true) × (text ≡ digits ++ (unit ++ rest))
    by_number None k = absurd (no_some rest (rw k at e))
    by_number (Some tail) k =
        let number = decimal_of text tail k in
        let unit = unit_of tail rest (rw k at e) in
        (number.0, number.1, unit.0, number.2, unit.1, number.3 ∙ ap (λ t. number.1 ++ t) unit.2)

-- It is the file's name, or begins with `hugetlb.*`.
sized_is : (o : Option (List ℕ)) (r : List ℕ) → option_map (λ rest. codes "hugetlb.*" ++ rest) o ≡ Some r → (rest : List ℕ) × (r ≡ codes "hugetlb.*" ++ rest) × (o ≡ Some rest)
sized_is None r e = absurd (no_some r e)
sized_is (Some rest) r e = (rest, (cc), refl)

front_is : (front name rest : List ℕ) → behind front name ≡ Some rest → name ≡ front ++ rest
front_is front name rest e = by_front (bytes_eq (take (length front) name) front) refl
  where
    by_front : (b : Bool) → bytes_eq (take (length front) name) front ≡ b → name ≡ front ++ rest
    by_front true u =
        let some : ◌≡◌ {A = Option (List ℕ)} (Some (drop (length front) name)) (Some rest) = rw u at e in
        let back : drop (length front) name ≡ rest = cc in
        sym (take-append-drop (length front) name) ∙ ap (λ t. t ++ drop (length front) name) ((bytes_eq-Decides _ front).0 u) ∙ ap (λ t. front ++ t) back
    by_front false u = absurd (no_some rest (rw u at e))

sized_to : (name rest : List ℕ) → row_name name ≡ Some (codes "hugetlb.*" ++ rest) → IsSized name rest
sized_to name rest e = by_front (behind (codes "hugetlb.") name) refl
  where
    no_front : (other : List ℕ) → other ≡ codes "hugetlb.*" ++ rest → behind (codes "hugetlb.") other ≡ None → ⊥
    no_front other same k = no_some (42 ∷ rest) (sym (rw same at k))

    by_front : (o : Option (List ℕ)) → behind (codes "hugetlb.") name ≡ o → IsSized name rest
    by_front None k =
        let some : ◌≡◌ {A = Option (List ℕ)} (Some name) (Some (codes "hugetlb.*" ++ rest)) = rw k at e in
        absurd (no_front name (cc) k)
    by_front (Some text) k =
        let sized = sized_is (behind_size text) (codes "hugetlb.*" ++ rest) (rw k at e) in
        let starred : codes "hugetlb.*" ++ rest ≡ codes "hugetlb.*" ++ sized.0 = sized.1 in
        let same : sized.0 ≡ rest = cc in
        let parts = sized_text text rest (sized.2 ∙ ap (λ r. Some r) same) in
        record { number = parts.0; digits = parts.1; unit = parts.2; digits_are = parts.3; unit_is = parts.4; name_is = front_is (codes "hugetlb.") name text k ∙ ap (λ t. codes "hugetlb." ++ t) parts.5 }

-- A name has a size in it exactly where its row has `*` in place of one.
pub sized_names : (name rest : List ℕ) → IsSized name rest ↔ (row_name name ≡ Some (codes "hugetlb.*" ++ rest))
sized_names name rest = (sized_from name rest, sized_to name rest)

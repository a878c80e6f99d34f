-- The texts of ranges are what is left of a list where none was taken.
use Rattle.std.proofs.Common.{◌≡◌, ℕ, ◌+◌, ◌≤◌, ◌⊎◌, ◌↔◌, inl, inr, Bool, true, false, None, List, [], ◌∷◌, ◌++◌, refl, sym, ◌∙◌, ap, arith, append_assoc}
use Rattle.cg_text.specs.Decimal.{IsDecimal}
use Rattle.cg_text.specs.Numbers.{IsSetFrom}
use Rattle.cg_text.specs.List.{IsRangeText, AreRangeTexts, IsLooseRangeText, AreLooseTexts}
use Rattle.cg_text.specs.RangesState.{LowRest, AfterRange, RangesRest}
use Rattle.cg_text.specs.ListState.{AreTexts, IsListRest}
use Rattle.cg_text.specs.RangesLaws.{append_nil, ranges_same, decimal_from, decimal_any}

-- A range's text, and then a text by N.
abbrev StrictThen : ℕ → (List ℕ → Type 0) → ℕ → ℕ × ℕ → List ℕ → Type 0
StrictThen most N least r text = (least ≤ r.0) × (r.0 ≤ r.1) × (x : List ℕ) × (more : List ℕ) × (text ≡ x ++ more) × IsRangeText most r x × N more

low_strict : (most : ℕ) (N : List ℕ → Type 0) (least : ℕ) (r : ℕ × ℕ) (text : List ℕ) → LowRest true most (λ x n. IsDecimal least most n x) N r text → StrictThen most N least r text
low_strict most N least r text (x, more, e, d, inl h) = (d.0, omega (arith, h.0), x, more, e, inl (h.0, decimal_any least most (r.0) x d), h.1)
low_strict most N least r text (x, more, e, d, inr h) =
    let c = h.2 in (
      d.0,
      omega (arith, c.3.0),
      x ++ 45 ∷ c.0,
      c.1,
      e ∙ ap (λ y. x ++ y) (h.1 ∙ ap (λ y. 45 ∷ y) c.2) ∙ sym (append_assoc x (45 ∷ c.0) c.1),
      inr (omega (arith, c.3.0), x, c.0, refl, decimal_any least most (r.0) x d, decimal_any (r.0 + 1) most (r.1) c.0 c.3),
      c.4,
    )

strict_low : (most : ℕ) (N : List ℕ → Type 0) (least : ℕ) (r : ℕ × ℕ) (text : List ℕ) → StrictThen most N least r text → LowRest true most (λ x n. IsDecimal least most n x) N r text
strict_low most N least r text (a, b, x, more, e, inl h, n) = (x, more, e, decimal_from least most (r.0) x h.1 a, inl (h.0, n))
strict_low most N least r text (a, b, x, more, e, inr h, n) = (
  h.1,
  45 ∷ (h.2 ++ more),
  e ∙ ap (λ y. y ++ more) h.3 ∙ append_assoc h.1 (45 ∷ h.2) more,
  decimal_from least most (r.0) h.1 h.4 a,
  inr (h.2 ++ more, refl, (h.2, more, refl, decimal_from (r.0 + 1) most (r.1) h.2 h.5 (omega (arith, h.0)), n)),
)

strict_to : (most least : ℕ) (rs : List (ℕ × ℕ)) (text : List ℕ) → RangesRest true most None (λ x n. IsDecimal least most n x) rs text → IsSetFrom least rs × AreRangeTexts most rs text
strict_to most least [] text h = absurd h
strict_to most least (r ∷ []) text h =
    let t = low_strict most (AfterRange true most (r.1) []) least r text h in
    let e : text ≡ t.2 = t.4 ∙ ap (λ y. t.2 ++ y) t.6 ∙ append_nil t.2 in
    ((t.0, t.1, tt), rw e t.5)
strict_to most least (r ∷ q ∷ rs) text h =
    let t = low_strict most (AfterRange true most (r.1) (q ∷ rs)) least r text h in
    let more = strict_to most (r.1 + 2) (q ∷ rs) t.6.0 t.6.2 in
    ((t.0, t.1, more.0), (t.2, t.6.0, t.4 ∙ ap (λ y. t.2 ++ y) t.6.1, t.5, more.1))

strict_of : (most least : ℕ) (r : ℕ × ℕ) (rs : List (ℕ × ℕ)) (text : List ℕ) → IsSetFrom least (r ∷ rs) → AreRangeTexts most (r ∷ rs) text → LowRest true most (λ x n. IsDecimal least most n x) (AfterRange true most (r.1) rs) r text
strict_of most least r [] text s h = strict_low most (AfterRange true most (r.1) []) least r text (s.0, s.1, text, [], sym (append_nil text), h, refl)
strict_of most least r (q ∷ rs) text s h = strict_low most (AfterRange true most (r.1) (q ∷ rs)) least r text (s.0, s.1, h.0, 44 ∷ h.1, h.2, h.3, (h.1, refl, strict_of most (r.1 + 2) q rs h.1 s.2 h.4))

strict_from : (most : ℕ) (rs : List (ℕ × ℕ)) (text : List ℕ) {Q : Type 0} → IsSetFrom 0 rs →
    AreRangeTexts most rs text → (RangesRest true most None (λ x n. IsDecimal 0 most n x) rs text → Q) →
    Q ⊎ ((◌≡◌ {A = ℕ} 0 0) × (rs ≡ []) × (text ≡ []))
strict_from most [] text s h f = inr (refl, refl, h)
strict_from most (r ∷ rs) text s h f = inl (f (strict_of most 0 r rs text s h))

-- The same in any order.
abbrev LooseThen : ℕ → (List ℕ → Type 0) → ℕ × ℕ → List ℕ → Type 0
LooseThen most N r text = (x : List ℕ) × (more : List ℕ) × (text ≡ x ++ more) × IsLooseRangeText most r x × N more

low_loose : (most : ℕ) (N : List ℕ → Type 0) (r : ℕ × ℕ) (text : List ℕ) → LowRest false most (λ x n. IsDecimal 0 most n x) N r text → LooseThen most N r text
low_loose most N r text (x, more, e, d, inl h) = (x, more, e, inl (h.0, d), h.1)
low_loose most N r text (x, more, e, d, inr h) =
    let c = h.2 in (
      x ++ 45 ∷ c.0,
      c.1,
      e ∙ ap (λ y. x ++ y) (h.1 ∙ ap (λ y. 45 ∷ y) c.2) ∙ sym (append_assoc x (45 ∷ c.0) c.1),
      inr (c.3.0, x, c.0, refl, d, decimal_any (r.0) most (r.1) c.0 c.3),
      c.4,
    )

loose_low : (most : ℕ) (N : List ℕ → Type 0) (r : ℕ × ℕ) (text : List ℕ) → LooseThen most N r text → LowRest false most (λ x n. IsDecimal 0 most n x) N r text
loose_low most N r text (x, more, e, inl h, n) = (x, more, e, h.1, inl (h.0, n))
loose_low most N r text (x, more, e, inr h, n) = (
  h.1,
  45 ∷ (h.2 ++ more),
  e ∙ ap (λ y. y ++ more) h.3 ∙ append_assoc h.1 (45 ∷ h.2) more,
  h.4,
  inr (h.2 ++ more, refl, (h.2, more, refl, decimal_from (r.0) most (r.1) h.2 h.5 h.0, n)),
)

loose_to : (most : ℕ) (rs : List (ℕ × ℕ)) (text : List ℕ) → RangesRest false most None (λ x n. IsDecimal 0 most n x) rs text → AreLooseTexts most rs text
loose_to most [] text h = absurd h
loose_to most (r ∷ []) text h =
    let t = low_loose most (AfterRange false most (r.1) []) r text h in
    let e : text ≡ t.0 = t.2 ∙ ap (λ y. t.0 ++ y) t.4 ∙ append_nil t.0 in
    rw e t.3
loose_to most (r ∷ q ∷ rs) text h =
    let t = low_loose most (AfterRange false most (r.1) (q ∷ rs)) r text h in
    (t.0, t.4.0, t.2 ∙ ap (λ y. t.0 ++ y) t.4.1, t.3, loose_to most (q ∷ rs) t.4.0 t.4.2)

loose_of : (most : ℕ) (r : ℕ × ℕ) (rs : List (ℕ × ℕ)) (text : List ℕ) → AreLooseTexts most (r ∷ rs) text → LowRest false most (λ x n. IsDecimal 0 most n x) (AfterRange false most (r.1) rs) r text
loose_of most r [] text h = loose_low most (AfterRange false most (r.1) []) r text (text, [], sym (append_nil text), h, refl)
loose_of most r (q ∷ rs) text h = loose_low most (AfterRange false most (r.1) (q ∷ rs)) r text (h.0, 44 ∷ h.1, h.2, h.3, (h.1, refl, loose_of most q rs h.1 h.4))

loose_from : (most : ℕ) (rs : List (ℕ × ℕ)) (text : List ℕ) {Q : Type 0} → AreLooseTexts most rs text → (RangesRest false most None (λ x n. IsDecimal 0 most n x) rs text → Q) → Q ⊎ ((◌≡◌ {A = ℕ} 0 0) × (rs ≡ []) × (text ≡ []))
loose_from most [] text h f = inr (refl, refl, h)
loose_from most (r ∷ rs) text h f = inl (f (loose_of most r rs text h))

-- A new token.
pub list_new : (strict : Bool) (most : ℕ) (P : List ℕ → ℕ → Type 0) → ((x : List ℕ) (n : ℕ) → P x n ↔ IsDecimal 0 most n x) →
    (items : List (ℕ × ℕ)) → items ≡ [] → (rest : List ℕ) (all : List (ℕ × ℕ)) →
    IsListRest strict items most None P rest all ↔ AreTexts strict most all rest
list_new true most P f items e rest all = rw e (
  λ h. elim h.2 [
    | inl k ↦ (let t = strict_to most 0 h.0 rest (ranges_same true most P (λ x n. IsDecimal 0 most n x) (λ x n. (f x n).0) None h.0 rest k) in rw h.1 t)
    | inr k ↦ (let e : all ≡ [] = h.1 ∙ k.1 in rw (e, k.2) (tt, refl))
  ],
  λ h. (all, refl, strict_from most all rest h.0 h.1 (λ k. ranges_same true most (λ x n. IsDecimal 0 most n x) P (λ x n. (f x n).1) None all rest k)),
)
list_new false most P f items e rest all = rw e (
  λ h. elim h.2 [
    | inl k ↦ (let t = loose_to most h.0 rest (ranges_same false most P (λ x n. IsDecimal 0 most n x) (λ x n. (f x n).0) None h.0 rest k) in rw h.1 t)
    | inr k ↦ (let e : all ≡ [] = h.1 ∙ k.1 in rw (e, k.2) refl)
  ],
  λ h. (all, refl, loose_from most all rest h (λ k. ranges_same false most (λ x n. IsDecimal 0 most n x) P (λ x n. (f x n).1) None all rest k)),
)

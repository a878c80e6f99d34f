-- What is left of a list of ranges, be it strict or loose.
use Rattle.std.specs.Prelude.{◌≡◌, ℕ, ◌+◌, ◌≤◌, ◌⊎◌, ◌↔◌, Bool, true, false, Option, Some, None, List, [], ◌∷◌, ◌++◌, length}
use Rattle.cg_text.specs.Decimal.{IsDecimal}
use Rattle.cg_text.specs.DecimalState.{IsDecimalRest}
use Rattle.cg_text.specs.declared.decimal.DecimalText.{DecimalText}
use Rattle.cg_text.specs.declared.ranges.ListByte.{ListByte}
use Rattle.cg_text.specs.declared.ranges.ListByte.TheVariants.{Digit, Dash, Comma, Refused}

-- All but the last.
abbrev pub front : {X : Type 0} → List X → List X
front [] = []
front (x ∷ []) = []
front (x ∷ y ∷ xs) = x ∷ front (y ∷ xs)

-- A text by P, and then one by N.
abbrev pub Cut : (List ℕ → Type 0) → (List ℕ → Type 0) → List ℕ → Type 0
Cut P N text = (first : List ℕ) × (more : List ℕ) × (text ≡ first ++ more) × P first × N more

-- The least number after n and a dash.
abbrev pub after_dash_from : Bool → ℕ → ℕ
after_dash_from true n = n + 1
after_dash_from false n = n

-- The least number after n and a comma.
abbrev pub after_comma_from : Bool → ℕ → ℕ
after_comma_from true n = n + 2
after_comma_from false n = 0

-- The range r, its first number by P, and then a text by N.
abbrev pub LowRest : Bool → ℕ → (List ℕ → ℕ → Type 0) → (List ℕ → Type 0) → ℕ × ℕ → List ℕ → Type 0
LowRest strict most P N r text = Cut (λ x. P x (r.0)) (λ more. ((r.0 ≡ r.1) × N more) ⊎ ((u : List ℕ) × (more ≡ 45 ∷ u) × Cut (λ x. IsDecimal (after_dash_from strict (r.0)) most (r.1) x) N u)) text

-- What follows a range that ends at b.
abbrev pub AfterRange : Bool → ℕ → ℕ → List (ℕ × ℕ) → List ℕ → Type 0
AfterRange strict most b [] text = text ≡ []
AfterRange strict most b (r ∷ rs) text = (u : List ℕ) × (text ≡ 44 ∷ u) × LowRest strict most (λ x n. IsDecimal (after_comma_from strict b) most n x) (AfterRange strict most (r.1) rs) r u

-- The ranges to come, where P is what is left of a number: the first of a range, or the second of one that begins at a.
abbrev pub RangesRest : Bool → ℕ → Option ℕ → (List ℕ → ℕ → Type 0) → List (ℕ × ℕ) → List ℕ → Type 0
RangesRest strict most low P [] text = ⊥
RangesRest strict most None P (r ∷ rs) text = LowRest strict most P (AfterRange strict most (r.1) rs) r text
RangesRest strict most (Some a) P (r ∷ rs) text = (r.0 ≡ a) × Cut (λ x. P x (r.1)) (AfterRange strict most (r.1) rs) text

-- The ranges to come are as A says. There are none only where there are none so far.
abbrev pub ListRest : Bool → List (ℕ × ℕ) → ℕ → Option ℕ → (List ℕ → ℕ → Type 0) → (List (ℕ × ℕ) → Type 0) → List ℕ → Type 0
ListRest strict items most low P A rest = (rs : List (ℕ × ℕ)) × A rs × (RangesRest strict most low P rs rest ⊎ ((length items ≡ 0) × (rs ≡ []) × (rest ≡ [])))

-- Where a range begins that ends at n.
abbrev pub begin_of : Option ℕ → ℕ → ℕ
begin_of None n = n
begin_of (Some a) n = a

-- The ways in which a byte begins a rest.
abbrev pub Begun : Bool → ℕ → Option ℕ → (List ℕ → ℕ → Type 0) → ℕ → Type 0
Begun strict most low P byte = ((rest : List ℕ) × (n : ℕ) × P (byte ∷ rest) n)
    ⊎ ((byte ≡ 44) × (n : ℕ) × P [] n × (after_comma_from strict n ≤ most))
    ⊎ ((byte ≡ 45) × (low ≡ None) × (n : ℕ) × P [] n × (after_dash_from strict n ≤ most))

abbrev pub number_rest : DecimalText → List ℕ → ℕ → Type 0
number_rest d rest n = IsDecimalRest d.lo d.hi d.progress rest n

-- What a turn tells of the byte.
abbrev pub IsListByte : Bool → ℕ → Option ℕ → DecimalText → ℕ → ListByte → Type 0
IsListByte strict most low old byte (Digit new) = (rest : List ℕ) (n : ℕ) → number_rest new rest n ↔ number_rest old (byte ∷ rest) n
IsListByte strict most low old byte (Comma end new) = (byte ≡ 44) × number_rest old [] end × (after_comma_from strict end ≤ most) × ((rest : List ℕ) (n : ℕ) → number_rest new rest n ↔ IsDecimal (after_comma_from strict end) most n rest)
IsListByte strict most low old byte (Dash end new) =
    (byte ≡ 45) × number_rest old [] end × (after_dash_from strict end ≤ most)
    × ((rest : List ℕ) (n : ℕ) → number_rest new rest n ↔ IsDecimal (after_dash_from strict end) most n rest)
    × (low ≡ None)
IsListByte strict most low old byte Refused = Begun strict most low (number_rest old) byte → ⊥

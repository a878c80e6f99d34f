-- What is left of a trigger's times.
use Rattle.std.specs.Prelude.{◌≡◌, ℕ, ◌≤◌, ◌⊎◌, ◌↔◌, Bool, false, Option, Some, None, List, [], ◌∷◌, ◌++◌}
use Rattle.cg_text.specs.Decimal.{IsDecimal}
use Rattle.cg_text.specs.RangesState.{number_rest}
use Rattle.cg_text.specs.declared.decimal.DecimalText.{DecimalText}
use Rattle.cg_text.specs.declared.trigger.Times.{Times}
use Rattle.cg_text.specs.declared.trigger.TimesByte.{TimesByte}
use Rattle.cg_text.specs.declared.trigger.TimesByte.TheVariants.{Digit, Space, Refused}

-- What is left, where P is what is left of a number: the stall, or the window after a stall.
abbrev pub TimesRest : Option ℕ → (List ℕ → ℕ → Type 0) → List ℕ → Times → Type 0
TimesRest None P text v = (front : List ℕ) × (back : List ℕ) × (text ≡ front ++ 32 ∷ back) × P front v.stall × IsDecimal v.stall 10000000 v.window back
TimesRest (Some a) P text v = (v.stall ≡ a) × P text v.window

-- The ways in which a byte begins a rest.
abbrev pub TimesBegun : Option ℕ → (List ℕ → ℕ → Type 0) → ℕ → Type 0
TimesBegun stall P byte = ((rest : List ℕ) × (n : ℕ) × P (byte ∷ rest) n) ⊎ ((byte ≡ 32) × (stall ≡ None) × (n : ℕ) × P [] n × (n ≤ 10000000))

-- What a turn tells of the byte.
abbrev pub IsTimesByte : Option ℕ → DecimalText → ℕ → TimesByte → Type 0
IsTimesByte stall old byte (Digit new) = (rest : List ℕ) (n : ℕ) → number_rest new rest n ↔ number_rest old (byte ∷ rest) n
IsTimesByte stall old byte (Space end new) = (byte ≡ 32) × number_rest old [] end × (end ≤ 10000000) × ((rest : List ℕ) (n : ℕ) → number_rest new rest n ↔ IsDecimal end 10000000 n rest) × (stall ≡ None)
IsTimesByte stall old byte Refused = TimesBegun stall (number_rest old) byte → ⊥

abbrev pub times_end : Option ℕ → Bool → Bool
times_end None e = false
times_end (Some a) e = e

-- A window is within reach.
abbrev pub IsWithin : (List ℕ → ℕ → Type 0) → Type 0
IsWithin P = (rest : List ℕ) (n : ℕ) → P rest n → n ≤ 10000000

-- What holds of what is left of a decimal text.
use Rattle.std.proofs.Common.{◌≡◌, ℕ, ◌≤◌, ◌↔◌, Option, Some, None, List, [], ◌∷◌, IsTrue}
use Rattle.cg_text.specs.Decimal.{AreDigits}
use Rattle.cg_text.specs.DecimalLaws.{IsDecimalRest_completes, IsDecimalRest_one, decimal_ends_is, number_digits}
use Rattle.cg_text.specs.NumberRest.{number_rest, maybe_rest, maybe_ends}
use Rattle.cg_text.specs.declared.decimal.DecimalText.{DecimalText}

-- A number can be completed.
pub number_completes : (d : DecimalText) → (rest : List ℕ) × (n : ℕ) × number_rest d rest n
number_completes d = IsDecimalRest_completes d.lo d.hi d.progress d.range d.live

pub maybe_digits : (p : Option DecimalText) (rest : List ℕ) (n : ℕ) → maybe_rest p rest n → AreDigits rest
maybe_digits None rest n h = absurd h
maybe_digits (Some d) rest n h = number_digits d.lo d.hi d.progress rest n h

-- A byte that begins a rest is a digit.
pub digit_begins : (p : Option DecimalText) (byte : ℕ) (rest : List ℕ) (n : ℕ) → maybe_rest p (byte ∷ rest) n → (48 ≤ byte) × (byte ≤ 57)
digit_begins p byte rest n h = let d = maybe_digits p (byte ∷ rest) n h in (d.0, d.1)

pub maybe_one : (p : Option DecimalText) (rest : List ℕ) (m n : ℕ) → maybe_rest p rest m → maybe_rest p rest n → m ≡ n
maybe_one None rest m n h k = absurd h
maybe_one (Some d) rest m n h k = IsDecimalRest_one d.lo d.hi d.progress rest m n h k

pub maybe_ends_is : (p : Option DecimalText) → IsTrue (maybe_ends p) ↔ ((n : ℕ) × maybe_rest p [] n)
maybe_ends_is None = (λ e. absurd (cc), λ h. absurd h.1)
maybe_ends_is (Some d) = decimal_ends_is d.lo d.hi d.progress

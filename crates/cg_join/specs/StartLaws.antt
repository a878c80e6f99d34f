-- What holds of the texts of which repetitions are made.
use Rattle.std.proofs.Common.{ℕ, ◌≤◌, List, [], ◌∷◌, ◌++◌, refl, arith}
use Rattle.cg_text.specs.Token.{AreBytes, HasOneText}
use Rattle.cg_text.specs.Decimal.{AreDigits, IsDecimal}
use Rattle.cg_text.specs.DecimalLaws.{IsDecimalRest_completes, IsDecimalRest_one, number_digits, digits_bytes}
use Rattle.cg_text.specs.declared.decimal.Progress.TheVariants.{Start}
use Rattle.cg_join.specs.Line.{LacksByte}
use Rattle.cg_join.specs.Repeat.{Stops}

-- Where no text has the byte, none goes on with it.
pub lacks_stops : {V : Type 0} (R : List ℕ → V → Type 0) (separator : ℕ) → LacksByte R separator → Stops R separator
lacks_stops R separator lacks front more v u h k = lacks front more u k

pub some_decimal : (lo hi : ℕ) → lo ≤ hi → (text : List ℕ) × (n : ℕ) × IsDecimal lo hi n text
some_decimal lo hi le = IsDecimalRest_completes lo hi Start le refl

pub one_decimal : (lo hi : ℕ) → HasOneText (λ text n. IsDecimal lo hi n text)
one_decimal lo hi text m n h k = IsDecimalRest_one lo hi Start text m n h k

pub decimal_bytes : (lo hi : ℕ) (text : List ℕ) (n : ℕ) → IsDecimal lo hi n text → AreBytes text
decimal_bytes lo hi text n h = digits_bytes text (number_digits lo hi Start text n h)

pub digit_inside : (front more : List ℕ) (b : ℕ) → AreDigits (front ++ b ∷ more) → (48 ≤ b) × (b ≤ 57)
digit_inside [] more b h = (h.0, h.1)
digit_inside (x ∷ front) more b h = digit_inside front more b h.2

-- A number's text has digits alone.
pub decimal_only : (lo hi b : ℕ) → (48 ≤ b → b ≤ 57 → ⊥) → LacksByte (λ text n. IsDecimal lo hi n text) b
decimal_only lo hi b other front more n h = let d = digit_inside front more b (number_digits lo hi Start (front ++ b ∷ more) n h) in other d.0 d.1

pub zero_least : (n : ℕ) → 0 ≤ n
zero_least n = omega arith

-- What is left of a decimal text.
use Rattle.std.specs.Prelude.{◌≡◌, ℕ, zero, suc, ◌+◌, ◌*◌, ◌^◌, ◌≤◌, ◌<◌, Bool, true, false, ◌&&◌, ◌||◌, leb, ltb, eqb, List, []}
use Rattle.cg_text.specs.Decimal.{IsDecimal, AreDigits, read_on}
use Rattle.cg_text.specs.declared.decimal.Progress.{Progress}
use Rattle.cg_text.specs.declared.decimal.Progress.TheVariants.{Start, Zero, Number}

-- With some number of further digits, numbers from low to below high meet those from lo to hi.
pub record Spans (lo hi low high : ℕ) : Type 0 where
  pub digits : ℕ
  pub meets_hi : low * 10 ^ digits ≤ hi
  pub meets_lo : lo < high * 10 ^ digits

-- Some number of digits after those of n gives a number from lo to hi.
abbrev pub Reaches : ℕ → ℕ → ℕ → Type 0
Reaches lo hi n = Spans lo hi n (n + 1)

-- The test holds of a number below the bound.
abbrev pub some_below : (ℕ → Bool) → ℕ → Bool
some_below p zero = false
some_below p (suc n) = p n || some_below p n

-- Whether Reaches holds: a number above 0 has less than hi + 1 digits to come.
unfoldable pub reaches : ℕ → ℕ → ℕ → Bool
reaches lo hi n = some_below (λ k. leb (n * 10 ^ k) hi && ltb lo ((n + 1) * 10 ^ k)) (suc hi)

-- The rest completes a number from lo to hi.
abbrev pub IsDecimalRest : ℕ → ℕ → Progress → List ℕ → ℕ → Type 0
IsDecimalRest lo hi Start rest n = IsDecimal lo hi n rest
IsDecimalRest lo hi Zero rest n = (rest ≡ []) × (n ≡ 0)
IsDecimalRest lo hi (Number m) rest n = (lo ≤ n) × (n ≤ hi) × AreDigits rest × (n ≡ read_on m rest)

-- Some rest does.
abbrev pub is_open : ℕ → ℕ → Progress → Bool
is_open lo hi Start = true
is_open lo hi Zero = eqb lo 0
is_open lo hi (Number m) = ltb 0 m && reaches lo hi m

-- Whether nothing need follow.
abbrev pub decimal_ends : ℕ → ℕ → Progress → Bool
decimal_ends lo hi Start = false
decimal_ends lo hi Zero = true
decimal_ends lo hi (Number m) = leb lo m && leb m hi

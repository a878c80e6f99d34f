-- Texts of which a repetition can be made.
use Rattle.std.specs.Prelude.{ℕ, List}
use Rattle.cg_text.specs.Token.{AreBytes, HasOneText}

-- There is a text; a text has one value, and holds bytes.
pub record IsProper {V : Type 0} (R : List ℕ → V → Type 0) : Type 0 where
  pub some_text : (text : List ℕ) × (v : V) × R text v
  pub one_text : HasOneText R
  pub text_bytes : (text : List ℕ) (v : V) → R text v → AreBytes text

-- The two times of a pressure trigger (psi.rst, "Monitoring for pressure thresholds"), in microseconds.
use Rattle.std.specs.Prelude.{◌≡◌, ℕ, List, ◌∷◌, ◌++◌}
use Rattle.cg_text.specs.Decimal.{IsDecimal}
use Rattle.cg_text.specs.declared.trigger.Times.{Times}

-- The text is a stall, a space and a window, with 1 <= stall <= window <= 10000000.
pub record AreTimes (times : Times) (text : List ℕ) : Type 0 where
  pub stall : List ℕ
  pub window : List ℕ
  pub text_is : text ≡ stall ++ 32 ∷ window
  pub stall_is : IsDecimal 1 10000000 times.stall stall
  pub window_is : IsDecimal times.stall 10000000 times.window window

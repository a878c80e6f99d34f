-- Limits (cgroup-v2.rst, "Conventions": the word max means no limit).
use Rattle.std.specs.Prelude.{◌≡◌, ℕ, List, codes}
use Rattle.cg_text.specs.Decimal.{IsDecimal}
use Rattle.cg_text.specs.declared.values.Limit.{Limit}
use Rattle.cg_text.specs.declared.values.Limit.TheVariants.{Max, At}

-- The text is max, or that of a number from lo to hi.
abbrev pub IsLimit : ℕ → ℕ → Limit → List ℕ → Type 0
IsLimit lo hi Max text = text ≡ codes "max"
IsLimit lo hi (At n) text = IsDecimal lo hi n text

-- Utilization clamps (cgroup-v2.rst, cpu.uclamp.min and cpu.uclamp.max: a percentage, or max).
use Rattle.std.specs.Prelude.{◌≡◌, List, ℕ, codes}
use Rattle.cg_text.specs.Hundredths.{IsHundredths}
use Rattle.cg_text.specs.declared.values.Clamp.{Clamp}
use Rattle.cg_text.specs.declared.values.Clamp.TheVariants.{Max, At}
use Rattle.cg_text.specs.declared.hundredths.Spelling.{Spelling}

-- The text is max, or that of a percentage of at most 100.00.
abbrev pub IsClamp : Spelling → Clamp → List ℕ → Type 0
IsClamp form Max text = text ≡ codes "max"
IsClamp form (At h) text = IsHundredths form 10000 h text

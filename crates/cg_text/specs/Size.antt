-- Sizes of memory with a suffix (cgroup-v2.rst, "Conventions" and memory.max; the suffixes of the kernel's memparse).
use Rattle.std.specs.Prelude.{◌≡◌, ℕ, ◌*◌, ◌≤◌, ◌⊎◌, List, [], ◌∷◌, ◌++◌}
use Rattle.cg_text.specs.Decimal.{IsNumeral}

-- The suffix has this factor.
abbrev pub HasFactor : ℕ → ℕ → Type 0
HasFactor suffix factor = (((suffix ≡ 75) ⊎ (suffix ≡ 107)) × (factor ≡ 1024))
    ⊎ ((((suffix ≡ 77) ⊎ (suffix ≡ 109)) × (factor ≡ 1048576))
    ⊎ ((((suffix ≡ 71) ⊎ (suffix ≡ 103)) × (factor ≡ 1073741824))
    ⊎ ((((suffix ≡ 84) ⊎ (suffix ≡ 116)) × (factor ≡ 1099511627776))
    ⊎ ((((suffix ≡ 80) ⊎ (suffix ≡ 112)) × (factor ≡ 1125899906842624))
    ⊎ (((suffix ≡ 69) ⊎ (suffix ≡ 101)) × (factor ≡ 1152921504606846976))))))

-- The text is that of m and at most one suffix, of this factor.
abbrev pub HasSize : ℕ → ℕ → List ℕ → Type 0
HasSize m factor text = (IsNumeral m text × (factor ≡ 1))
    ⊎ ((digits : List ℕ) × (suffix : ℕ) × (text ≡ digits ++ suffix ∷ []) × IsNumeral m digits × HasFactor suffix factor)

-- The text is that of n bytes.
pub record IsSize (n : ℕ) (text : List ℕ) : Type 0 where
  pub count : ℕ
  pub factor : ℕ
  pub product : n ≡ count * factor
  pub fits : n ≤ 18446744073709551615
  pub spelled : HasSize count factor text

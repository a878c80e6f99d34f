-- Which numbers a write can hold.
use Rattle.std.specs.Prelude.{◌≡◌, ℕ, ◌≤◌, Bool, IsTrue, List, [], ◌∷◌, Option, Some, None}
use Rattle.cg_text.specs.declared.pairs.LimitPairs.{LimitPairs}
use Rattle.cg_text.specs.declared.values.Clamp.{Clamp}
use Rattle.cg_text.specs.declared.values.Clamp.TheVariants as clamp
use Rattle.cg_text.specs.declared.values.Device.{Device}
use Rattle.cg_text.specs.declared.values.Limit.{Limit}
use Rattle.cg_text.specs.declared.values.Limit.TheVariants.{Max, At}
use Rattle.cg_value.specs.Kind.{any_u64}

-- The number lies from lo to hi.
abbrev pub IsWithin : ℕ → ℕ → ℕ → Type 0
IsWithin lo hi n = (lo ≤ n) × (n ≤ hi)

-- So it does where it is given.
abbrev pub IsGivenWithin : ℕ → ℕ → Option ℕ → Type 0
IsGivenWithin lo hi None = Unit {0}
IsGivenWithin lo hi (Some n) = IsWithin lo hi n

-- The limit is none, or lies from lo to hi.
abbrev pub IsLimitWithin : ℕ → ℕ → Limit → Type 0
IsLimitWithin lo hi Max = Unit {0}
IsLimitWithin lo hi (At n) = IsWithin lo hi n

-- The clamp is none, or at most 100.00.
abbrev pub IsClampWithin : Clamp → Type 0
IsClampWithin clamp.Max = Unit {0}
IsClampWithin (clamp.At h) = h.count ≤ 10000

abbrev pub IsDeviceWithin : Device → Type 0
IsDeviceWithin d = (d.major ≤ 4095) × (d.minor ≤ 1048575)

-- A quota with its period.
abbrev pub IsQuotaWithin : Limit → Option ℕ → Type 0
IsQuotaWithin quota period = IsLimitWithin 1000 any_u64 quota × IsGivenWithin 1000 1000000 period

-- A swappiness is at most 200 or, where it may be, max, where it is given.
abbrev pub IsSwappinessWithin : Bool → Option Limit → Type 0
IsSwappinessWithin max None = Unit {0}
IsSwappinessWithin max (Some Max) = IsTrue max
IsSwappinessWithin max (Some (At n)) = IsWithin 0 200 n

-- A limit of a device is at least 1, where it is given.
abbrev pub IsGivenLimitWithin : Option Limit → Type 0
IsGivenLimitWithin None = Unit {0}
IsGivenLimitWithin (Some l) = IsLimitWithin 1 any_u64 l

abbrev pub NoneGiven : LimitPairs → Type 0
NoneGiven v = (v.rbps ≡ None) × (v.wbps ≡ None) × (v.riops ≡ None) × (v.wiops ≡ None)

-- The limits of a device, of which one is given.
pub record AreLimitsWithin (v : LimitPairs) : Type 0 where
  pub some : NoneGiven v → ⊥
  pub rbps : IsGivenLimitWithin v.rbps
  pub wbps : IsGivenLimitWithin v.wbps
  pub riops : IsGivenLimitWithin v.riops
  pub wiops : IsGivenLimitWithin v.wiops

-- A stall with its window.
abbrev pub AreTimesWithin : ℕ → ℕ → Type 0
AreTimesWithin stall window = (1 ≤ stall) × (stall ≤ window) × (window ≤ 10000000)

-- No range ends above most.
abbrev pub AreRangesWithin : ℕ → List (ℕ × ℕ) → Type 0
AreRangesWithin most [] = Unit {0}
AreRangesWithin most (r ∷ rs) = (r.1 ≤ most) × AreRangesWithin most rs

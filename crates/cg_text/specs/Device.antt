-- Block devices (cgroup-v2.rst, io.max: $MAJ:$MIN; mm/backing-dev.c: what is printed of a device that is gone).
use Rattle.std.specs.Prelude.{◌≡◌, ℕ, Bool, IsTrue, List, ◌∷◌, ◌++◌, Option, Some, None, codes}
use Rattle.cg_text.specs.Decimal.{IsDecimal}
use Rattle.cg_text.specs.declared.values.Device.{Device}

-- The text is a major number of at most 4095, a colon, and a minor number of at most 1048575.
pub record IsDevice (device : Device) (text : List ℕ) : Type 0 where
  pub major : List ℕ
  pub minor : List ℕ
  pub text_is : text ≡ major ++ 58 ∷ minor
  pub major_is : IsDecimal 0 4095 device.major major
  pub minor_is : IsDecimal 0 1048575 device.minor minor

-- The text is that of the device; where unknown, also (unknown), which stands for a device that is gone.
abbrev pub IsDeviceName : Bool → Option Device → List ℕ → Type 0
IsDeviceName unknown (Some device) text = IsDevice device text
IsDeviceName unknown None text = IsTrue unknown × (text ≡ codes "(unknown)")

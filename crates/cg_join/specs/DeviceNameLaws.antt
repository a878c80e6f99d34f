-- What holds of names of devices.
use Rattle.std.proofs.Common.{◌∷◌, ℕ, ◌≤◌, ◌↔◌, Bool, List, Option, Some, None, refl, codes, arith}
use Rattle.cg_text.specs.Device.{IsDeviceName}
use Rattle.cg_text.specs.declared.keyword.Keyword.TheVariants.{Unknown}
use Rattle.cg_text.specs.declared.values.Device.{Device}
use Rattle.cg_join.specs.BeginsLaws.{concat_begins, decimal_begins, fixed_begins}
use Rattle.cg_join.specs.Composites.{IsADevice}
use Rattle.cg_join.specs.DeviceLaws.{device_is}
use Rattle.cg_join.specs.DeviceNameState.{device_named}
use Rattle.cg_join.specs.DeviceState.{numbers_of}
use Rattle.cg_join.specs.DisjointLaws.{digits_disjoint, disjoint_swap}
use Rattle.cg_join.specs.FilledLaws.{decimal_is_filled, fixed_filled}
use Rattle.cg_join.specs.Fork.{AllBegin}
use Rattle.cg_join.specs.Proper.{IsProper}
use Rattle.cg_join.specs.ProperLaws.{keyword_proper}
use Rattle.cg_join.specs.Spelling.{IsAllowed, IsEither, IsMappedText, Disjoint}
use Rattle.cg_join.specs.TextBytes.{BeginsBy, IsFixed}
use Rattle.cg_join.specs.declared.choice.Either.{Either}
use Rattle.cg_join.specs.declared.choice.Either.TheVariants.{Left, Right}

abbrev pub IsGone : List ℕ → Unit {0} → Type 0
IsGone text u = IsFixed (codes "(unknown)") text u

pub gone_begin : AllBegin IsGone 40
gone_begin = (fixed_filled 40 (codes "unknown)"), fixed_begins 40 (codes "unknown)"))

pub gone_proper : IsProper IsGone
gone_proper = keyword_proper Unknown

-- Its major number does.
pub device_begins : BeginsBy (λ c. (48 ≤ c) × (c ≤ 57)) IsADevice
device_begins = record {
  is = λ byte back v h. (concat_begins (decimal_is_filled 0 4095) (decimal_begins 0 4095)).is byte back (numbers_of v) ((device_is (byte ∷ back) v).1 h);
}

-- A device begins with a digit.
pub device_not_gone : Disjoint IsADevice IsGone
device_not_gone = disjoint_swap IsGone IsADevice (digits_disjoint gone_begin.0 gone_begin.1 device_begins (λ low high. omega (arith, low)))

name_from : (unknown : Bool) (text : List ℕ) (x : Either Device (Unit {0})) → IsEither IsADevice (IsAllowed unknown IsGone) text x → IsDeviceName unknown (device_named x) text
name_from unknown text (Left device) h = h
name_from unknown text (Right u) h = h

name_to : (unknown : Bool) (text : List ℕ) (v : Option Device) → IsDeviceName unknown v text → IsMappedText (IsEither IsADevice (IsAllowed unknown IsGone)) device_named text v
name_to unknown text None h = (Right tt, h, refl)
name_to unknown text (Some device) h = (Left device, h, refl)

-- The two alternatives of a device's name, turned into its values.
pub device_name_is : (unknown : Bool) (text : List ℕ) (v : Option Device) → IsMappedText (IsEither IsADevice (IsAllowed unknown IsGone)) device_named text v ↔ IsDeviceName unknown v text
device_name_is unknown text v = (λ h. (let k = name_from unknown text h.0 h.1 in rw h.2 at k), λ h. name_to unknown text v h)

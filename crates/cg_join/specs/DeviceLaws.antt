-- What holds of devices.
use Rattle.std.proofs.Common.{◌≡◌, ℕ, ◌↔◌, Bool, List, [], ◌∷◌, ◌++◌, refl, ap, arith, IsTrue}
use Rattle.cg_text.specs.Decimal.{IsDecimal, AreDigits}
use Rattle.cg_text.specs.DecimalLaws.{number_digits}
use Rattle.cg_text.specs.Device.{IsDevice}
use Rattle.cg_text.specs.Token.{HasOneText}
use Rattle.cg_text.specs.declared.decimal.Progress.TheVariants.{Start}
use Rattle.cg_text.specs.Pushed.{Stops}
use Rattle.cg_text.specs.PushLaws.{stops_as}
use Rattle.cg_text.specs.declared.pushed.Pushed.{Pushed}
use Rattle.cg_text.specs.declared.values.Device.{Device}
use Rattle.cg_join.specs.DeviceState.{numbers_of, HasNarrow}
use Rattle.cg_join.specs.Spelling.{IsConcat, Apart}

abbrev pub IsMajor : List ℕ → ℕ → Type 0
IsMajor text n = IsDecimal 0 4095 n text

abbrev pub IsColon : List ℕ → Unit {0} → Type 0
IsColon text _ = text ≡ 58 ∷ []

abbrev pub IsMinor : List ℕ → ℕ → Type 0
IsMinor text n = IsDecimal 0 1048575 n text

-- A colon goes on with nothing.
colon_alone : (front more : List ℕ) (byte : ℕ) → front ≡ 58 ∷ [] → front ++ byte ∷ more ≡ 58 ∷ [] → ⊥
colon_alone [] more byte e f = absurd (cc)
colon_alone (c ∷ []) more byte e f = absurd (cc)
colon_alone (c ∷ d ∷ front) more byte e f = absurd (cc)

pub colon_apart : Apart IsColon IsMinor
colon_apart front more back byte v u w h k l = colon_alone front more byte h k

colon_first : (byte : ℕ) (back front rest : List ℕ) → byte ∷ back ≡ front ++ rest → front ≡ 58 ∷ [] → byte ≡ 58
colon_first byte back [] rest e f = absurd (cc)
colon_first byte back (c ∷ front) rest e f = cc

colon_no_digit : (front back : List ℕ) → AreDigits (front ++ 58 ∷ back) → ⊥
colon_no_digit [] back h = omega (arith, h.1)
colon_no_digit (c ∷ front) back h = colon_no_digit front back h.2

-- The major number stands before a colon.
pub major_apart : Apart IsMajor (IsConcat IsColon IsMinor)
major_apart front more back byte v u w h k l =
    let e : byte ≡ 58 = colon_first byte back l.front l.back l.whole l.begins in
    colon_no_digit front more (number_digits 0 4095 Start (front ++ 58 ∷ more) u (rw e at k))

-- The three parts of a device.
pub device_is : (text : List ℕ) (device : Device) → IsConcat IsMajor (IsConcat IsColon IsMinor) text (numbers_of device) ↔ IsDevice device text
device_is text device = (
  λ h. record {
    major = h.front;
    minor = h.ends.back;
    text_is = (let b = rw h.ends.begins at h.ends.whole in rw b at h.whole);
    major_is = h.begins;
    minor_is = h.ends.ends;
  },
  λ h. record {
    front = h.major;
    back = 58 ∷ h.minor;
    whole = h.text_is;
    begins = h.major_is;
    ends = record { front = 58 ∷ []; back = h.minor; whole = refl; begins = refl; ends = h.minor_is };
  },
)

pub narrow_new : HasNarrow (IsConcat IsMajor (IsConcat IsColon IsMinor))
narrow_new rest v h = (omega (arith, h.begins.1), omega (arith, h.ends.ends.1))

abbrev pub device_of : ℕ × (Unit {0} × ℕ) → Device
device_of v = record { major = v.0; minor = v.1.1 }

same_device : (v w : Device) → numbers_of v ≡ numbers_of w → v ≡ w
same_device v w e = ap device_of e

-- What holds of the rests of numbers holds of those of a device.
pub device_stops : (P : List ℕ → ℕ × (Unit {0} × ℕ) → Type 0) (bytes : List ℕ) (r : Pushed) → Stops P bytes r → Stops (λ rest device. P rest (numbers_of device)) bytes r
device_stops P bytes = stops_as P (λ rest device. P rest (numbers_of device)) bytes (λ b. (λ h. (h.0, device_of h.1, h.2), λ h. (h.0, numbers_of h.1, h.2)))

module _ (R : List ℕ → ℕ × (Unit {0} × ℕ) → Type 0) where
  pub device_completes : ((rest : List ℕ) × (v : ℕ × (Unit {0} × ℕ)) × R rest v) → (rest : List ℕ) × (device : Device) × R rest (numbers_of device)
  device_completes c = (c.0, device_of c.1, c.2)

  pub device_ends : {e : Bool} → IsTrue e ↔ ((v : ℕ × (Unit {0} × ℕ)) × R [] v) → IsTrue e ↔ ((device : Device) × R [] (numbers_of device))
  device_ends is = (λ h. (let v = is.0 h in (device_of v.0, v.1)), λ h. is.1 (numbers_of h.0, h.1))

  pub device_one : HasOneText R → (rest : List ℕ) (v w : Device) → R rest (numbers_of v) → R rest (numbers_of w) → v ≡ w
  device_one one rest v w h k = same_device v w (one rest (numbers_of v) (numbers_of w) h k)

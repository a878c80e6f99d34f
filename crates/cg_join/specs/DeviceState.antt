-- The numbers of a device.
use Rattle.std.specs.Prelude.{ℕ, ◌<◌, List}
use Rattle.cg_text.specs.declared.values.Device.{Device}

-- What two numbers with a byte between spell.
abbrev pub numbers_of : Device → ℕ × (Unit {0} × ℕ)
numbers_of device = (device.major, (tt, device.minor))

-- Both numbers fit in 32 bits.
abbrev pub HasNarrow : (List ℕ → ℕ × (Unit {0} × ℕ) → Type 0) → Type 0
HasNarrow R = (rest : List ℕ) (v : ℕ × (Unit {0} × ℕ)) → R rest v → (v.0 < 4294967296) × (v.1.1 < 4294967296)

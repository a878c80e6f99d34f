-- What becomes of entries that are encoded.
use Rattle.std.specs.Prelude.{◌≡◌, ℕ, ◌-◌, ◌<◌, List, length, get_or}
use Rattle.cg_value.specs.Entry.{EntryData}
use Rattle.cg_snap.specs.Laws.{AreApart, print_entries}
use Rattle.cg_snap.specs.declared.encode.EncodeFault.{EncodeFault}
use Rattle.cg_snap.specs.declared.encode.EncodeFault.TheVariants.{OutOfMemory, SamePath}

-- The text is the entries printed, and no two adjacent ones have the same path.
pub record IsEncoded (es : List EntryData) (text : List ℕ) : Type 0 where
  pub apart : AreApart es (length es)
  pub printed : text ≡ print_entries es

-- The entry at this place is the first that has the path of the one before it.
pub record IsSamePath (es : List EntryData) (at : ℕ) : Type 0 where
  pub within : at < length es
  pub not_first : 0 < at
  pub same : (d : EntryData) → (get_or es at d).path ≡ (get_or es (at - 1) d).path
  pub lowest : AreApart es at

-- Memory was refused to entries of which no two adjacent ones have the same path.
abbrev pub IsEncodeFault : List EntryData → EncodeFault → Type 0
IsEncodeFault es (SamePath at) = IsSamePath es at
IsEncodeFault es OutOfMemory = AreApart es (length es)

-- The entry with which the bytes of a snapshot begin.
use Rattle.std.specs.Prelude.{◌≡◌, ◌≢◌, ◌⊎◌, ◌++◌, ℕ, Bool, true, false, List, [], ◌∷◌, length, Result, Ok, Err}
use Rattle.cg_value.specs.Entry.{EntryData, IsPath}
use Rattle.cg_value.specs.Print.{print_lines}
use Rattle.cg_value.specs.Records.{records}
use Rattle.cg_value.specs.declared.profile.Profile.{Profile}
use Rattle.cg_snap.specs.Closed.{Closed}
use Rattle.cg_snap.specs.Decode.{IsSnapFault}
use Rattle.cg_snap.specs.Snap.{Snap, SnapText}
use Rattle.cg_snap.specs.SnapStop.{IsSnapUnstopped}
use Rattle.cg_snap.specs.declared.decode.StreamFault.{StreamFault}
use Rattle.cg_snap.specs.declared.decode.StreamFault.TheVariants.{Stopped, OutOfMemory}
use Rattle.cg_snap.specs.declared.limits.Limits.{Limits}
use Rattle.cg_snap.specs.declared.stop.Stop.TheVariants as stops
use Rattle.cg_first.specs.declared.first.First.{First}
use Rattle.cg_first.specs.declared.first.First.TheVariants.{Entry, More, End}

-- Behind an entry of the path a record of another path has begun; or the stream ends, where it is at its end.
abbrev pub IsBehind : List ℕ → Bool → List ℕ → Type 0
IsBehind path is_end rest = ((is_end ≡ true) × (rest ≡ [])) ⊎ ((other : List ℕ) × (back : List ℕ) × IsPath other × (rest ≡ other ++ 0 ∷ back) × (path ≢ other))

-- The first so many of the bytes are the snapshot of the entry alone, and no record of it can follow.
pub record IsFirstEntry (profile : Profile) (bytes : List ℕ) (is_end : Bool) (e : EntryData) (taken : ℕ) : Type 0 where
  pub given : List ℕ
  pub rest : List ℕ
  pub split : bytes ≡ given ++ rest
  pub taken_is : taken ≡ length given
  pub text : SnapText profile (e ∷ []) given
  pub behind : IsBehind e.path is_end rest

-- The first entry; or no entry is closed yet; or the stream has ended.
abbrev pub IsFirst : Profile → Limits → List ℕ → Bool → First → Type 0
IsFirst profile limits bytes is_end (Entry e taken) = IsFirstEntry profile bytes is_end e taken
IsFirst profile limits bytes is_end More = (is_end ≡ false) × Closed profile bytes [] × IsSnapUnstopped profile limits bytes
IsFirst profile limits bytes is_end End = (is_end ≡ true) × (bytes ≡ [])

-- Bytes are cut only where no more may come.
abbrev pub IsEndFault : Bool → StreamFault → Type 0
IsEndFault is_end (Stopped (stops.Cut at)) = is_end ≡ true
IsEndFault is_end (Stopped (stops.Refused at why)) = Unit {0}
IsEndFault is_end (Stopped (stops.TooLong at)) = Unit {0}
IsEndFault is_end (Stopped (stops.TooMany at)) = Unit {0}
IsEndFault is_end (Stopped (stops.TooMuch at)) = Unit {0}
IsEndFault is_end OutOfMemory = Unit {0}

-- Why there is no first entry: what would be told of the bytes as a whole stream.
abbrev pub IsFirstFault : Profile → Limits → List ℕ → Bool → StreamFault → Type 0
IsFirstFault profile limits bytes is_end fault = IsSnapFault profile limits bytes fault × IsEndFault is_end fault

abbrev pub IsFirstTold : Profile → Limits → List ℕ → Bool → Result First StreamFault → Type 0
IsFirstTold profile limits bytes is_end (Ok first) = IsFirst profile limits bytes is_end first
IsFirstTold profile limits bytes is_end (Err fault) = IsFirstFault profile limits bytes is_end fault

-- What the end of a snapshot makes of a decoder that gave none of its entries.
abbrev pub IsLast : Profile → List ℕ → Result First StreamFault → Type 0
IsLast profile bytes (Ok (Entry e taken)) = (taken ≡ length bytes) × SnapText profile (e ∷ []) bytes
IsLast profile bytes (Ok More) = ⊥
IsLast profile bytes (Ok End) = bytes ≡ []
IsLast profile bytes (Err (Stopped (stops.Cut at))) = (at ≡ length bytes) × (Snap profile bytes → ⊥)
IsLast profile bytes (Err (Stopped (stops.Refused at why))) = ⊥
IsLast profile bytes (Err (Stopped (stops.TooLong at))) = ⊥
IsLast profile bytes (Err (Stopped (stops.TooMany at))) = ⊥
IsLast profile bytes (Err (Stopped (stops.TooMuch at))) = ⊥
IsLast profile bytes (Err OutOfMemory) = ⊥

-- An entry with the length of its records.
abbrev pub IsCounted : EntryData → Result First StreamFault → Type 0
IsCounted e (Ok (Entry f taken)) = (f ≡ e) × (taken ≡ length (records e.path (print_lines e.value)))
IsCounted e (Ok More) = ⊥
IsCounted e (Ok End) = ⊥
IsCounted e (Err (Stopped stop)) = ⊥
IsCounted e (Err OutOfMemory) = Unit {0}

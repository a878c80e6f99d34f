-- There and back: entries and items that are encoded and decoded, and snapshots and plans that are decoded and encoded.
use Rattle.std.specs.Prelude.{◌≡◌, ℕ, List}
use Rattle.cg_value.specs.Entry.{EntryData, ItemData}
use Rattle.cg_value.specs.declared.profile.Profile.{Profile}
use Rattle.cg_snap.specs.Decode.{IsDecoded, IsSnapFault}
use Rattle.cg_snap.specs.declared.decode.StreamFault.TheVariants.{Stopped}
use Rattle.cg_snap.specs.Encode.{IsEncoded, IsSamePath}
use Rattle.cg_snap.specs.Laws.{AreEntriesOf, AreItemsOf, print_items}
use Rattle.cg_snap.specs.Plan.{PlanText}
use Rattle.cg_snap.specs.declared.limits.Limits.{Limits}
use Rattle.cg_snap.specs.declared.stop.Stop.{Stop}
use Rattle.cg_snap.specs.declared.stop.Stop.TheVariants.{Refused, TooLong, TooMany, TooMuch, Cut}

-- A limit was passed.
abbrev pub IsLimitStop : Stop → Type 0
IsLimitStop (Refused at why) = ⊥
IsLimitStop (TooLong at) = Unit {0}
IsLimitStop (TooMany at) = Unit {0}
IsLimitStop (TooMuch at) = Unit {0}
IsLimitStop (Cut at) = ⊥

-- The text is decoded to these entries and no others, and nothing but a limit stops it.
pub record IsDecodedTo (profile : Profile) (limits : Limits) (text : List ℕ) (es : List EntryData) : Type 0 where
  pub entries : (fs : List EntryData) → IsDecoded profile limits text fs → fs ≡ es
  pub stops : (stop : Stop) → IsSnapFault profile limits text (Stopped stop) → IsLimitStop stop

-- Entries of the profile are given back from what they were encoded to.
abbrev pub EntriesGivenBack : Type 0
EntriesGivenBack = (profile : Profile) (limits : Limits) (es : List EntryData) (text : List ℕ) → AreEntriesOf profile es → IsEncoded es text → IsDecodedTo profile limits text es

-- The entries are encoded to this text and no other.
pub record IsEncodedTo (es : List EntryData) (text : List ℕ) : Type 0 where
  pub text_is : (other : List ℕ) → IsEncoded es other → other ≡ text
  pub apart : (at : ℕ) → IsSamePath es at → ⊥

-- A snapshot is given back from the entries that it was decoded to.
abbrev pub SnapGivenBack : Type 0
SnapGivenBack = (profile : Profile) (limits : Limits) (es : List EntryData) (text : List ℕ) → IsDecoded profile limits text es → IsEncodedTo es text

-- Items of the profile are given back from what they were encoded to.
abbrev pub ItemsGivenBack : Type 0
ItemsGivenBack = (profile : Profile) (xs ys : List ItemData) → AreItemsOf profile xs → PlanText profile ys (print_items xs) → ys ≡ xs

-- A setting may be written in several ways, so a plan's items may be encoded to another plan: it has the same items, and they
-- are encoded to it.
abbrev pub PlanEncodedTwice : Type 0
PlanEncodedTwice = (profile : Profile) (xs ys : List ItemData) (text : List ℕ) → PlanText profile xs text → PlanText profile ys (print_items xs) → print_items ys ≡ print_items xs

-- The headline: what both decoders stand for, however the bytes were cut.
use Rattle.std.specs.Prelude.{◌≡◌, ℕ, ◌≤◌, List, ◌++◌, length, Option, option_to_list}
use Rattle.cg_text.specs.Texts.{Viable}
use Rattle.cg_value.specs.Entry.{EntryData, ItemData}
use Rattle.cg_value.specs.declared.profile.Profile.{Profile}
use Rattle.cg_snap.specs.Begun.{IsBegun}
use Rattle.cg_snap.specs.Closed.{Closed, IsHeldFor}
use Rattle.cg_snap.specs.Decoder.{SnapshotDecoder, Stands, held_by, limits_of, profile_of}
use Rattle.cg_snap.specs.Plan.{ClosedPlan, Plan, PlanText}
use Rattle.cg_snap.specs.PlanDecoder.{PlanDecoder, StandsForPlan, plan_held_by, plan_limits_of, plan_profile_of}
use Rattle.cg_snap.specs.PlanStop.{IsPlanUnstopped, PlanStopOf}
use Rattle.cg_snap.specs.Snap.{Snap, SnapText}
use Rattle.cg_snap.specs.SnapStop.{IsSnapUnstopped, SnapStopOf}
use Rattle.cg_snap.specs.declared.limits.Limits.{Limits}
use Rattle.cg_snap.specs.declared.stop.Stop.{Stop}

-- The bytes close these entries and no others; some snapshot goes on from them, and none of them stops the stream. If they are
-- a snapshot, its entries are those that were given, with one more or none. And no more is held than the record that is begun
-- and what the whole records of the present entry may hold.
pub record GaveTheEntries (d : SnapshotDecoder) (p : List ℕ) (es : List EntryData) : Type 0 where
  pub closed : Closed (profile_of d) p es
  pub no_others : (fs : List EntryData) → Closed (profile_of d) p fs → fs ≡ es
  pub goes_on : Viable (Snap (profile_of d)) p
  pub unstopped : IsSnapUnstopped (profile_of d) (limits_of d) p
  pub whole : (fs : List EntryData) → SnapText (profile_of d) fs p → (last : Option EntryData) × (fs ≡ es ++ option_to_list last)
  pub held : IsHeldFor (profile_of d) p es (held_by d)

-- So it is with every decoder of snapshots that consumed some bytes and gave some entries.
abbrev pub EntriesOfTheBytes : Type 0
EntriesOfTheBytes = (d : SnapshotDecoder) (p : List ℕ) (es : List EntryData) → Stands d p es → GaveTheEntries d p es

-- The bytes close these items and no others; some plan goes on from them, and none of them stops the stream. If they are a
-- plan, its items are those that were given. And no more is held than the record that is begun.
pub record GaveTheItems (d : PlanDecoder) (p : List ℕ) (items : List ItemData) : Type 0 where
  pub closed : ClosedPlan (plan_profile_of d) p items
  pub no_others : (xs : List ItemData) → ClosedPlan (plan_profile_of d) p xs → xs ≡ items
  pub goes_on : Viable (Plan (plan_profile_of d)) p
  pub unstopped : IsPlanUnstopped (plan_profile_of d) (plan_limits_of d) p
  pub whole : (xs : List ItemData) → PlanText (plan_profile_of d) xs p → xs ≡ items
  pub held : (begun : List ℕ) × IsBegun p begun × (plan_held_by d ≤ length begun)

-- So it is with every decoder of plans that consumed some bytes and gave some items.
abbrev pub ItemsOfTheBytes : Type 0
ItemsOfTheBytes = (d : PlanDecoder) (p : List ℕ) (items : List ItemData) → StandsForPlan d p items → GaveTheItems d p items

-- A stream has one stop: one rule or limit at one byte.
abbrev pub OneStop : Type 0
OneStop = (profile : Profile) (limits : Limits) (text : List ℕ) (a b : Stop) → SnapStopOf profile limits text a → SnapStopOf profile limits text b → a ≡ b

abbrev pub OnePlanStop : Type 0
OnePlanStop = (profile : Profile) (limits : Limits) (text : List ℕ) (a b : Stop) → PlanStopOf profile limits text a → PlanStopOf profile limits text b → a ≡ b

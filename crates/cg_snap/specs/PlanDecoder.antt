-- What the calls of a decoder of plans promise, of the bytes that it consumed and the items that it gave.
use Rattle.std.specs.Prelude.{◌≡◌, ℕ, ◌+◌, List, length, Option, Some, None, Result, Ok, Err}
use Rattle.cg_text.specs.Texts.{Viable}
use Rattle.cg_value.specs.Entry.{ItemData}
use Rattle.cg_value.specs.declared.profile.Profile.{Profile}
use Rattle.cg_line.specs.SettingReads.{held_of}
use Rattle.cg_snap.specs.Streams.{plan_stream}
use Rattle.cg_snap.specs.Plan.{ClosedPlan, Plan, PlanText}
use Rattle.cg_snap.specs.PlanStop.{IsPlanUnstopped}
use Rattle.cg_snap.specs.Pulled.{StandsFor}
use Rattle.cg_snap.specs.declared.limits.Limits.{Limits}
use Rattle.cg_snap.specs.declared.decoder.Decoder.{Decoder}
use Rattle.cg_snap.specs.declared.plan_records.PlanRecords.{PlanRecords}
use Rattle.cg_snap.specs.declared.plan.CurrentItem.{CurrentItem}
use Rattle.cg_snap.specs.declared.stop.Stop.{Stop}
use Rattle.cg_snap.specs.declared.stop.Stop.TheVariants as stops

abbrev pub PlanDecoder : Type 0
PlanDecoder = Decoder PlanRecords

abbrev pub plan_profile_of : PlanDecoder → Profile
plan_profile_of d = d.records.profile

abbrev pub plan_limits_of : PlanDecoder → Limits
plan_limits_of d = d.meter.limits

-- How many bytes were consumed.
abbrev pub plan_offset_of : PlanDecoder → ℕ
plan_offset_of d = d.meter.offset

-- The stop that came, if one did.
abbrev pub plan_stop_of : PlanDecoder → Option Stop
plan_stop_of d = d.stop

-- The sum of the lengths of its vectors.
abbrev pub held_in_line : Option CurrentItem → ℕ
held_in_line None = 0
held_in_line (Some x) = length x.path.items + held_of x.reader

abbrev pub plan_held_by : PlanDecoder → ℕ
plan_held_by d = length d.records.begun.items + held_in_line d.records.present

-- The decoder consumed the bytes p, of which none stops a stream, and gave the items.
abbrev pub StandsForPlan : PlanDecoder → List ℕ → List ItemData → Type 0
StandsForPlan d = StandsFor (plan_stream (plan_profile_of d)) d

-- What a decoder consumed closes what it gave, can be gone on from, and has no byte that stops it.
abbrev pub PulledPlanIsClosed : Type 0
PulledPlanIsClosed = (d : PlanDecoder) (p : List ℕ) (items : List ItemData) → StandsForPlan d p items →
    ClosedPlan (plan_profile_of d) p items × Viable (Plan (plan_profile_of d)) p × IsPlanUnstopped (plan_profile_of d) (plan_limits_of d) p

-- What finish answers of a decoder that didn't stop: the bytes are the plan of the items, or they are no plan.
abbrev pub PlanFinishIs : Profile → List ℕ → List ItemData → Result (Unit {0}) Stop → Type 0
PlanFinishIs profile p items (Ok u) = PlanText profile items p
PlanFinishIs profile p items (Err (stops.Cut at)) = (at ≡ length p) × (Plan profile p → ⊥)
PlanFinishIs profile p items (Err (stops.Refused at why)) = ⊥
PlanFinishIs profile p items (Err (stops.TooLong at)) = ⊥
PlanFinishIs profile p items (Err (stops.TooMany at)) = ⊥
PlanFinishIs profile p items (Err (stops.TooMuch at)) = ⊥

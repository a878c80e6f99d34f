-- Where the decoder of a stream stands, also behind a stop.
use Rattle.std.proofs.Common.{◌≡◌, ◌↔◌, ℕ, ◌≤◌, List, length, refl, ap, arith}
use Rattle.cg_text.specs.Texts.{TextOf}
use Rattle.cg_value.specs.Entry.{EntryData, ItemData}
use Rattle.cg_value.specs.declared.profile.Profile.{Profile}
use Rattle.cg_snap.specs.Course.{Stream}
use Rattle.cg_snap.specs.Decode.{HasTaken, HasTakenPlan}
use Rattle.cg_snap.specs.Decoder.{SnapshotDecoder}
use Rattle.cg_snap.specs.PlanDecoder.{PlanDecoder}
use Rattle.cg_snap.specs.Pulled.{StandsFor}
use Rattle.cg_snap.specs.Streams.{plan_stream, snap_stream}
use Rattle.cg_run.specs.Stream.{WholeOf}
use Rattle.cg_run.specs.Streaming.{HasWhole}
use Rattle.cg_outcome.specs.declared.outcome.Outcome.{Outcome}
use Rattle.cg_snap.specs.declared.decoder.Decoder.{Decoder}
use Rattle.cg_snap.specs.declared.limits.Limits.{Limits}

-- The decoder, which is of this form and has these limits, consumed the bytes; also where the next one stopped it.
pub record HasStood {R Form Part : Type 0} (stream : Form → Stream R Part) (form_of : R → Form) (d : Decoder R) (form : Form) (limits : Limits) (bytes : List ℕ) : Type 0 where
  pub parts : List Part
  pub stands : StandsFor (stream (form_of d.records)) d bytes parts
  pub form_is : form_of d.records ≡ form
  pub limits_is : d.meter.limits ≡ limits

-- A decoder of snapshots, and one of plans.
abbrev pub HasSnapStood : SnapshotDecoder → Profile → Limits → List ℕ → Type 0
HasSnapStood = HasStood snap_stream (λ s. s.profile)

abbrev pub HasPlanStood : PlanDecoder → Profile → Limits → List ℕ → Type 0
HasPlanStood = HasStood plan_stream (λ s. s.profile)

pub snap_stood : (d : SnapshotDecoder) (profile : Profile) (limits : Limits) (p : List ℕ) (es : List EntryData) → HasTaken d profile limits p es → HasSnapStood d profile limits p
snap_stood d profile limits p es h = record { parts = es; stands = h.stands; form_is = h.form_is; limits_is = h.limits_is }

pub plan_stood : (d : PlanDecoder) (profile : Profile) (limits : Limits) (p : List ℕ) (items : List ItemData) → HasTakenPlan d profile limits p items → HasPlanStood d profile limits p
plan_stood d profile limits p items h = record { parts = items; stands = h.stands; form_is = h.form_is; limits_is = h.limits_is }

pub snap_within : (d : SnapshotDecoder) (profile : Profile) (limits : Limits) (p : List ℕ) → HasSnapStood d profile limits p → length p ≤ limits.max_stream
snap_within d profile limits p h = omega (arith, h.stands.counted.within, ap (λ (l : Limits). l.max_stream) h.limits_is)

pub plan_within : (d : PlanDecoder) (profile : Profile) (limits : Limits) (p : List ℕ) → HasPlanStood d profile limits p → length p ≤ limits.max_stream
plan_within d profile limits p h = omega (arith, h.stands.counted.within, ap (λ (l : Limits). l.max_stream) h.limits_is)

-- The parts of entries or items spell just the texts that have these.
pub whole_spelled : {E : Type 0} (parts_of : List E → List (List ℕ)) (outcome_of : List E → Outcome) (Has : List ℕ → List E → Type 0) (p : List ℕ) →
    TextOf Has p ↔ HasWhole (WholeOf parts_of outcome_of Has) p
whole_spelled parts_of outcome_of Has p = (λ t. (parts_of (t.0), outcome_of (t.0), (t.0, t.1, refl, refl)), λ h. (h.2.0, h.2.1))

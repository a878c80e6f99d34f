-- What a reader of a plan that is printed stands for.
use Rattle.std.proofs.Common.{◌≡◌, ℕ, ◌≤◌, List, length}
use Rattle.cg_value.specs.declared.profile.Profile.{Profile}
use Rattle.cg_snap.specs.Decode.{HasTakenPlan}
use Rattle.cg_snap.specs.Plan.{ClosedPlan}
use Rattle.cg_snap.specs.PlanDecoder.{plan_offset_of}
use Rattle.cg_snap.specs.PlanStop.{IsPlanUnstopped}
use Rattle.cg_snap.specs.declared.limits.Limits.{Limits}
use Rattle.cg_run.specs.Stream.{PartsOf, item_part}
use Rattle.cg_run.specs.Taken.{taken_closed, taken_counted, taken_unstopped}
use Rattle.cg_run.specs.declared.planned.PlannedReader.{PlannedReader}

-- Its decoder took the bytes, and the parts are those of the items that it gave.
abbrev pub HasPlanned : PlannedReader → Profile × Limits → List ℕ → List (List ℕ) → Type 0
HasPlanned s form p parts = PartsOf item_part (λ bytes items. HasTakenPlan s.decoder (form.0) (form.1) bytes items) p parts

abbrev pub planned_offset : PlannedReader → ℕ
planned_offset s = plan_offset_of s.decoder

pub planned_closed : (s : PlannedReader) (form : Profile × Limits) (p : List ℕ) (parts : List (List ℕ)) → HasPlanned s form p parts →
    PartsOf item_part (λ bytes items. ClosedPlan (form.0) bytes items) p parts
planned_closed s form p parts h = (h.0, taken_closed s.decoder (form.0) (form.1) p (h.0) h.1, h.2)

pub planned_passed : (s : PlannedReader) (form : Profile × Limits) (p : List ℕ) (parts : List (List ℕ)) → HasPlanned s form p parts →
    IsPlanUnstopped (form.0) (form.1) p
planned_passed s form p parts h = taken_unstopped s.decoder (form.0) (form.1) p (h.0) h.1

pub planned_counted : (s : PlannedReader) (form : Profile × Limits) (p : List ℕ) (parts : List (List ℕ)) → HasPlanned s form p parts →
    (planned_offset s ≡ length p) × (length p ≤ form.1.max_stream)
planned_counted s form p parts h = taken_counted s.decoder (form.0) (form.1) p (h.0) h.1

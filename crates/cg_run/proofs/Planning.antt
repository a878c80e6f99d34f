-- The parts of the items that a decoder gave, at the end of a plan.
use Rattle.std.specs.Prelude.{Ok}
use Rattle.std.proofs.Common.{◌≡◌, ℕ, List, map, [], Err, refl, sym, subst, append-nil}
use Rattle.cg_value.specs.Entry.{ItemData}
use Rattle.cg_value.specs.declared.profile.Profile.{Profile}
use Rattle.cg_snap.specs.Decode.{HasTakenPlan}
use Rattle.cg_snap.specs.Plan.{Plan, PlanText}
use Rattle.cg_snap.specs.PlanDecoder.{PlanDecoder, PlanFinishIs, plan_profile_of}
use Rattle.cg_snap.specs.declared.decode.StreamFault.TheVariants as faults
use Rattle.cg_snap.specs.declared.limits.Limits.{Limits}
use Rattle.cg_snap.specs.declared.stop.Stop.{Stop}
use Rattle.cg_snap.specs.declared.stop.Stop.TheVariants as stops
use Rattle.cg_run.specs.Stream.{DoneOf, item_part}
use Rattle.cg_run.specs.Streaming.{EndIs}
use Rattle.cg_outcome.specs.declared.outcome.Outcome.{Outcome}
use Rattle.cg_outcome.specs.declared.outcome.Outcome.TheVariants as out

module _ (d : PlanDecoder) (profile : Profile) (limits : Limits) (p : List ℕ) (items : List ItemData) (parts : List (List ℕ)) (parts_are : parts ≡ map item_part items)
    (h : HasTakenPlan d profile limits p items) where
  abbrev Whole : List ℕ → List (List ℕ) → Outcome → Type 0
  Whole = DoneOf item_part (λ bytes fs. PlanText profile fs bytes)

  pub plan_whole : PlanText (plan_profile_of d) items p → (old : List ℕ) → EndIs Whole p parts old old (Ok 0)
  plan_whole x old = (
    [],
    subst (λ (all : List (List ℕ)). Whole p all out.Done) (sym (append-nil parts)) (items, subst (λ (q : Profile). PlanText q items p) h.form_is x, parts_are, refl),
    sym (append-nil old),
  )

  pub plan_cut : (stop : Stop) → PlanFinishIs (plan_profile_of d) p items (Err stop) → (old : List ℕ) → EndIs Whole p parts old old (Err (faults.Stopped stop))
  plan_cut (stops.Refused at why) f old = absurd f
  plan_cut (stops.TooLong at) f old = absurd f
  plan_cut (stops.TooMany at) f old = absurd f
  plan_cut (stops.TooMuch at) f old = absurd f
  plan_cut (stops.Cut at) f old = ((f.0, λ all o x. f.1 (subst (λ (q : Profile). Plan q p) (sym h.form_is) (x.0, x.1))), refl)

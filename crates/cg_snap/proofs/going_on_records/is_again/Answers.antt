use Rattle.std.proofs.Common.{◌≡◌, Bool, true, false, Some, sym, ◌∙◌, refl}
use Rattle.std.proofs.lemmas.Bool.{both_ways}
use Rattle.std.proofs.lemmas.Bool.Decides.{Decides-eqb}
use Rattle.std.proofs.lemmas.Slice.Eq.{slice_eq-Decides}
use Rattle.cg_snap.specs.GoingOnState.{IsAgain}
use Rattle.cg_snap.proofs.going_on_records.is_again.Goals as goal

pub returns-in-Some-Some : goal.returns-in-Some-Some
returns-in-Some-Some c = by c.eq.result refl
  where
    by : (b : Bool) → c.eq.result ≡ b → IsAgain c.args.left_out.now c.args.block.now.present (Some b)
    by true e = (c.in-Some-Some.path, c.in-Some-Some.x, c.in-Some-Some.is-0, c.in-Some-Some.is-1, sym c.as_slice.ensures ∙ ((slice_eq-Decides Decides-eqb _ _ _ c.eq.ensures).0 e ∙ c.as_slice-in-Some-Some.ensures.value))
    by false e = (c.in-Some-Some.path, c.in-Some-Some.x, c.in-Some-Some.is-0, c.in-Some-Some.is-1, λ z. both_ways c.eq.result e ((slice_eq-Decides Decides-eqb _ _ _ c.eq.ensures).1 (c.as_slice.ensures ∙ (z ∙ sym c.as_slice-in-Some-Some.ensures.value))))

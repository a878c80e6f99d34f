use Rattle.std.proofs.Common.{[], sym, subst}
use Rattle.cg_value.specs.declared.profile.Profile.{Profile}
use Rattle.cg_snap.specs.GoingOnState.{HasFound, HasTold, form_of, going_stream}
use Rattle.cg_snap.specs.Pulled.{StandsFor}
use Rattle.cg_snap.specs.declared.going_on_records.GoingOnRecords.{GoingOnRecords}
use Rattle.cg_snap.specs.declared.limits.Limits.{Limits}
use Rattle.cg_snap.proofs.GoingOnStates.{told_closed}
use Rattle.cg_snap.proofs.going_on_decoder.Decoder+GoingOnRecords.new.Goals as goal

pub returns-clause-stands : goal.returns-clause-stands
returns-clause-stands c =
    let s = c.new.result in
    let e = c.new.ensures in
    let told : HasTold s s.block.profile s.limits [] [] =
    subst (λ (q : Profile). HasTold s q s.limits [] []) (sym e.profile_is) (subst (λ (l : Limits). HasTold s c.args.profile l [] []) (sym e.limits_is) e) in
    let found : HasFound s (form_of s) [] [] = record { told = told; closed = told_closed s.block.profile s.limits s [] [] told; faults = tt; bytes = tt } in
    subst (λ (r : GoingOnRecords). StandsFor (going_stream (form_of r)) c.begin.result [] []) (sym c.begin.ensures.records) (c.begin.ensures.stands (form_of s) found)

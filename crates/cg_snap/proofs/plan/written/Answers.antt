use Rattle.std.proofs.Common.{◌++◌, ◌∷◌, []}
use Rattle.cg_snap.proofs.PlanStates.{item_as, no_item_fault, whole_write}
use Rattle.cg_snap.proofs.plan.written.Goals as goal

pub returns-in-Ok-new : goal.returns-in-Ok-new
returns-in-Ok-new c = λ kind line good writes plain takes.
    item_as c.args.profile c.in-Ok-new.item c.args.writing.path.items kind c.in-Ok.setting line c.in-Ok-new.ensures.ok.0 c.in-Ok-new.ensures.ok.1 writes (c.in-Ok.ensures kind (line ++ 10 ∷ []) takes)

pub returns-in-Ok : goal.returns-in-Ok
returns-in-Ok c = λ kind line good writes plain takes.
    no_item_fault c.args.profile c.args.writing.path.items kind c.in-Ok.setting line _ good writes (c.in-Ok.ensures kind (line ++ 10 ∷ []) takes) c.in-Err-new.ensures.err.2

pub returns : goal.returns
returns c = λ kind line good writes plain takes.
    (c.in-Err.ensures kind (line ++ 10 ∷ []) takes).1 (whole_write c.args.profile c.args.writing kind line plain takes)

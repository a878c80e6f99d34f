use Rattle.std.proofs.Common.{◌∷◌, ◌++◌, [], List, ℕ, Some, sym, ap, ◌∙◌, append-nil}
use Rattle.cg_run.specs.GoneOnReader.{IsFaultAt}
use Rattle.cg_run.proofs.GoingOn.{fault_counted, fault_explained, fault_length, ok_as}
use Rattle.cg_run.proofs.going_on.explain_left_out.Goals as goal

pub returns : goal.returns
returns c profile limits q behind at =
    let out = c.in-Some-left_out.left_out in
    let fault = c.in-Some-fault.fault in
    let byte = c.args.byte in
    let old = c.args.text.now.items in
    let counted = rw c.in-Some.is at behind in
    let f : IsFaultAt profile limits q byte (Some out) (Some fault) = rw (c.in-Some-left_out.is, c.in-Some-fault.is) at at in
    let told = c.explain_fault.ensures profile f.2.front (f.1) f.2.follows.ended f.4 (fault_counted profile limits q byte out fault f c.in-Some.counted counted) (fault_length profile limits q byte out fault f) in
    rw (c.in-Some.is, c.in-Some-left_out.is)
    (ok_as c.explain_fault.result _ _ (λ e. (e.0 ∷ [], e.1 ∙ ap (λ (t : List ℕ). old ++ t) (sym (append-nil (e.0))), fault_explained profile limits q byte out fault f c.in-Refused.field-0 (e.0) c.in-Refused.is e.2)) told)

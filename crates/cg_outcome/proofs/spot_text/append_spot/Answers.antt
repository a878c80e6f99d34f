use Rattle.std.proofs.Common.{[], Some, refl, sym, append-nil}
use Rattle.cg_outcome.proofs.spot_text.append_spot.Goals as goal

pub returns-in-Ok : goal.returns-in-Ok
returns-in-Ok c =
    let old = c.args.text.now.items in
    (c.in-Ok.ensures.told (Some old) [] (rw c.replace.ensures.value (sym (append-nil old)), refl)).0

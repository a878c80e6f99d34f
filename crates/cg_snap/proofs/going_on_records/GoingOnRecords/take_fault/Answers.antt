use Rattle.std.proofs.Common.{refl}
use Rattle.cg_snap.proofs.going_on_records.GoingOnRecords.take_fault.Goals as goal

pub returns-in-Ok-Some-clause-left : goal.returns-in-Ok-Some-clause-left
returns-in-Ok-Some-clause-left c profile limits p told a m l h stops at =
    (refl, rw c.in-Ok-Some.found-is (rw c.in-Ok-Some.field-0-is at (c.in-Ok-Some.ensures.left profile limits p told a m l h c.args.stop stops c.in-Some.ensures at)))

pub returns-in-Ok-None-clause-left : goal.returns-in-Ok-None-clause-left
returns-in-Ok-None-clause-left c profile limits p told a m l h stops at =
    (refl, rw c.in-Ok-None.field-0-is at (c.in-Ok-None.ensures.left profile limits p told a m l h c.args.stop stops c.in-Some.ensures at))

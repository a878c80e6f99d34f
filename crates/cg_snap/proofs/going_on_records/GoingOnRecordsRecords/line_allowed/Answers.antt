use Rattle.cg_snap.proofs.GoingOnTakes.{small_next}
use Rattle.cg_snap.proofs.going_on_records.GoingOnRecordsRecords.line_allowed.Goals as goal

pub returns : goal.returns
returns c form p es h byte next = small_next p byte next

use Rattle.std.proofs.Common.{sym, subst}
use Rattle.cg_value.specs.declared.profile.Profile.{Profile}
use Rattle.cg_snap.specs.DecoderState.{HasConsumed}
use Rattle.cg_snap.proofs.Taken.{records_leave}
use Rattle.cg_snap.proofs.snapshot_records.SnapshotRecordsRecords.take.Goals as goal

pub returns-clause-left : goal.returns-clause-left
returns-clause-left c form p es h at =
    let s = c.args.self.now in
    let old = λ (q : Profile). HasConsumed q s.begun.items s.present p es in
    records_leave _ form c.args.max_lines p es c.args.bytes.now c.take.result.used c.take.result.what h.profile_is
    (rw h.profile_is at (c.take.ensures.left p es (subst old (sym h.profile_is) h.at) at))

use Rattle.std.proofs.Common.{sym, subst}
use Rattle.cg_value.specs.declared.profile.Profile.{Profile}
use Rattle.cg_snap.specs.DecoderState.{HasConsumed, RefusalIs}
use Rattle.cg_snap.proofs.snapshot_records.SnapshotRecordsRecords.refusal.Goals as goal

pub returns : goal.returns
returns c form p es h =
    let s = c.args.self.now in
    subst (λ (q : Profile). RefusalIs q p c.args.byte c.refusal.result) h.profile_is (c.refusal.ensures p es (subst (λ (q : Profile). HasConsumed q s.begun.items s.present p es) (sym h.profile_is) h.at))

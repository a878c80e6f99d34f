use Rattle.std.proofs.Common.{[], subst}
use Rattle.cg_value.specs.declared.profile.Profile.{Profile}
use Rattle.cg_snap.specs.DecoderState.{HasTakenRecords}
use Rattle.cg_snap.specs.Streams.{snap_stream}
use Rattle.cg_snap.proofs.Courses.{fresh}
use Rattle.cg_snap.specs.DecoderState.{records_closed, records_go_on}
use Rattle.cg_snap.proofs.going_on_records.GoingOnRecords.begin_block.Goals as goal

pub returns-clause-fresh : goal.returns-clause-fresh
returns-clause-fresh c profile e =
    fresh (snap_stream profile) (λ s p es h. records_closed s profile p es h) (λ s p es h. records_go_on s profile p es h) c.clear.new.self c.new-self.result
    (subst (λ (q : Profile). HasTakenRecords c.clear.new.self q [] []) e c.clear.ensures.taken) c.new-self.ensures.counted

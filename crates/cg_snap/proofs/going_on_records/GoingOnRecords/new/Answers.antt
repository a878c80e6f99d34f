use Rattle.std.proofs.Common.{[], None, refl, inl, false, ◌∙◌}
use Rattle.cg_snap.specs.DecoderState.{records_closed, records_go_on}
use Rattle.cg_snap.specs.GoingOn.AreTold.{none}
use Rattle.cg_snap.specs.GoingOnState.{IsPassingOver, IsReading}
use Rattle.cg_snap.specs.Streams.{snap_stream}
use Rattle.cg_snap.specs.declared.going_on_records.GoingOnRecords.{GoingOnRecords}
use Rattle.cg_snap.proofs.Courses.{fresh}
use Rattle.cg_snap.proofs.States.{at_false}
use Rattle.cg_snap.proofs.going_on_records.GoingOnRecords.new.Goals as goal

pub returns : goal.returns
returns c =
    let profile = c.args.profile in
    let s : GoingOnRecords = record { limits = c.args.limits; block = c.new.result; meter = c.new-2.result; left_out = None; is_passing = false } in
    record {
      profile_is = c.new.ensures.profile;
      limits_is = refl;
      meter_is = c.new-2.ensures.limits ∙ c.of_block.ensures;
      state = at_false (IsPassingOver s profile c.args.limits [] []) (IsReading s profile c.args.limits [] []) false refl (record {
        front = [];
        path = None;
        blocks = none refl refl refl;
        ended = inl refl;
        block = [];
        split = refl;
        along = fresh (snap_stream profile) (λ s p es h. records_closed s profile p es h) (λ s p es h. records_go_on s profile p es h) c.new.result c.new-2.result c.new.ensures.taken c.new-2.ensures.counted;
        state = inl (record { no_nul = tt; left_out = inl refl; kept = refl });
      });
    }

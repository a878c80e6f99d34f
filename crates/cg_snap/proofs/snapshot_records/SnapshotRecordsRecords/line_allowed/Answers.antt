use Rattle.std.proofs.Common.{Option, subst}
use Rattle.cg_snap.specs.DecoderState.{HasConsumed, IsBetween}
use Rattle.cg_snap.specs.declared.present.CurrentEntry.{CurrentEntry}
use Rattle.cg_snap.proofs.Allowed.{line_allowed}
use Rattle.cg_snap.proofs.Offers.{between_none, between_some, path_offers}
use Rattle.cg_snap.proofs.Refusals.{line_takes}
use Rattle.cg_snap.proofs.States.{line_state}
use Rattle.cg_snap.proofs.snapshot_records.SnapshotRecordsRecords.line_allowed.Goals as goal
use Rattle.cg_snap.proofs.snapshot_records.SnapshotRecordsRecords.line_allowed.Goals.{in-Some+else-x, in_default}

pub returns-then-x : goal.returns-then-x
returns-then-x c form p es h byte =
    let s = c.args.self.now in
    let l = line_state form s.begun.items c.in-Some.x p es c.if-x.true (subst (λ (o : Option CurrentEntry). HasConsumed form s.begun.items o p es) c.in-Some.is h.at) in
    let same = c.allowed.ensures l.kind _ l.reads byte in
    (λ k. line_allowed form s.begun.items c.in-Some.x p es byte l (same.0 k), λ v. same.1 (line_takes form s.begun.items c.in-Some.x p es byte l v))

pub returns : goal.returns
returns c form p es h byte next =
    let s = c.args.self.now in
    let between : IsBetween s.present = elim c.match-self.branch [
      | in-Some+else-x w ↦ between_some s.present w.in-Some.x w.in-Some.is w.if-x.false
      | in_default w ↦ between_none s.present w.in_default.is
    ] in
    path_offers form s.begun.items s.present p es byte between h.at next

-- Snapshots and plans as streams of records.
use Rattle.cg_value.specs.Entry.{EntryData, ItemData}
use Rattle.cg_value.specs.declared.profile.Profile.{Profile}
use Rattle.cg_snap.specs.Closed.{Closed}
use Rattle.cg_snap.specs.Course.{Stream}
use Rattle.cg_snap.specs.DecoderState.{HasTakenRecords}
use Rattle.cg_snap.specs.Plan.{ClosedPlan, Plan}
use Rattle.cg_snap.specs.PlanState.{HasTakenItems}
use Rattle.cg_snap.specs.PlanStop.{IsItemWhy, is_never_many}
use Rattle.cg_snap.specs.Snap.{Snap}
use Rattle.cg_snap.specs.SnapStop.{IsManyRecords, IsRecordWhy}
use Rattle.cg_snap.specs.declared.plan_records.PlanRecords.{PlanRecords}
use Rattle.cg_snap.specs.declared.snapshot_records.SnapshotRecords.{SnapshotRecords}

-- Snapshots, with their entries.
abbrev pub snap_stream : Profile → Stream SnapshotRecords EntryData
snap_stream profile = record {
  language = Snap profile;
  breaks = IsRecordWhy profile;
  many = IsManyRecords profile;
  closes = λ p es. Closed profile p es;
  at = λ s. HasTakenRecords s profile;
}

-- Plans, with their items.
abbrev pub plan_stream : Profile → Stream PlanRecords ItemData
plan_stream profile = record {
  language = Plan profile;
  breaks = IsItemWhy profile;
  many = is_never_many;
  closes = λ p items. ClosedPlan profile p items;
  at = λ s. HasTakenItems s profile;
}

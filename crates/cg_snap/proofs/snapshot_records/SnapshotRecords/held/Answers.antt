use Rattle.std.proofs.Common.{ap, arith}
use Rattle.cg_line.specs.Reads as reader
use Rattle.cg_snap.specs.Decoder.{held_by_records, held_in}
use Rattle.cg_snap.proofs.Holds.{none_held, some_held}
use Rattle.cg_snap.proofs.snapshot_records.SnapshotRecords.held.Goals as goal

pub returns-in-None-clause-held : goal.returns-in-None-clause-held
returns-in-None-clause-held c = λ profile p es h.
    let s = c.args.self.now in
    none_held profile s.begun.items s.present p es (held_by_records s) c.in-None.is h.at (omega (arith, ap held_in c.in-None.is))

pub returns-in-Some-clause-held : goal.returns-in-Some-clause-held
returns-in-Some-clause-held c = λ profile p es h.
    let s = c.args.self.now in
    some_held profile s.begun.items s.present c.in-Some.x p es (held_by_records s)
    (reader.held_by c.in-Some.x.reader) c.in-Some.is h.at
    (record { few = c.held.ensures.few; most = c.held.ensures.most }) (omega (arith, ap held_in c.in-Some.is))

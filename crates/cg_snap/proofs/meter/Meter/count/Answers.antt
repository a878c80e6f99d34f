use Rattle.std.proofs.Common.{inl, inr, refl, length}
use Rattle.std.proofs.lemmas.Bool.{iff_false}
use Rattle.cg_snap.proofs.Runs.{counted_bytes}
use Rattle.cg_snap.proofs.meter.Meter.count.Goals as goal
use Rattle.cg_snap.proofs.meter.Meter.count.Goals.{then-ends_line, else-ends_line}

pub returns-clause-counted : goal.returns-clause-counted
returns-clause-counted c p h part =
    counted_bytes c.args.self.now _ p c.args.bytes.now (length c.args.bytes.now) h refl part refl c.requires.stream refl
    (elim c.if-ends_line.branch [
      | then-ends_line w ↦ inl (c.ends_line.ensures.0 w.if-ends_line.true, w.self-is)
      | else-ends_line w ↦ inr (iff_false c.ends_line.ensures w.if-ends_line.false, w.self-is)
    ])

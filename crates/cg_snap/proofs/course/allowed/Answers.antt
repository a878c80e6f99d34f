use Rattle.cg_line.specs.AllowedLaws.{allowed_more, allowed_same}
use Rattle.cg_snap.proofs.course.allowed.Goals as goal
use Rattle.cg_snap.proofs.course.allowed.Goals.{in-None, in-Some-refusal}

pub loop-number-preserved : goal.loop-number-preserved
loop-number-preserved g c form p es h =
    let number = c.loop-number.number in
    let before = c.loop-number.invariant form p es h in
    elim c.match-refusal.branch [
      | in-None w ↦ rw w.set-is (allowed_more ((g.R.Records.stream form).language) p c.loop-number.set w.insert.new.self number before w.insert.ensures.added (w.in-None.ensures form p es h))
      | in-Some-refusal w ↦ rw w.set-is (allowed_same ((g.R.Records.stream form).language) p c.loop-number.set number before (w.in-Some-refusal.ensures form p es h).0)
    ]

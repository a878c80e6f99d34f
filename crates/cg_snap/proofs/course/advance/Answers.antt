use Rattle.std.proofs.Common.{◌++◌, List, ℕ, append-nil, take, refl, sym, ap, subst, ◌∙◌, arith}
use Rattle.std.proofs.lemmas.List.{take-take}
use Rattle.cg_snap.specs.Course.{AreOfRecord}
use Rattle.cg_snap.specs.Meter.{IsCounted}
use Rattle.cg_snap.proofs.Courses.{advanced, front_advances, limit_stops, refused_stops}
use Rattle.cg_snap.proofs.course.advance.Goals as goal
use Rattle.cg_snap.proofs.course.advance.Goals.{in-Some-refusal, in-None}

pub returns-in-Some-clause-advances : goal.returns-in-Some-clause-advances
returns-in-Some-clause-advances g c form p es h =
    let stream = g.R.Records.stream form in
    let meter = c.args.meter.now in
    elim c.match-refusal.branch [
      | in-Some-refusal w ↦ rw (append-nil p, w.stop-is) (c.requires, refused_stops stream.language stream.breaks stream.many meter p _ meter.offset w.in-Some-refusal.why h.counted h.unstopped refl (w.in-Some-refusal.ensures form p es h.state), h)
      | in-None w ↦ rw (append-nil p, w.stop-is)
          (c.requires, limit_stops stream.language stream.breaks stream.many meter p _ c.is_full.result c.in-Some.limit h.counted h.unstopped c.in-Some.ensures (c.is_full.ensures form p es h.state) (w.in-None.ensures form p es h.state), h)
    ]

pub take-progress-requires : goal.take-progress-requires
take-progress-requires g c = record { place = omega (arith, c.room.ensures.place, c.split_at.ensures.front_len) }

pub returns-clause-advances : goal.returns-clause-advances
returns-clause-advances g c form p es h =
    let stream = g.R.Records.stream form in
    let piece = c.args.piece.now in
    let front = c.split_at.result.0.now in
    let took = c.take-progress in
    let used = took.result.used in
    let part = took.ensures.of_record form p es h.state in
    let counted = subst (λ (q : List ℕ). IsCounted c.count.new.self (p ++ q)) {y = take used front} c.split_at-2.ensures.front (c.count.ensures.counted p h.counted (subst AreOfRecord {x = take used front} (sym {b = take used front} c.split_at-2.ensures.front) part)) in
    front_advances stream took.new.self c.count.new.self p piece front es c.room.result used took.result.what c.split_at.ensures.front took.ensures.within
    (advanced stream (λ s. g.R.Records.closed s form) (λ s. g.R.Records.goes_on s form) took.new.self c.args.meter.now c.count.new.self p front es used took.ensures.within h.counted counted c.count.ensures.limits h.unstopped
    (took.ensures.few form p es h.state) part (omega (arith, c.room.ensures.record, c.split_at.ensures.front_len)) (omega (arith, c.room.ensures.stream, c.split_at.ensures.front_len)) took.result.what
    (took.ensures.left form p es h.state h.counted.offset))

pub returns-clause-of_record : goal.returns-clause-of_record
returns-clause-of_record g c form p es h =
    subst AreOfRecord {x = take c.take-progress.result.used c.split_at.result.0.now} (ap (λ (q : List ℕ). take c.take-progress.result.used q) c.split_at.ensures.front ∙ take-take c.take-progress.result.used c.room.result c.args.piece.now (omega (arith, c.take-progress.ensures.within, c.split_at.ensures.front_len)))
    (c.take-progress.ensures.of_record form p es h.state)

use Rattle.std.proofs.Common.{◌++◌, take, refl, append_assoc, arith}
use Rattle.std.proofs.lemmas.Bool.{iff_false}
use Rattle.std.proofs.lemmas.List.{length-append, length-take-le}
use Rattle.cg_value.specs.PathLaws.{path_lacks_newline}
use Rattle.cg_value.specs.Settings.{KindWrite}
use Rattle.cg_snap.proofs.PlanFronts.{item_came, line_ended}
use Rattle.cg_snap.proofs.PlanStates.{item_line_refused, item_line_taken, item_next_line}
use Rattle.cg_snap.proofs.Runs.{cut_plain, run_cut}
use Rattle.cg_snap.proofs.plan.take_line.Goals as goal

pub returns-in-Some-clause-left : goal.returns-in-Some-clause-left
returns-in-Some-clause-left c = λ p items n h at max.
    let path = c.args.writing.path.items in
    let bytes = c.args.bytes.now in
    let run = c.push_run-run in
    let line = line_ended run.new.self h.kind h.line bytes run.result h.plain run.ensures.within (run.ensures.pushed h.kind h.line h.takes) (c.ends_line.ensures.0 c.if-ends_line.true) in
    let written = c.in-Some.ensures h.kind (h.line ++ line.0) h.good h.writes_at line.2 line.3 in
    item_came c.args.profile p h.given path (h.line ++ line.0) items c.in-Some.item bytes line.0 run.result.used c.args.begun.now.items c.args.present.now
    h.whole (path_lacks_newline path h.good) written.0 written.1 run.ensures.within line.1 (rw h.split (simp append_assoc)) h.nothing_begun n

pub returns-in-None-clause-left : goal.returns-in-None-clause-left
returns-in-None-clause-left c = λ p items n h at max.
    let run = c.push_run-run in
    let line = line_ended run.new.self h.kind h.line c.args.bytes.now run.result h.plain run.ensures.within (run.ensures.pushed h.kind h.line h.takes) (c.ends_line.ensures.0 c.if-ends_line.true) in
    absurd (c.in-None.ensures h.kind (h.line ++ line.0) h.good h.writes_at line.2 line.3)

pub returns-in-None-fault-clause-left : goal.returns-in-None-fault-clause-left
returns-in-None-fault-clause-left c = λ p items n h at max.
    let bytes = c.args.bytes.now in
    let run = c.push_run-run in
    let used = run.result.used in
    let pushed = run.ensures.pushed h.kind h.line h.takes in
    let part = run_cut (KindWrite h.kind) h.line bytes used run.result.fault pushed.stops in
    item_line_taken c.args.profile c.args.begun.now.items c.args.writing _ p items (take used bytes) h refl (cut_plain bytes used run.ensures.within part (iff_false c.ends_line.ensures c.if-ends_line.false)) pushed.takes

pub returns-in-Some-Refused-clause-left : goal.returns-in-Some-Refused-clause-left
returns-in-Some-Refused-clause-left c = λ p items n h at max.
    let bytes = c.args.bytes.now in
    let run = c.push_run-run in
    let used = run.result.used in
    let pushed = run.ensures.pushed h.kind h.line h.takes in
    let fault = rw c.in-Some-Refused.is at c.in-Some-Refused.field-0-is in
    let stops = rw (c.in-Some-Refused.is, fault) at pushed.stops in
    let state = item_line_taken c.args.profile c.args.begun.now.items c.args.writing _ p items (take used bytes) h refl stops.1 pushed.takes in (
      stops.0,
      state,
      (omega (arith, at, length-append p (take used bytes), length-take-le used bytes run.ensures.within), item_line_refused c.args.profile c.args.begun.now.items _ (p ++ take used bytes) items _ state stops.2),
    )

pub returns-in-Some-OutOfMemory-clause-left : goal.returns-in-Some-OutOfMemory-clause-left
returns-in-Some-OutOfMemory-clause-left c = λ p items n h at max.
    let bytes = c.args.bytes.now in
    let run = c.push_run-run in
    let used = run.result.used in
    let pushed = run.ensures.pushed h.kind h.line h.takes in
    let fault = rw c.in-Some-OutOfMemory.is at c.in-Some-OutOfMemory.field-0-is in
    let stops = rw (c.in-Some-OutOfMemory.is, fault) at pushed.stops in
    let state = item_line_taken c.args.profile c.args.begun.now.items c.args.writing _ p items (take used bytes) h refl stops.1 pushed.takes in
    (stops.0, state, item_next_line c.args.profile c.args.begun.now.items _ (p ++ take used bytes) items _ state stops.2, λ many. many)

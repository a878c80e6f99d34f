use Rattle.std.proofs.Common.{◌≡◌, ℕ, ◌+◌, ◌-◌, ◌<◌, ◌++◌, ◌∷◌, [], List, append-nil, get_or, length, take, sym, subst, arith}
use Rattle.std.proofs.lemmas.List.{length-append, length-take-le, take_more}
use Rattle.cg_text.specs.Texts.{Lacks}
use Rattle.cg_text.specs.TextsLaws.{lacks_push}
use Rattle.cg_snap.specs.Course.{AreFew}
use Rattle.cg_snap.specs.DecoderState.{HasConsumed}
use Rattle.cg_snap.specs.SnapStop.{IsManyRecords}
use Rattle.cg_snap.proofs.Courses.{taken_more}
use Rattle.cg_snap.proofs.Runs.{few_push, path_few}
use Rattle.cg_snap.proofs.States.{at_closed, path_byte_allowed, paths_taken}
use Rattle.cg_snap.proofs.Steps.{bytes_no_newline}
use Rattle.cg_snap.proofs.snapshot.take_head.Goals as goal

pub returns-in-Err-clause-left : goal.returns-in-Err-clause-left
returns-in-Err-clause-left c = λ p es h i at.
    let profile = c.args.profile in
    let begun = c.args.begun.now.items in
    let present = c.args.present.now in
    let bytes = c.args.bytes.now in
    let first = c.in-Err.ensures.0 in
    let b = get_or bytes 0 0 in
    let next = path_byte_allowed profile begun present p es b (λ e. absurd (omega (arith, e, first.1.0))) first.1.2 first.1.1 i h in
    let few = path_few profile c.args.max_lines begun present p (b ∷ []) es h i (first.1, tt) in
    rw (append-nil p, c.in-Err.ensures.1) (first.0, h, next, few.0)

pub returns-then-used-bytes-clause-few : goal.returns-then-used-bytes-clause-few
returns-then-used-bytes-clause-few c = λ p es h i.
    path_few c.args.profile c.args.max_lines c.args.begun.now.items c.args.present.now p (take c.in-Ok.used c.args.bytes.now) es h i c.in-Ok.ensures.0.plain

pub returns-then-used-bytes-clause-plain : goal.returns-then-used-bytes-clause-plain
returns-then-used-bytes-clause-plain c = bytes_no_newline (take c.in-Ok.used c.args.bytes.now) c.in-Ok.ensures.0.plain

pub returns-in-Ok-None-clause-left : goal.returns-in-Ok-None-clause-left
returns-in-Ok-None-clause-left c = λ p es h i at.
    let bytes = c.args.bytes.now in
    let used = c.in-Ok.used in
    let front = c.in-Ok.ensures.0 in
    let lt : used < length bytes = omega (arith, front.within, c.if-used-bytes.false) in
    let run = paths_taken c.args.profile c.args.begun.now.items c.take_path.new.begun.items c.args.present.now p es (take used bytes) front.plain c.in-Ok.ensures.1 i h in
    let done = rw c.in-Ok-None.field-0-is at (c.in-Ok-None.ensures.taken (p ++ take used bytes) es run i (omega (arith, at, length-append p (take used bytes), length-take-le used bytes front.within))) in
    subst (λ (t : List ℕ). HasConsumed c.args.profile c.end_path.new.begun.items c.end_path.new.present t es) (taken_more p bytes used lt) done

pub returns-in-Ok-None-clause-few : goal.returns-in-Ok-None-clause-few
returns-in-Ok-None-clause-few c = λ p es h i.
    let bytes = c.args.bytes.now in
    let used = c.in-Ok.used in
    let front = c.in-Ok.ensures.0 in
    let lt : used < length bytes = omega (arith, front.within, c.if-used-bytes.false) in
    let Many = IsManyRecords c.args.profile c.args.max_lines in
    let run = paths_taken c.args.profile c.args.begun.now.items c.take_path.new.begun.items c.args.present.now p es (take used bytes) front.plain c.in-Ok.ensures.1 i h in
    subst (AreFew Many p) (sym (take_more bytes used 0 lt))
    (few_push Many p (take used bytes) (get_or bytes used 0) (path_few c.args.profile c.args.max_lines c.args.begun.now.items c.args.present.now p (take used bytes) es h i front.plain) (c.in-Ok-None.ensures.few (p ++ take used bytes) es run i))

pub returns-in-Ok-None-clause-plain : goal.returns-in-Ok-None-clause-plain
returns-in-Ok-None-clause-plain c =
    let bytes = c.args.bytes.now in
    let used = c.in-Ok.used in
    let front = c.in-Ok.ensures.0 in
    let lt : used < length bytes = omega (arith, front.within, c.if-used-bytes.false) in
    subst (Lacks 10) (sym (take_more bytes used 0 lt)) (lacks_push 10 (take used bytes) (get_or bytes used 0) (bytes_no_newline (take used bytes) front.plain) (λ e. absurd (omega (arith, e, c.in-Ok-None.ensures.nul))))

pub returns-in-Ok-Some-clause-left : goal.returns-in-Ok-Some-clause-left
returns-in-Ok-Some-clause-left c = λ p es h i at.
    let profile = c.args.profile in
    let bytes = c.args.bytes.now in
    let used = c.in-Ok.used in
    let front = c.in-Ok.ensures.0 in
    let lt : used < length bytes = omega (arith, front.within, c.if-used-bytes.false) in
    let run = paths_taken profile c.args.begun.now.items c.take_path.new.begun.items c.args.present.now p es (take used bytes) front.plain c.in-Ok.ensures.1 i h in
    let done = rw c.in-Ok-Some.field-0-is at (c.in-Ok-Some.ensures.taken (p ++ take used bytes) es run i (omega (arith, at, length-append p (take used bytes), length-take-le used bytes front.within))) in
    let back : used + 1 - 1 ≡ used = omega arith in (
      omega arith,
      rw back (at_closed profile c.take_path.new.begun.items c.args.present.now (p ++ take used bytes) es run),
      subst (λ (t : List ℕ). HasConsumed profile c.end_path.new.begun.items c.end_path.new.present t (es ++ c.in-Ok-Some.entry ∷ [])) (taken_more p bytes used lt) (rw (sym c.in-Ok-Some.entry-is) done),
    )

pub returns-in-Ok-Some-clause-few : goal.returns-in-Ok-Some-clause-few
returns-in-Ok-Some-clause-few c = λ p es h i.
    let bytes = c.args.bytes.now in
    let used = c.in-Ok.used in
    let front = c.in-Ok.ensures.0 in
    let lt : used < length bytes = omega (arith, front.within, c.if-used-bytes.false) in
    let Many = IsManyRecords c.args.profile c.args.max_lines in
    let run = paths_taken c.args.profile c.args.begun.now.items c.take_path.new.begun.items c.args.present.now p es (take used bytes) front.plain c.in-Ok.ensures.1 i h in
    subst (AreFew Many p) (sym (take_more bytes used 0 lt))
    (few_push Many p (take used bytes) (get_or bytes used 0) (path_few c.args.profile c.args.max_lines c.args.begun.now.items c.args.present.now p (take used bytes) es h i front.plain) (c.in-Ok-Some.ensures.few (p ++ take used bytes) es run i))

pub returns-in-Ok-Some-clause-plain : goal.returns-in-Ok-Some-clause-plain
returns-in-Ok-Some-clause-plain c =
    let bytes = c.args.bytes.now in
    let used = c.in-Ok.used in
    let front = c.in-Ok.ensures.0 in
    let lt : used < length bytes = omega (arith, front.within, c.if-used-bytes.false) in
    subst (Lacks 10) (sym (take_more bytes used 0 lt)) (lacks_push 10 (take used bytes) (get_or bytes used 0) (bytes_no_newline (take used bytes) front.plain) (λ e. absurd (omega (arith, e, c.in-Ok-Some.ensures.nul))))

pub returns-in-Err-end_path-clause-left : goal.returns-in-Err-end_path-clause-left
returns-in-Err-end_path-clause-left c = λ p es h i at.
    let bytes = c.args.bytes.now in
    let used = c.in-Ok.used in
    let front = c.in-Ok.ensures.0 in
    let run = paths_taken c.args.profile c.args.begun.now.items c.take_path.new.begun.items c.args.present.now p es (take used bytes) front.plain c.in-Ok.ensures.1 i h in
    let done = c.in-Err-end_path.ensures.taken (p ++ take used bytes) es run i (omega (arith, at, length-append p (take used bytes), length-take-le used bytes front.within)) in
    (omega (arith, front.within, c.if-used-bytes.false), done.0, done.1)

pub returns-in-Err-end_path-clause-few : goal.returns-in-Err-end_path-clause-few
returns-in-Err-end_path-clause-few c = λ p es h i.
    path_few c.args.profile c.args.max_lines c.args.begun.now.items c.args.present.now p (take c.in-Ok.used c.args.bytes.now) es h i c.in-Ok.ensures.0.plain

pub returns-in-Err-end_path-clause-plain : goal.returns-in-Err-end_path-clause-plain
returns-in-Err-end_path-clause-plain c = bytes_no_newline (take c.in-Ok.used c.args.bytes.now) c.in-Ok.ensures.0.plain

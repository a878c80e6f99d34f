use Rattle.std.specs.Prelude.{is_some}
use Rattle.std.proofs.Common.{◌≡◌, ◌<◌, ◌≤◌, ◌+◌, ◌-◌, ◌++◌, refl, sym, ap, subst, ◌∙◌, Option, Some, ℕ, take, drop, length, length-drop, length-take, arith}
use Rattle.cg_text.specs.Texts.{TextOf}
use Rattle.cg_snap.specs.Stop.{place_of}
use Rattle.cg_outcome.specs.Lines.{AreBehind}
use Rattle.cg_outcome.specs.declared.lines.Lines.{Lines}
use Rattle.cg_source.proofs.Took.{byte_at, byte_behind, ended_behind, front_at, front_is, goes_run, piece_stopped, place_is, run_stopped}
use Rattle.cg_source.proofs.reading.take_piece.Goals as goal

pub returns-then-place-max-clause-took : goal.returns-then-place-max-clause-took
returns-then-place-max-clause-took g c form taken e h =
    let piece = c.args.piece.now in
    let i = c.loop-used.used in
    let within : i < length piece = omega arith in
    let goes = c.loop-used.invariant.goes_on form taken e h in
    let at : c.args.at + i ≡ length (taken ++ take i piece) = omega (arith, e, place_is taken piece i within) in
    let L = TextOf (g.T.TextReader.text form) in
    let place : place_of c.stop_at_limit-stop.result ≡ length taken + i = omega (arith, c.stop_at_limit-stop.ensures.place, e) in
    record {
      stops = piece_stopped L c.args.max taken piece i (c.args.at + i) c.stop_at_limit-stop.result within c.if-place-max.true (c.stop_at_limit-stop.ensures.stops form (taken ++ take i piece) goes.0 at);
      took = subst (g.T.TextReader.took c.loop-used.reader form) (sym (front_at taken piece i (place_of c.stop_at_limit-stop.result) place)) goes.0;
      within = omega (arith, c.stop_at_limit-stop.ensures.place, c.if-place-max.true);
      byte_is = byte_behind piece c.split_at.result.1.now i c.next_byte-byte.result c.split_at.ensures.back c.next_byte-byte.ensures.some within ∙ ap (λ (b : ℕ). Some b) (sym (byte_at taken piece i (place_of c.stop_at_limit-stop.result) place));
    }

pub returns-then-place-max-clause-behind : goal.returns-then-place-max-clause-behind
returns-then-place-max-clause-behind g c taken e h =
    let piece = c.args.piece.now in
    let i = c.loop-used.used in
    let place : place_of c.stop_at_limit-stop.result ≡ length taken + i = omega (arith, c.stop_at_limit-stop.ensures.place, e) in
    let front = rw c.split_at.ensures.front at (c.lines_behind.ensures.counted taken (subst (λ (l : Option Lines). AreBehind l taken) (sym c.loop-used.invariant.kept) h)) in
    subst (AreBehind c.lines_behind.result) (sym (front_at taken piece i (place_of c.stop_at_limit-stop.result) place)) front

pub returns-in-Some-clause-behind : goal.returns-in-Some-clause-behind
returns-in-Some-clause-behind g c taken e h =
    let piece = c.args.piece.now in
    let i = c.loop-used.used in
    let n = c.take_run-run.result.used in
    let front = rw c.split_at-in-Some.ensures.front at (c.lines_behind-in-Some.ensures.counted taken (subst (λ (l : Option Lines). AreBehind l taken) (sym c.loop-used.invariant.kept) h)) in
    let place : c.args.at + i + n ≡ length taken + (i + n) = omega (arith, e) in
    rw c.ending_at.ensures (ended_behind taken piece (i + n) (c.args.at + i + n) c.lines_behind-in-Some.result c.in-Some.fault c.next_byte.result place front)

pub returns-then-place-max-clause-same : goal.returns-then-place-max-clause-same
returns-then-place-max-clause-same g c = c.lines_behind.ensures.same ∙ ap (λ (l : Option Lines). is_some l) c.loop-used.invariant.kept

pub returns-in-Some-clause-same : goal.returns-in-Some-clause-same
returns-in-Some-clause-same g c = c.lines_behind-in-Some.ensures.same ∙ ap (λ (l : Option Lines). is_some l) c.loop-used.invariant.kept

pub returns-clause-behind : goal.returns-clause-behind
returns-clause-behind g c taken e h = c.lines_behind-2.ensures.counted taken (subst (λ (l : Option Lines). AreBehind l taken) (sym c.loop-used.invariant.kept) h)

pub returns-clause-same : goal.returns-clause-same
returns-clause-same g c = c.lines_behind-2.ensures.same ∙ ap (λ (l : Option Lines). is_some l) c.loop-used.invariant.kept

pub loop-used-preserved : goal.loop-used-preserved
loop-used-preserved g c =
    let piece = c.args.piece.now in
    let i = c.loop-used.used in
    let n = c.take_run-run.result.used in
    let rest = c.split_at-in-loop-used.result.1.now in
    let space = c.args.max - (c.args.at + i) in
    let front = take space rest in
    let within : n ≤ length front = c.take_run-run.ensures.within in
    let left : length rest ≡ length (drop i piece) = ap length c.split_at-in-loop-used.ensures.back in
    let room : c.args.at + i + n ≤ c.args.max = omega (arith, within, length-take space rest, c.loop-used.invariant.small) in
    record {
      kept = c.loop-used.invariant.kept;
      within = omega (arith, within, left, length-drop i piece, length-take space rest, c.loop-used.invariant.within);
      small = omega (arith, room);
      goes_on = λ form taken e h.
          let goes = c.loop-used.invariant.goes_on form taken e h in
          let pushed = c.take_run-run.ensures.taken form (taken ++ take i piece) goes.0 in
          goes_run piece rest front i n c.split_at-in-loop-used.ensures.back (front_is space rest) (g.T.TextReader.took c.take_run-run.new.self form) c.args.max taken within (omega (arith, e, room)) pushed.took;
    }

pub loop-used-smaller : goal.loop-used-smaller
loop-used-smaller g c =
    let piece = c.args.piece.now in
    let i = c.loop-used.used in
    let rest = c.split_at-in-loop-used.result.1.now in
    let here : i < length piece = omega arith in
    let left : length rest ≡ length (drop i piece) = ap length c.split_at-in-loop-used.ensures.back in
    let some : 0 < length rest = omega (arith, here, left, length-drop i piece) in
    let room : 0 < c.args.max - (c.args.at + i) = omega (arith, c.loop-used.invariant.small, c.if-place-max.false) in
    let space = c.args.max - (c.args.at + i) in
    let more : 0 < c.take_run-run.result.used = rw c.in-None.is at c.take_run-run.ensures.goes_on (omega (arith, some, room, length-take space rest)) in
    omega (arith, here, more)

pub returns-in-Some-clause-took : goal.returns-in-Some-clause-took
returns-in-Some-clause-took g c form taken e h =
    let piece = c.args.piece.now in
    let i = c.loop-used.used in
    let n = c.take_run-run.result.used in
    let rest = c.split_at-in-loop-used.result.1.now in
    let space = c.args.max - (c.args.at + i) in
    let front = take space rest in
    let new = c.take_run-run.new.self in
    let within : n ≤ length front = c.take_run-run.ensures.within in
    let room : c.args.at + i + length front ≤ c.args.max = omega (arith, length-take space rest, c.loop-used.invariant.small) in
    let goes = c.loop-used.invariant.goes_on form taken e h in
    let pushed = c.take_run-run.ensures.taken form (taken ++ take i piece) goes.0 in
    let stops = rw c.in-Some.is at pushed.stops in
    let behind = c.split_at-in-Some in
    rw c.ending_at.ensures (run_stopped piece rest front i n c.split_at-in-loop-used.ensures.back (front_is space rest)
    (TextOf (g.T.TextReader.text form)) (g.T.TextReader.took new form) (g.met.T.TextReader.viable new form) c.args.max c.args.at (c.args.at + i) taken c.in-Some.fault
    e refl c.loop-used.invariant.within room within pushed.took stops c.next_byte.result (byte_behind piece behind.result.1.now (i + n) c.next_byte.result behind.ensures.back c.next_byte.ensures.some))

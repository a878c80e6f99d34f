use Rattle.std.specs.Prelude.{MatchResult, OnErr, OnOk, Result, Ok, Err, is_some}
use Rattle.std.proofs.Common.{◌≡◌, ◌+◌, ◌<◌, ◌≤◌, ◌++◌, ℕ, List, refl, ap, subst, ◌∙◌, drop, get_or, Some, take, length, length-drop, arith}
use Rattle.std.proofs.lemmas.List.{get_or-drop, take_all}
use Rattle.cg_outcome.specs.Spot.{more_words}
use Rattle.std.proofs.lemmas.Result.{err_from_is_err_and}
use Rattle.cg_snap.specs.declared.event.Event.TheVariants as events
use Rattle.cg_run.specs.declared.output.Output.{Output}
use Rattle.cg_run.specs.Streaming.{StandsBehind}
use Rattle.cg_run.proofs.Streams.{fault_ends, goes_on, memory_ends, next_on, stop_ends, text_on}
use Rattle.cg_run.proofs.Written.{held_some, none_held}
use Rattle.cg_run.proofs.streaming.take_parts.Goals as goal

either : {A E X Y : Type 0} {P Q : A → Type 0} {R S : E → Type 0} (r : Result A E) → MatchResult r P R → OnOk r X → OnErr r Y →
    ((a : A) → P a → X → Q a) → ((e : E) → R e → Y → S e) → MatchResult r Q S
either (Ok a) h x y f g = f a h x
either (Err e) h x y f g = g e h y

pub returns-in-Stopped-clause-took : goal.returns-in-Stopped-clause-took
returns-in-Stopped-clause-took g c form first read limit h lines left failed =
    let at = c.loop-used.used in
    let n = c.next-progress.result.used in
    let what = c.next-progress.result.what in
    let piece = c.args.piece.now in
    let rest = c.split_at.result.1.now in
    let s = c.next-progress.new.self in
    let b = c.loop-used.invariant.before form first read h in
    let output : Output = record { text = c.next-progress.new.out; written = c.loop-used.output.written } in
    let on = next_on (g.S.StreamReader.took s form) (g.S.StreamReader.whole form) (g.S.StreamReader.closes form) (g.S.StreamReader.unstopped form) (g.S.StreamReader.stops form)
    first (g.W.Sink.taken c.loop-used.writer) c.loop-used.output output read piece rest at n what (events.Stopped c.in-Stopped.stop) b.parts c.split_at.ensures.back c.loop-used.invariant.within c.in-Stopped.is b.holds
    (c.next-progress.ensures.found form (read ++ take at piece) b.parts b.took) refl in
    let within : at + n ≤ length piece = omega (arith, c.next-progress.ensures.used, ap length c.split_at.ensures.back, length-drop at piece, c.loop-used.invariant.within) in
    let stood = subst (StandsBehind (g.S.StreamReader.stood s form) (read ++ take at piece) rest n) c.in-Stopped.is (c.next-progress.ensures.stood form (read ++ take at piece) b.parts b.took) in
    let some : at + n < length piece = omega (arith, stood.0, ap length c.split_at.ensures.back, length-drop at piece, c.loop-used.invariant.within) in
    let stands = subst (g.S.StreamReader.stood s form) (text_on read piece rest at n c.split_at.ensures.back) stood.1 in
    let front = read ++ take (at + n) piece in
    let few : length front ≤ 18446744073709551615 = omega (arith, g.met.S.StreamReader.within s form front stands, limit, c.ranges.max.fits) in
    let cut = c.split_at-in-Stopped in
    let counted = rw cut.ensures.front at (c.lines_behind-behind.ensures.counted read lines) in
    let tells = rw c.lines_behind-behind.ensures.same at (c.stream_spot-spot.ensures form front stands few counted) in
    let back : length cut.result.1.now ≡ length (drop (at + n) piece) = ap length cut.ensures.back in
    let none : at + n + 0 ≡ at + n = omega arith in
    let byte : c.next_byte.result ≡ Some (get_or piece (at + n) 0) = c.next_byte.ensures.some (omega (arith, back, length-drop (at + n) piece, some))
    ∙ ap (λ (b : ℕ). Some b) (ap (λ (t : List ℕ). get_or t 0 0) cut.ensures.back ∙ get_or-drop (at + n) piece 0 0 ∙ ap (λ (k : ℕ). get_or piece k 0) none) in
    stop_ends (g.S.StreamReader.took s form) (g.S.StreamReader.whole form) (g.S.StreamReader.closes form) (g.S.StreamReader.unstopped form) (g.S.StreamReader.stops form)
    (is_some c.args.lines) (g.S.StreamReader.explained form) read piece (at + n) within left failed first (g.W.Sink.taken c.stop.new.writer) (g.W.Sink.has_failed c.stop.new.writer) (on.0) c.stop.result
    c.in-Stopped.stop c.next_byte.result (more_words c.stream_spot-spot.result) on.1 byte some tells (c.stop.ensures.wrote first (on.0) on.2)

pub returns-in-OutOfMemory-clause-took : goal.returns-in-OutOfMemory-clause-took
returns-in-OutOfMemory-clause-took g c form first read limit h lines left failed =
    let at = c.loop-used.used in
    let n = c.next-progress.result.used in
    let what = c.next-progress.result.what in
    let piece = c.args.piece.now in
    let rest = c.split_at.result.1.now in
    let s = c.next-progress.new.self in
    let b = c.loop-used.invariant.before form first read h in
    let output : Output = record { text = c.next-progress.new.out; written = c.loop-used.output.written } in
    let on = next_on (g.S.StreamReader.took s form) (g.S.StreamReader.whole form) (g.S.StreamReader.closes form) (g.S.StreamReader.unstopped form) (g.S.StreamReader.stops form)
    first (g.W.Sink.taken c.loop-used.writer) c.loop-used.output output read piece rest at n what events.OutOfMemory b.parts c.split_at.ensures.back c.loop-used.invariant.within c.in-OutOfMemory.is b.holds
    (c.next-progress.ensures.found form (read ++ take at piece) b.parts b.took) refl in
    let within : at + n ≤ length piece = omega (arith, c.next-progress.ensures.used, ap length c.split_at.ensures.back, length-drop at piece, c.loop-used.invariant.within) in
    let after = c.finish in
    memory_ends (g.S.StreamReader.took s form) (g.S.StreamReader.whole form) (g.S.StreamReader.closes form) (g.S.StreamReader.unstopped form) (g.S.StreamReader.stops form)
    (is_some c.args.lines) (g.S.StreamReader.explained form) read piece (at + n) within left failed first (g.W.Sink.taken after.new.writer) (g.W.Sink.has_failed after.new.writer) (on.0) after.result
    on.1 (after.ensures.wrote first (on.0) on.2)

pub loop-used-preserved : goal.loop-used-preserved
loop-used-preserved g c = record {
  within = omega (arith, c.next-progress.ensures.used, ap length c.split_at.ensures.back, length-drop c.loop-used.used c.args.piece.now, c.loop-used.invariant.within);
  before = λ form first read h.
      let at = c.loop-used.used in
      let n = c.next-progress.result.used in
      let what = c.next-progress.result.what in
      let piece = c.args.piece.now in
      let rest = c.split_at.result.1.now in
      let s = c.next-progress.new.self in
      let b = c.loop-used.invariant.before form first read h in
      let output : Output = record { text = c.next-progress.new.out; written = c.loop-used.output.written } in
      let on = next_on (g.S.StreamReader.took s form) (g.S.StreamReader.whole form) (g.S.StreamReader.closes form) (g.S.StreamReader.unstopped form) (g.S.StreamReader.stops form)
      first (g.W.Sink.taken c.loop-used.writer) c.loop-used.output output read piece rest at n what what b.parts c.split_at.ensures.back c.loop-used.invariant.within refl b.holds
      (c.next-progress.ensures.found form (read ++ take at piece) b.parts b.took) refl in
      record {
        parts = on.0;
        took = goes_on (g.S.StreamReader.took s form) (g.S.StreamReader.whole form) (g.S.StreamReader.closes form) (g.S.StreamReader.unstopped form) (g.S.StreamReader.stops form) read piece (at + n) (on.0) what c.in-NeedMore.is on.1;
        holds = c.in_ok-write_many-in-NeedMore.ensures.wrote first (on.0) on.2;
      };
}

pub returns-in_err-write_many-in-NeedMore-clause-took : goal.returns-in_err-write_many-in-NeedMore-clause-took
returns-in_err-write_many-in-NeedMore-clause-took g c form first read limit h =
    let at = c.loop-used.used in
    let n = c.next-progress.result.used in
    let what = c.next-progress.result.what in
    let piece = c.args.piece.now in
    let rest = c.split_at.result.1.now in
    let s = c.next-progress.new.self in
    let b = c.loop-used.invariant.before form first read h in
    let output : Output = record { text = c.next-progress.new.out; written = c.loop-used.output.written } in
    let on = next_on (g.S.StreamReader.took s form) (g.S.StreamReader.whole form) (g.S.StreamReader.closes form) (g.S.StreamReader.unstopped form) (g.S.StreamReader.stops form)
    first (g.W.Sink.taken c.loop-used.writer) c.loop-used.output output read piece rest at n what what b.parts c.split_at.ensures.back c.loop-used.invariant.within refl b.holds
    (c.next-progress.ensures.found form (read ++ take at piece) b.parts b.took) refl in
    let within : at + n ≤ length piece = omega (arith, c.next-progress.ensures.used, ap length c.split_at.ensures.back, length-drop at piece, c.loop-used.invariant.within) in
    let fault = c.in_err-write_many-in-NeedMore in
    let took = goes_on (g.S.StreamReader.took s form) (g.S.StreamReader.whole form) (g.S.StreamReader.closes form) (g.S.StreamReader.unstopped form) (g.S.StreamReader.stops form) read piece (at + n) (on.0) what c.in-NeedMore.is on.1 in
    let e = err_from_is_err_and c.from_residual.result c.from_residual.ensures.1 in
    rw (e.1, e.2) (λ lines left failed.
    fault_ends (g.S.StreamReader.took s form) (g.S.StreamReader.whole form) (g.S.StreamReader.closes form) (g.S.StreamReader.unstopped form) (g.S.StreamReader.stops form)
    (is_some c.args.lines) (g.S.StreamReader.explained form) read piece (at + n) within left failed first (g.W.Sink.taken c.write_many.new.writer) (g.W.Sink.has_failed c.write_many.new.writer) (on.0) fault.field-0.0
    (held_some first (g.W.Sink.taken c.loop-used.writer) (on.0) output on.2 fault.ensures.some)
    (g.met.S.StreamReader.passed s form (read ++ take (at + n) piece) (on.0) took) (g.met.S.StreamReader.closed s form (read ++ take (at + n) piece) (on.0) took)
    (fault.ensures.wrote first (on.0) on.2))

pub returns-clause-took : goal.returns-clause-took
returns-clause-took g c form first read limit h =
    let at = c.loop-used.used in
    let piece = c.args.piece.now in
    let s = c.loop-used.stream in
    let b = c.loop-used.invariant.before form first read h in
    let all : take at piece ≡ piece = take_all at piece (omega (arith, c.loop-used-test.false)) in
    either c.write.result (c.write.ensures.wrote first b.parts b.holds) c.write.ensures.none c.write.ensures.some
    (λ u holds none. record {
      parts = b.parts;
      took = subst (λ (t : List ℕ). g.S.StreamReader.took s form (read ++ t) b.parts) all b.took;
      wrote = none_held first (g.W.Sink.taken c.write.new.writer) b.parts c.write.new.self holds none;
    })
    (λ o wrote some lines left failed.
    fault_ends (g.S.StreamReader.took s form) (g.S.StreamReader.whole form) (g.S.StreamReader.closes form) (g.S.StreamReader.unstopped form) (g.S.StreamReader.stops form)
    (is_some c.args.lines) (g.S.StreamReader.explained form) read piece at c.loop-used.invariant.within left failed first (g.W.Sink.taken c.write.new.writer) (g.W.Sink.has_failed c.write.new.writer) b.parts o
    (held_some first (g.W.Sink.taken c.loop-used.writer) b.parts c.loop-used.output b.holds some)
    (g.met.S.StreamReader.passed s form (read ++ take at piece) b.parts b.took) (g.met.S.StreamReader.closed s form (read ++ take at piece) b.parts b.took) wrote)

use Rattle.std.proofs.Common.{◌++◌, ◌+◌, codes, decimal, refl, ◌∙◌}
use Rattle.std.proofs.lemmas.Result.{err_from_is_err_and}
use Rattle.cg_outcome.specs.ByteNames.{set_words}
use Rattle.cg_outcome.specs.Explain.{what_words}
use Rattle.cg_outcome.specs.Spot.{spot_words}
use Rattle.cg_outcome.proofs.SpotTold.{behind_four, behind_one, behind_three, behind_two, comes_as, parts_are}
use Rattle.cg_outcome.proofs.Written.{fails_whole}
use Rattle.cg_outcome.proofs.explain.tell_spot.Goals as goal

pub returns-clause-told : goal.returns-clause-told
returns-clause-told g c first text h =
    let spot = c.args.spot.now in
    let s = set_words spot.wanted in
    let tail = codes " may come\n" in
    let whole = spot_words spot in
    let a = c.bytes.result.now in
    let m = c.bytes-2.result.now in
    let e = parts_are a _ spot.path.now m _ s tail (c.bytes.ensures ∙ c.head_of.ensures) (c.bytes-2.ensures ∙ c.middle_of.ensures) in
    comes_as first (g.W.Sink.taken c.write_part-4.new.writer) (g.W.Sink.has_failed c.write_part-4.new.writer) c.write_part-4.new.written
    (((((text ++ a) ++ spot.path.now) ++ m) ++ s) ++ tail) (text ++ whole) c.write_part-4.result (behind_four text a spot.path.now m s tail whole e)
    (c.write_part-4.ensures.behind first ((((text ++ a) ++ spot.path.now) ++ m) ++ s) (c.in_ok-tell_set.ensures.told first (((text ++ a) ++ spot.path.now) ++ m)
    (c.in_ok-write_part-3.ensures.behind first ((text ++ a) ++ spot.path.now) (c.in_ok-write_part-2.ensures.behind first (text ++ a) (c.in_ok-write_part.ensures.behind first text h)))))

pub returns-in_err-write_part-clause-told : goal.returns-in_err-write_part-clause-told
returns-in_err-write_part-clause-told g c first text h =
    let spot = c.args.spot.now in
    let s = set_words spot.wanted in
    let tail = codes " may come\n" in
    let whole = spot_words spot in
    let a = c.bytes.result.now in
    let m = codes ", byte " ++ decimal (spot.before + 1) ++ (codes ": " ++ what_words spot.byte ++ codes " where ") in
    let e = parts_are a _ spot.path.now m m s tail (c.bytes.ensures ∙ c.head_of.ensures) refl in
    let r = err_from_is_err_and c.from_residual.result c.from_residual.ensures.1 in
    rw (r.1, r.2) (fails_whole first (g.W.Sink.taken c.write_part.new.writer) (g.W.Sink.has_failed c.write_part.new.writer) (text ++ a) (spot.path.now ++ (m ++ (s ++ tail))) (text ++ whole) c.in_err-write_part.field-0.0
    (behind_one text a spot.path.now m s tail whole e) (c.in_err-write_part.ensures.behind first text h))

pub returns-in_err-write_part-2-clause-told : goal.returns-in_err-write_part-2-clause-told
returns-in_err-write_part-2-clause-told g c first text h =
    let spot = c.args.spot.now in
    let s = set_words spot.wanted in
    let tail = codes " may come\n" in
    let whole = spot_words spot in
    let a = c.bytes.result.now in
    let m = codes ", byte " ++ decimal (spot.before + 1) ++ (codes ": " ++ what_words spot.byte ++ codes " where ") in
    let e = parts_are a _ spot.path.now m m s tail (c.bytes.ensures ∙ c.head_of.ensures) refl in
    let r = err_from_is_err_and c.from_residual-in_err-write_part-2.result c.from_residual-in_err-write_part-2.ensures.1 in
    rw (r.1, r.2) (fails_whole first (g.W.Sink.taken c.write_part-2.new.writer) (g.W.Sink.has_failed c.write_part-2.new.writer) ((text ++ a) ++ spot.path.now) (m ++ (s ++ tail)) (text ++ whole) c.in_err-write_part-2.field-0.0
    (behind_two text a spot.path.now m s tail whole e) (c.in_err-write_part-2.ensures.behind first (text ++ a) (c.in_ok-write_part.ensures.behind first text h)))

pub returns-in_err-write_part-3-clause-told : goal.returns-in_err-write_part-3-clause-told
returns-in_err-write_part-3-clause-told g c first text h =
    let spot = c.args.spot.now in
    let s = set_words spot.wanted in
    let tail = codes " may come\n" in
    let whole = spot_words spot in
    let a = c.bytes.result.now in
    let m = c.bytes-2.result.now in
    let e = parts_are a _ spot.path.now m _ s tail (c.bytes.ensures ∙ c.head_of.ensures) (c.bytes-2.ensures ∙ c.middle_of.ensures) in
    let r = err_from_is_err_and c.from_residual-in_err-write_part-3.result c.from_residual-in_err-write_part-3.ensures.1 in
    rw (r.1, r.2) (fails_whole first (g.W.Sink.taken c.write_part-3.new.writer) (g.W.Sink.has_failed c.write_part-3.new.writer) (((text ++ a) ++ spot.path.now) ++ m) (s ++ tail) (text ++ whole) c.in_err-write_part-3.field-0.0
    (behind_three text a spot.path.now m s tail whole e) (c.in_err-write_part-3.ensures.behind first ((text ++ a) ++ spot.path.now) (c.in_ok-write_part-2.ensures.behind first (text ++ a) (c.in_ok-write_part.ensures.behind first text h))))

pub returns-in_err-tell_set-clause-told : goal.returns-in_err-tell_set-clause-told
returns-in_err-tell_set-clause-told g c first text h =
    let spot = c.args.spot.now in
    let s = set_words spot.wanted in
    let tail = codes " may come\n" in
    let whole = spot_words spot in
    let a = c.bytes.result.now in
    let m = c.bytes-2.result.now in
    let e = parts_are a _ spot.path.now m _ s tail (c.bytes.ensures ∙ c.head_of.ensures) (c.bytes-2.ensures ∙ c.middle_of.ensures) in
    let r = err_from_is_err_and c.from_residual-in_err-tell_set.result c.from_residual-in_err-tell_set.ensures.1 in
    rw (r.1, r.2) (fails_whole first (g.W.Sink.taken c.tell_set.new.writer) (g.W.Sink.has_failed c.tell_set.new.writer) ((((text ++ a) ++ spot.path.now) ++ m) ++ s) (tail) (text ++ whole) c.in_err-tell_set.field-0.0
    (behind_four text a spot.path.now m s tail whole e) (c.in_err-tell_set.ensures.told first (((text ++ a) ++ spot.path.now) ++ m) (c.in_ok-write_part-3.ensures.behind first ((text ++ a) ++ spot.path.now) (c.in_ok-write_part-2.ensures.behind first (text ++ a) (c.in_ok-write_part.ensures.behind first text h)))))

use Rattle.std.proofs.Common.{◌++◌, ◌∙◌, ap, append_assoc, List, ℕ}
use Rattle.std.proofs.lemmas.Result.{err_from_is_err_and}
use Rattle.cg_outcome.specs.Outcome.{stop_line}
use Rattle.cg_outcome.specs.Spot.{spot_words}
use Rattle.cg_outcome.proofs.SpotTold.{comes_as}
use Rattle.cg_outcome.proofs.Written.{fails_whole}
use Rattle.cg_outcome.proofs.explain.tell_both.Goals as goal

pub returns-in_err-write_part-clause-told : goal.returns-in_err-write_part-clause-told
returns-in_err-write_part-clause-told g c first text h =
    let line = c.bytes.result.now in
    let more = spot_words c.args.spot.now in
    let r = err_from_is_err_and c.from_residual.result c.from_residual.ensures.1 in
    rw (r.1, r.2) (fails_whole first (g.W.Sink.taken c.write_part.new.writer) (g.W.Sink.has_failed c.write_part.new.writer) (text ++ line) more (text ++ (stop_line c.args.stop ++ more)) c.in_err-write_part.field-0.0
    (append_assoc text line more ∙ ap (λ (t : List ℕ). text ++ (t ++ more)) (c.bytes.ensures ∙ c.last_line_of.ensures)) (c.in_err-write_part.ensures.behind first text h))

pub returns-clause-told : goal.returns-clause-told
returns-clause-told g c first text h =
    let line = c.bytes.result.now in
    let more = spot_words c.args.spot.now in
    let after = c.tell_spot in
    comes_as first (g.W.Sink.taken after.new.writer) (g.W.Sink.has_failed after.new.writer) after.new.written ((text ++ line) ++ more) (text ++ (stop_line c.args.stop ++ more)) after.result
    (append_assoc text line more ∙ ap (λ (t : List ℕ). text ++ (t ++ more)) (c.bytes.ensures ∙ c.last_line_of.ensures)) (after.ensures.told first (text ++ line) (c.in_ok-write_part.ensures.behind first text h))

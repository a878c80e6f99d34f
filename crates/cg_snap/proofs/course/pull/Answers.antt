use Rattle.std.proofs.Common.{◌++◌, take, length, ap, ◌∙◌, arith}
use Rattle.std.proofs.lemmas.List.{length-drop}
use Rattle.cg_snap.proofs.Courses.{moved_by, rest_along, rest_did}
use Rattle.cg_snap.proofs.course.pull.Goals as goal

pub loop-used-preserved : goal.loop-used-preserved
loop-used-preserved g c = record {
  along = λ form p es h.
      let piece = c.args.piece.now in
      let at = c.loop-used.used in
      let progress = c.advance-progress in
      let w = rw c.in-NeedMore.is at (progress.ensures.advances form (p ++ take at piece) es (c.loop-used.invariant.along form p es h)) in
      rest_along (g.R.Records.stream form) progress.new.records progress.new.meter p piece c.split_at.result.1.now es at progress.result.used c.split_at.ensures.back es w;
  within = omega (arith, c.advance-progress.ensures.used, c.loop-used.invariant.within, ap length c.split_at.ensures.back, length-drop c.loop-used.used c.args.piece.now);
  form = c.advance-progress.ensures.form ∙ c.loop-used.invariant.form;
  limits = c.advance-progress.ensures.limits ∙ c.loop-used.invariant.limits;
}

pub returns-in_default : goal.returns-in_default
returns-in_default g c = record {
  pulled = λ form p es h.
      let piece = c.args.piece.now in
      let at = c.loop-used.used in
      let progress = c.advance-progress in
      rest_did (g.R.Records.stream form) progress.new.records progress.new.meter p piece c.split_at.result.1.now es at progress.result.used c.split_at.ensures.back progress.result.what c.in_default.not-NeedMore
      (progress.ensures.advances form (p ++ take at piece) es (c.loop-used.invariant.along form p es h));
  used = omega (arith, c.advance-progress.ensures.used, c.loop-used.invariant.within, ap length c.split_at.ensures.back, length-drop c.loop-used.used c.args.piece.now);
  progress = moved_by (length c.args.piece.now) (length c.split_at.result.1.now) c.loop-used.used c.advance-progress.result.used c.advance-progress.result.what c.in_default.not-NeedMore c.advance-progress.ensures.forward;
  form = c.advance-progress.ensures.form ∙ c.loop-used.invariant.form;
  limits = c.advance-progress.ensures.limits ∙ c.loop-used.invariant.limits;
}

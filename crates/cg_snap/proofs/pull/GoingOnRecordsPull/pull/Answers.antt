use Rattle.std.proofs.Common.{◌∙◌}
use Rattle.cg_snap.proofs.GoingOnPulls.{took_none}
use Rattle.cg_snap.proofs.pull.GoingOnRecordsPull.pull.Goals as goal

pub returns-in-Given-clause-pulled : goal.returns-in-Given-clause-pulled
returns-in-Given-clause-pulled c form p es h =
    let did = rw c.in-Given.is at (c.pull_entry-used.ensures.pulled form p es h) in
    rw (c.given.ensures.what, c.given.ensures.used) (did.0, did.1, did.2)

pub returns-in-Given-clause-progress : goal.returns-in-Given-clause-progress
returns-in-Given-clause-progress c = rw (c.given.ensures.what, c.given.ensures.used) (rw c.in-Given.is at c.pull_entry-used.ensures.some)

pub returns-in_default : goal.returns-in_default
returns-in_default c = record {
  pulled = λ form p es h.
      c.pull_rest.ensures.pulled form p es (took_none form c.pull_entry-used.new.self c.pull_entry-used.new.meter p es c.args.piece.now c.pull_entry-used.result.used c.pull_entry-used.result.what c.in_default.not-Given
      (c.pull_entry-used.ensures.pulled form p es h));
  used = c.pull_rest.ensures.used;
  progress = c.pull_rest.ensures.progress;
  form = c.pull_rest.ensures.form ∙ c.pull_entry-used.ensures.form;
  limits = c.pull_rest.ensures.limits ∙ c.pull_entry-used.ensures.limits;
}

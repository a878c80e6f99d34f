use Rattle.std.proofs.Common.{◌++◌, ◌∷◌, [], ℕ, List, ◌∙◌, ap, subst}
use Rattle.std.proofs.lemmas.Result.{err_from_is_err_and}
use Rattle.cg_outcome.specs.Wrote.{Wrote, joined}
use Rattle.cg_run.proofs.Written.{held_joined, holds_none, written_as}
use Rattle.cg_run.proofs.output.Output.write.Goals as goal

pub returns-in_err-write_part-clause-wrote : goal.returns-in_err-write_part-clause-wrote
returns-in_err-write_part-clause-wrote g c first parts h =
    let e = err_from_is_err_and c.from_residual.result c.from_residual.ensures.1 in
    let same = ap (λ (t : List ℕ). joined (h.before ++ t ∷ [])) c.as_slice.ensures.value ∙ held_joined first (g.W.Sink.taken c.args.writer.now) parts c.args.self.now h in
    rw (e.1, e.2) (λ rest wanted. subst (λ (t : List ℕ). Wrote first (g.W.Sink.taken c.write_part.new.writer) (g.W.Sink.has_failed c.write_part.new.writer) (t ++ rest) wanted c.in_err-write_part.field-0.0) same
    (c.in_err-write_part.ensures.wrote first h.before h.wrote rest wanted))

pub returns-clause-wrote : goal.returns-clause-wrote
returns-clause-wrote g c first parts h =
    let same = ap (λ (t : List ℕ). joined (h.before ++ t ∷ [])) c.as_slice.ensures.value ∙ held_joined first (g.W.Sink.taken c.args.writer.now) parts c.args.self.now h in
    holds_none first (g.W.Sink.taken c.write_part.new.writer) parts (record { text = c.clear.new.self; written = c.write_part.new.written }) c.clear.ensures.items
    (written_as first (g.W.Sink.taken c.write_part.new.writer) (h.before ++ c.as_slice.result.now ∷ []) parts c.write_part.new.written same
    (c.in_ok-write_part.ensures.wrote first h.before h.wrote))

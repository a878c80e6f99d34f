use Rattle.std.specs.Prelude.{Ok, Err}
use Rattle.std.proofs.Common.{refl, sym, ◌∙◌}
use Rattle.std.proofs.lemmas.Result.{err_from_is_err_and}
use Rattle.cg_program.proofs.words.parse_words.Goals as goal

pub returns : goal.returns
returns c = (Ok c.in_ok-request.request, c.in_ok-request.ensures, (sym c.uses_any.ensures ∙ c.if-uses_any.false, refl))

pub returns-then-uses_any : goal.returns-then-uses_any
returns-then-uses_any c = (Ok c.in_ok-request.request, c.in_ok-request.ensures, (sym c.uses_any.ensures ∙ c.if-uses_any.true, refl))

pub returns-in_err-request : goal.returns-in_err-request
returns-in_err-request c =
    let e = err_from_is_err_and c.from_residual.result c.from_residual.ensures.1 in
    rw (e.1, e.2) (Err c.in_err-request.field-0.0, c.in_err-request.ensures, refl)

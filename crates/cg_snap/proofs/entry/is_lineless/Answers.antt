use Rattle.std.proofs.Common.{sym, ◌∙◌}
use Rattle.std.proofs.lemmas.Bool.{eq-eqb, eqb-true}
use Rattle.cg_snap.proofs.Ends.{empty_lines}
use Rattle.cg_snap.proofs.entry.is_lineless.Goals as goal

pub returns-in-Raw : goal.returns-in-Raw
returns-in-Raw c =
    let same = empty_lines c.in-Raw.lines c.text.result.now c.text.ensures.text in
    rw c.in-Raw.is (λ e. same.0 (eqb-true _ _ (sym c.is_empty.ensures ∙ e)), λ none. c.is_empty.ensures ∙ eq-eqb _ _ (same.1 none))

use Rattle.std.proofs.Common.{◌++◌, ◌∙◌, List, ℕ, ap, inl}
use Rattle.cg_outcome.specs.Wrote.{joined}
use Rattle.cg_run.proofs.going_on.GoingOnReader.give_entry.Goals as goal

pub returns-clause-given : goal.returns-clause-given
returns-clause-given g c told keeps =
    let text = c.in_ok-tell_entry.ensures told keeps in (
      c.in_ok-append.ensures.added
          ∙ ap (λ (t : List ℕ). c.args.out.now.items ++ t) (c.as_slice.ensures.value ∙ text.0 ∙ ap (λ (t : List ℕ). t ++ joined (g.T.Teller.parts (inl c.args.entry))) c.clear.ensures.items),
      text.1,
    )

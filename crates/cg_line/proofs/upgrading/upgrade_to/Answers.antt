use Rattle.std.proofs.Common.{sym, ◌∙◌}
use Rattle.cg_line.proofs.upgrading.upgrade_to.Goals as goal

pub returns-in-Ok : goal.returns-in-Ok
returns-in-Ok c = (
  record { read = λ kind lines r. absurd (c.in_default.ensures kind lines r); same = λ none. c.in-Ok.ensures },
  λ g up. up.same c.in_default.ensures ∙ sym c.in-Ok.ensures,
)

pub returns-in-Err : goal.returns-in-Err
returns-in-Err c kind lines r = absurd (c.in_default.ensures kind lines r)

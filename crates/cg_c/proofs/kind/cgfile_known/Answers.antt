use Rattle.std.proofs.Common.{◌∙◌}
use Rattle.cg_c.proofs.TableNames.{rows_alike}
use Rattle.cg_c.proofs.kind.cgfile_known.Goals as goal

pub returns-clause-second : goal.returns-clause-second
returns-clause-second c = c.has_row.ensures ∙ rows_alike c.args.name.now

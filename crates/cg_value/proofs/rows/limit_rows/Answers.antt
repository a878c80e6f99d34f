use Rattle.cg_value.specs.RowLaws.{no_quota, full_clamp}
use Rattle.cg_value.proofs.rows.limit_rows.Goals as goal

pub returns-clause-no_quota : goal.returns-clause-no_quota
returns-clause-no_quota c = no_quota

pub returns-clause-full_clamp : goal.returns-clause-full_clamp
returns-clause-full_clamp c = full_clamp

use Rattle.cg_value.specs.RowNameLaws.{sized_names}
use Rattle.cg_value.proofs.laws.sized_names.Goals as goal

pub returns : goal.returns
returns c = sized_names

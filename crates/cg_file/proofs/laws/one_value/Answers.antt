use Rattle.cg_file.specs.OneValueLaws.{one_value, one_value_of_name}
use Rattle.cg_file.proofs.laws.one_value.Goals as goal

pub returns-clause-kind : goal.returns-clause-kind
returns-clause-kind c = one_value

pub returns-clause-name : goal.returns-clause-name
returns-clause-name c = one_value_of_name

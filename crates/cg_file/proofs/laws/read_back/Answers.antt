use Rattle.cg_file.specs.OneValueLaws.{read_back, read_back_of_name}
use Rattle.cg_file.proofs.laws.read_back.Goals as goal

pub returns-clause-kind : goal.returns-clause-kind
returns-clause-kind c = read_back

pub returns-clause-name : goal.returns-clause-name
returns-clause-name c = read_back_of_name

use Rattle.cg_value.specs.RowLaws.{invalid_root, empty_reason, reason_of_parentheses, full_pressure, some_pressure}
use Rattle.cg_value.proofs.rows.partition_rows.Goals as goal

pub returns-clause-invalid_root : goal.returns-clause-invalid_root
returns-clause-invalid_root c = invalid_root

pub returns-clause-empty_reason : goal.returns-clause-empty_reason
returns-clause-empty_reason c = empty_reason

pub returns-clause-reason_of_parentheses : goal.returns-clause-reason_of_parentheses
returns-clause-reason_of_parentheses c = reason_of_parentheses

pub returns-clause-full_pressure : goal.returns-clause-full_pressure
returns-clause-full_pressure c = full_pressure

pub returns-clause-some_pressure : goal.returns-clause-some_pressure
returns-clause-some_pressure c = some_pressure

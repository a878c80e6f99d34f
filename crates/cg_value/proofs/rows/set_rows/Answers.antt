use Rattle.cg_value.specs.RowLaws.{empty_set, ranges_apart, last_list_number, more_list_numbers}
use Rattle.cg_value.proofs.rows.set_rows.Goals as goal

pub returns-clause-empty_set : goal.returns-clause-empty_set
returns-clause-empty_set c = empty_set

pub returns-clause-ranges_apart : goal.returns-clause-ranges_apart
returns-clause-ranges_apart c = ranges_apart

pub returns-clause-last_list_number : goal.returns-clause-last_list_number
returns-clause-last_list_number c = last_list_number

pub returns-clause-more_list_numbers : goal.returns-clause-more_list_numbers
returns-clause-more_list_numbers c = more_list_numbers

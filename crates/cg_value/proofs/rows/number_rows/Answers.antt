use Rattle.cg_value.specs.RowLaws.{first_run, largest_number, idle, process_numbers, no_process}
use Rattle.cg_value.proofs.rows.number_rows.Goals as goal

pub returns-clause-first_run : goal.returns-clause-first_run
returns-clause-first_run c = first_run

pub returns-clause-largest_number : goal.returns-clause-largest_number
returns-clause-largest_number c = largest_number

pub returns-clause-idle : goal.returns-clause-idle
returns-clause-idle c = idle

pub returns-clause-process_numbers : goal.returns-clause-process_numbers
returns-clause-process_numbers c = process_numbers

pub returns-clause-no_process : goal.returns-clause-no_process
returns-clause-no_process c = no_process

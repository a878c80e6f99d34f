use Rattle.cg_value.specs.RowLaws.{domain_mode, nested, raw_nested, other_name, high_byte, not_readable}
use Rattle.cg_value.proofs.rows.other_rows.Goals as goal

pub returns-clause-domain_mode : goal.returns-clause-domain_mode
returns-clause-domain_mode c = domain_mode

pub returns-clause-nested : goal.returns-clause-nested
returns-clause-nested c = nested

pub returns-clause-raw_nested : goal.returns-clause-raw_nested
returns-clause-raw_nested c = raw_nested

pub returns-clause-other_name : goal.returns-clause-other_name
returns-clause-other_name c = other_name

pub returns-clause-high_byte : goal.returns-clause-high_byte
returns-clause-high_byte c = high_byte

pub returns-clause-not_readable : goal.returns-clause-not_readable
returns-clause-not_readable c = not_readable

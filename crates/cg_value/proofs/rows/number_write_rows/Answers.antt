use Rattle.cg_value.specs.SettingRowLaws.{lowest_nice, lowest_nice_prints, kill, kill_prints, short_clamp_row, short_clamp_prints}
use Rattle.cg_value.proofs.rows.number_write_rows.Goals as goal

pub returns-clause-lowest_nice : goal.returns-clause-lowest_nice
returns-clause-lowest_nice c = lowest_nice

pub returns-clause-lowest_nice_prints : goal.returns-clause-lowest_nice_prints
returns-clause-lowest_nice_prints c = lowest_nice_prints

pub returns-clause-kill : goal.returns-clause-kill
returns-clause-kill c = kill

pub returns-clause-kill_prints : goal.returns-clause-kill_prints
returns-clause-kill_prints c = kill_prints

pub returns-clause-short_clamp_row : goal.returns-clause-short_clamp_row
returns-clause-short_clamp_row c = short_clamp_row

pub returns-clause-short_clamp_prints : goal.returns-clause-short_clamp_prints
returns-clause-short_clamp_prints c = short_clamp_prints

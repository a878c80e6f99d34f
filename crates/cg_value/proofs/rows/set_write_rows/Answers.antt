use Rattle.cg_value.specs.SettingRowLaws.{loose_set_row, loose_set_prints, no_members, no_members_print}
use Rattle.cg_value.proofs.rows.set_write_rows.Goals as goal

pub returns-clause-loose_set_row : goal.returns-clause-loose_set_row
returns-clause-loose_set_row c = loose_set_row

pub returns-clause-loose_set_prints : goal.returns-clause-loose_set_prints
returns-clause-loose_set_prints c = loose_set_prints

pub returns-clause-no_members : goal.returns-clause-no_members
returns-clause-no_members c = no_members

pub returns-clause-no_members_print : goal.returns-clause-no_members_print
returns-clause-no_members_print c = no_members_print

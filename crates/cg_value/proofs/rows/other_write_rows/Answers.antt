use Rattle.cg_value.specs.SettingRowLaws.{toggles, toggles_print, not_writable}
use Rattle.cg_value.proofs.rows.other_write_rows.Goals as goal

pub returns-clause-toggles : goal.returns-clause-toggles
returns-clause-toggles c = toggles

pub returns-clause-toggles_print : goal.returns-clause-toggles_print
returns-clause-toggles_print c = toggles_print

pub returns-clause-not_writable : goal.returns-clause-not_writable
returns-clause-not_writable c = not_writable

use Rattle.cg_value.specs.SettingRowLaws.{weight_alone, weight_alone_prints, device_default, device_default_prints, two_limits_row, two_limits_print}
use Rattle.cg_value.proofs.rows.device_write_rows.Goals as goal

pub returns-clause-weight_alone : goal.returns-clause-weight_alone
returns-clause-weight_alone c = weight_alone

pub returns-clause-weight_alone_prints : goal.returns-clause-weight_alone_prints
returns-clause-weight_alone_prints c = weight_alone_prints

pub returns-clause-device_default : goal.returns-clause-device_default
returns-clause-device_default c = device_default

pub returns-clause-device_default_prints : goal.returns-clause-device_default_prints
returns-clause-device_default_prints c = device_default_prints

pub returns-clause-two_limits_row : goal.returns-clause-two_limits_row
returns-clause-two_limits_row c = two_limits_row

pub returns-clause-two_limits_print : goal.returns-clause-two_limits_print
returns-clause-two_limits_print c = two_limits_print

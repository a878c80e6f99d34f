use Rattle.cg_value.specs.RowLaws.{device_stats_rows, rate_is, device_pads, device_limits, device_weight_rows, own_weight, default_weight}
use Rattle.cg_value.proofs.rows.device_rows.Goals as goal

pub returns-clause-device_stats_rows : goal.returns-clause-device_stats_rows
returns-clause-device_stats_rows c = device_stats_rows

pub returns-clause-rate_is : goal.returns-clause-rate_is
returns-clause-rate_is c = rate_is

pub returns-clause-device_pads : goal.returns-clause-device_pads
returns-clause-device_pads c = device_pads

pub returns-clause-device_limits : goal.returns-clause-device_limits
returns-clause-device_limits c = device_limits

pub returns-clause-device_weight_rows : goal.returns-clause-device_weight_rows
returns-clause-device_weight_rows c = device_weight_rows

pub returns-clause-own_weight : goal.returns-clause-own_weight
returns-clause-own_weight c = own_weight

pub returns-clause-default_weight : goal.returns-clause-default_weight
returns-clause-default_weight c = default_weight

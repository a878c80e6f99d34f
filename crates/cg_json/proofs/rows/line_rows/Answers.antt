use Rattle.cg_json.specs.RowLaws.{no_quota, some_alone, no_text, two_devices, quote_in_key, two_ranges, pairs_of_a_key, limits_in_byte_order, why_invalid, below_zero}
use Rattle.cg_json.proofs.rows.line_rows.Goals as goal

pub returns-clause-no_quota : goal.returns-clause-no_quota
returns-clause-no_quota c = no_quota

pub returns-clause-some_alone : goal.returns-clause-some_alone
returns-clause-some_alone c = some_alone

pub returns-clause-no_text : goal.returns-clause-no_text
returns-clause-no_text c = no_text

pub returns-clause-two_devices : goal.returns-clause-two_devices
returns-clause-two_devices c = two_devices

pub returns-clause-quote_in_key : goal.returns-clause-quote_in_key
returns-clause-quote_in_key c = quote_in_key

pub returns-clause-two_ranges : goal.returns-clause-two_ranges
returns-clause-two_ranges c = two_ranges

pub returns-clause-pairs_of_a_key : goal.returns-clause-pairs_of_a_key
returns-clause-pairs_of_a_key c = pairs_of_a_key

pub returns-clause-limits_in_byte_order : goal.returns-clause-limits_in_byte_order
returns-clause-limits_in_byte_order c = limits_in_byte_order

pub returns-clause-why_invalid : goal.returns-clause-why_invalid
returns-clause-why_invalid c = why_invalid

pub returns-clause-below_zero : goal.returns-clause-below_zero
returns-clause-below_zero c = below_zero

use Rattle.cg_value.specs.SettingRowLaws.{only_quota, only_quota_prints, reclaim, reclaim_prints, largest_suffix, largest_suffix_prints, trigger, trigger_prints}
use Rattle.cg_value.proofs.rows.size_write_rows.Goals as goal

pub returns-clause-only_quota : goal.returns-clause-only_quota
returns-clause-only_quota c = only_quota

pub returns-clause-only_quota_prints : goal.returns-clause-only_quota_prints
returns-clause-only_quota_prints c = only_quota_prints

pub returns-clause-reclaim : goal.returns-clause-reclaim
returns-clause-reclaim c = reclaim

pub returns-clause-reclaim_prints : goal.returns-clause-reclaim_prints
returns-clause-reclaim_prints c = reclaim_prints

pub returns-clause-largest_suffix : goal.returns-clause-largest_suffix
returns-clause-largest_suffix c = largest_suffix

pub returns-clause-largest_suffix_prints : goal.returns-clause-largest_suffix_prints
returns-clause-largest_suffix_prints c = largest_suffix_prints

pub returns-clause-trigger : goal.returns-clause-trigger
returns-clause-trigger c = trigger

pub returns-clause-trigger_prints : goal.returns-clause-trigger_prints
returns-clause-trigger_prints c = trigger_prints

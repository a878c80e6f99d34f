use Rattle.cg_write.specs.OneSettingLaws.{one_setting, one_setting_of_name}
use Rattle.cg_write.proofs.laws.one_setting.Goals as goal

pub returns-clause-kind : goal.returns-clause-kind
returns-clause-kind c = one_setting

pub returns-clause-name : goal.returns-clause-name
returns-clause-name c = one_setting_of_name

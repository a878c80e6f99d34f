use Rattle.cg_text.specs.Bytes.{HasByte}
use Rattle.cg_line.specs.RestsLaws.{next_is}
use Rattle.cg_line.specs.SettingReads.{is_setting_reads}
use Rattle.cg_line.proofs.setting_reader.SettingReader.allowed.Goals as goal

pub returns : goal.returns
returns c kind taken h = next_is (is_setting_reads c.args.self.now kind taken h) (HasByte c.allowed_by.result) c.allowed_by.ensures

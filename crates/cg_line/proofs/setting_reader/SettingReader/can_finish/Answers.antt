use Rattle.cg_write.specs.contracts.any_write.AnyWriteToken.TheImpl.{ghosts}
use Rattle.cg_line.specs.RestsLaws.{whole_is}
use Rattle.cg_line.specs.SettingReads.{is_setting_reads}
use Rattle.cg_line.proofs.setting_reader.SettingReader.can_finish.Goals as goal

pub returns : goal.returns
returns c kind taken h = let text = c.args.self.now.text in whole_is (is_setting_reads c.args.self.now kind taken h) (ghosts.ends text) c.can_end.result (ghosts.ends_is text) c.can_end.ensures

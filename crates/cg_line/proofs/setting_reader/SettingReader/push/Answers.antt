use Rattle.cg_write.specs.contracts.any_write.AnyWriteToken.TheImpl.{ghosts}
use Rattle.cg_line.specs.RestsLaws.{read_byte}
use Rattle.cg_line.specs.SettingReads.{SettingReads, is_setting_reads}
use Rattle.cg_line.proofs.setting_reader.SettingReader.push.Goals as goal

pub returns-clause-pushed : goal.returns-clause-pushed
unfolding SettingReads
returns-clause-pushed c kind taken h = let new = c.push_to.new.text in read_byte (is_setting_reads c.args.self.now kind taken h) (ghosts.means new) (ghosts.size new) c.args.byte c.push_to.result c.push_to.ensures.pushed
